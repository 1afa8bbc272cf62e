-- The record of a fixup.
use Rattle.std.specs.Prelude.{ℕ, zero, suc, ◌+◌, ◌-◌, Bool, true, not, ◌&&◌, ◌||◌, ◌==◌, nat_le, nat_lt, List, []}
use Rattle.std.specs.Prelude.{◌∷◌, ◌++◌, length, Option, Some, None, Result, Ok}
use Rattle.std.specs.List.{list_any}
use Rattle.m51_cells.specs.declared.kind.Base.{Base}
use Rattle.m51_cells.specs.declared.kind.Base.TheVariants.{None as NoBase, Segment as InSegment, External as OfExternal}
use Rattle.m51_cells.specs.declared.limits.TheConstants.{MOST_FIXUPS}
use Rattle.m51_module.specs.declared.content.Fixup.{Fixup}
use Rattle.m51_module.specs.declared.content.Form.{Form}
use Rattle.m51_module.specs.declared.content.Form.TheVariants.{Conv}
use Rattle.m51_module.specs.declared.content.Piece.{Piece}
use Rattle.m51_module.specs.declared.segment.Segment.{Segment}
use Rattle.m51_module.specs.declared.symbol.External.{External}
use Rattle.m51_module.specs.Validity.{numbered, field_len}
use Rattle.m51_module.specs.declared.object_error.ObjError.{ObjError}
use Rattle.m51_records.specs.Codes.{form_number, form_by_code}
use Rattle.m51_records.specs.Contents.{latest}
use Rattle.m51_frame.specs.Fields.{◌>>=◌, checked, or_broken, or_absent, byte_at, pair, pair_at, ended}

-- 0 for a segment, 1 for an external; then its number
abbrev pub target_fields : Base → List ℕ
target_fields NoBase = 0 ∷ 0 ∷ []
target_fields (InSegment number) = 0 ∷ number ∷ []
target_fields (OfExternal number) = 1 ∷ number ∷ []

-- segment, offset, form, bit, target, addend
abbrev pub fixup_contents : Fixup → List ℕ
fixup_contents f = f.segment ∷ (pair f.offset ++ form_number f.form ∷ f.bit ∷ (target_fields f.target ++ pair f.addend))

-- the field before is in no later segment
abbrev pub field_segment_follows : Option Fixup → ℕ → Bool
field_segment_follows None segment = true
field_segment_follows (Some f) segment = nat_le f.segment segment

-- the number of one of `segments`; fields ascend by their segments
unfoldable pub fixup_segment_at : List Segment → Option Fixup → ℕ → List ℕ → Result (ℕ × List ℕ) ObjError
fixup_segment_at segments previous end bytes = do
  number ← byte_at end bytes
  segment ← or_absent (numbered segments number.0) end bytes
  checked (field_segment_follows previous number.0) end bytes number

-- the field before ends at the offset or below it, where it is in the same segment
abbrev pub field_follows : Option Fixup → ℕ → ℕ → Bool
field_follows None segment offset = true
field_follows (Some f) segment offset = not (f.segment == segment) || nat_le (f.offset + field_len f.form) offset

unfoldable pub fixup_offset_at : Option Fixup → ℕ → ℕ → List ℕ → Result (ℕ × List ℕ) ObjError
fixup_offset_at previous segment end bytes = do
  offset ← pair_at end bytes
  checked (field_follows previous segment offset.0) end bytes offset

-- the piece holds the byte at that offset of the segment
abbrev pub holds : ℕ → ℕ → Piece → Bool
holds segment offset p =
    (p.segment == segment) && (nat_le p.offset offset && nat_lt (offset - p.offset) (length p.bytes))

-- some piece holds it
abbrev pub is_held : List Piece → ℕ → ℕ → Bool
is_held pieces segment offset = list_any (holds segment offset) pieces

-- pieces hold each byte of the field
abbrev pub is_inside : List Piece → ℕ → ℕ → Form → Bool
is_inside pieces segment offset form =
    is_held pieces segment offset && ((field_len form == 1) || is_held pieces segment (offset + 1))

-- a form, whose field lies inside the content
unfoldable pub form_at : List Piece → ℕ → ℕ → ℕ → List ℕ → Result (Form × List ℕ) ObjError
form_at pieces segment offset end bytes = do
  number ← byte_at end bytes
  form ← or_broken (form_by_code number.0) end bytes
  checked (is_inside pieces segment offset form) end bytes (form, number.1)

-- 0 to 7 for CONV, and 0 else
abbrev pub is_bit : Form → ℕ → Bool
is_bit Conv bit = nat_le bit 7
is_bit _ bit = bit == 0

unfoldable pub bit_at : Form → ℕ → List ℕ → Result (ℕ × List ℕ) ObjError
bit_at form end bytes = do
  bit ← byte_at end bytes
  checked (is_bit form bit.0) end bytes bit

-- the segment or external of that number
abbrev pub target_by_number : List Segment → List External → ℕ → ℕ → ℕ → List ℕ → Result Base ObjError
target_by_number segments externals zero number end field = do
  segment ← or_absent (numbered segments number) end field
  Ok (InSegment number)
target_by_number segments externals (suc more) number end field = do
  external ← or_absent (numbered externals number) end field
  Ok (OfExternal number)

-- the tag is 0 or 1
abbrev pub tag_at : ℕ → List ℕ → Result (ℕ × List ℕ) ObjError
tag_at end bytes = do
  tag ← byte_at end bytes
  checked (nat_le tag.0 1) end bytes tag

unfoldable pub target_at : List Segment → List External → ℕ → List ℕ → Result (Base × List ℕ) ObjError
target_at segments externals end bytes = do
  tag ← tag_at end bytes
  number ← byte_at end tag.1
  target ← target_by_number segments externals tag.0 number.0 end tag.1
  Ok (target, number.1)

-- the addend, the last field
unfoldable pub addend_at : ℕ → List ℕ → Result ℕ ObjError
addend_at end bytes = do
  addend ← pair_at end bytes
  ended end addend.1 addend.0

-- at most 65,535 fixups
unfoldable pub fixup_in : List Segment → List External → List Piece → List Fixup → ℕ → List ℕ → Result Fixup ObjError
fixup_in segments externals pieces before end bytes = do
  all ← checked (nat_lt (length before) MOST_FIXUPS) end bytes bytes
  segment ← fixup_segment_at segments (latest before) end all
  offset ← fixup_offset_at (latest before) segment.0 end segment.1
  form ← form_at pieces segment.0 offset.0 end offset.1
  bit ← bit_at form.0 end form.1
  target ← target_at segments externals end bit.1
  addend ← addend_at end target.1
  Ok (record { segment = segment.0; offset = offset.0; form = form.0; bit = bit.0; target = target.0; addend = addend })
