-- The record of a piece of content.
use Rattle.std.specs.Prelude.{ℕ, ◌+◌, ◌-◌, Bool, true, ◌&&◌, ◌==◌, nat_le, nat_lt, min, if◌then◌else◌, List, ◌∷◌}
use Rattle.std.specs.Prelude.{◌++◌, length, drop, slice_get, Option, Some, None, Result, Ok}
use Rattle.m51_module.specs.declared.content.Piece.{Piece}
use Rattle.m51_cells.specs.declared.limits.TheConstants.{MOST_PIECE_BYTES}
use Rattle.m51_module.specs.declared.segment.Segment.{Segment}
use Rattle.m51_module.specs.Validity.{numbered}
use Rattle.m51_module.specs.declared.object_error.ObjError.{ObjError}
use Rattle.m51_cells.specs.Kinds.{is_code}
use Rattle.m51_frame.specs.Fields.{◌>>=◌, checked, or_absent, byte_at, pair, pair_at}
use Rattle.m51_frame.specs.Pieces.{ends_before}

-- segment, offset, bytes
abbrev pub piece_contents : Piece → List ℕ
piece_contents p = p.segment ∷ (pair p.offset ++ p.bytes)

-- the last of those before, if there is one
abbrev pub latest : {X : Type 0} → List X → Option X
latest before = slice_get before (length before - 1)

-- the piece before is in no later segment
abbrev pub segment_follows : Option Piece → ℕ → Bool
segment_follows None segment = true
segment_follows (Some p) segment = nat_le p.segment segment

-- the number and the size of a segment of program memory, one of `segments`; pieces ascend by their segments
unfoldable pub code_segment_at : List Segment → Option Piece → ℕ → List ℕ → Result ((ℕ × ℕ) × List ℕ) ObjError
code_segment_at segments previous end bytes = do
  number ← byte_at end bytes
  segment ← or_absent (numbered segments number.0) end bytes
  checked (is_code segment.kind && segment_follows previous number.0) end bytes ((number.0, segment.size), number.1)

-- the piece before ends so, where it is in the same segment
abbrev pub piece_follows : Option Piece → ℕ → ℕ → Bool
piece_follows None segment offset = true
piece_follows (Some p) segment offset = if p.segment == segment then ends_before p offset else true

unfoldable pub piece_offset_at : Option Piece → ℕ → ℕ → List ℕ → Result (ℕ × List ℕ) ObjError
piece_offset_at previous segment end bytes = do
  offset ← pair_at end bytes
  checked (piece_follows previous segment offset.0) end bytes offset

-- no more bytes than that; those past them are left over
abbrev pub limited : ℕ → ℕ → List ℕ → Result (List ℕ) ObjError
limited most end bytes = checked (nat_le (length bytes) most) end (drop most bytes) bytes

-- one byte or more, of which as many as a piece may have lie inside the segment; and no more than those
unfoldable pub content_at : ℕ → ℕ → ℕ → List ℕ → Result (List ℕ) ObjError
content_at size offset end bytes = do
  inside ← checked
      (nat_lt 0 (length bytes) && nat_le (offset + min (length bytes) MOST_PIECE_BYTES) size) end bytes bytes
  limited MOST_PIECE_BYTES end inside

unfoldable pub piece_in : List Segment → List Piece → ℕ → List ℕ → Result Piece ObjError
piece_in segments before end bytes = do
  segment ← code_segment_at segments (latest before) end bytes
  offset ← piece_offset_at (latest before) segment.0.0 end segment.1
  content ← content_at segment.0.1 offset.0 end offset.1
  Ok (record { segment = segment.0.0; offset = offset.0; bytes = content })
