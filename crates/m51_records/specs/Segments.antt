-- The record of a segment.
use Rattle.std.specs.Prelude.{ℕ, zero, suc, ◌+◌, Bool, true, false, not, ◌&&◌, ◌||◌, ◌==◌, nat_le, nat_lt}
use Rattle.std.specs.Prelude.{if◌then◌else◌, List, [], ◌∷◌, ◌++◌, length, Option, Some, None, Result, Ok}
use Rattle.std.specs.List.{list_any}
use Rattle.m51_cells.specs.declared.kind.Kind.{Kind}
use Rattle.m51_cells.specs.declared.kind.Kind.TheVariants.{Direct, Idata, Bits, Number}
use Rattle.m51_cells.specs.declared.kind.Reloc.{Reloc}
use Rattle.m51_cells.specs.declared.limits.TheConstants.{MOST_MODULE_SEGMENTS}
use Rattle.m51_cells.specs.Kinds.{same_kind, is_absolute, allows, may_overlay, largest}
use Rattle.m51_module.specs.Arguments.{is_argument_name}
use Rattle.m51_module.specs.declared.segment.Segment.{Segment}
use Rattle.m51_module.specs.declared.object_error.ObjError.{ObjError}
use Rattle.m51_records.specs.Codes.{kind_number, kind_of, reloc_number, reloc_by_code}
use Rattle.m51_frame.specs.Fields.{◌>>=◌, checked, or_broken, byte_at, pair, pair_at, text_field, text_at, same}
use Rattle.m51_frame.specs.Fields.{upper_name, ended}

-- bit 0 of the flags is OVERLAYABLE, bit 1 ARGUMENT
abbrev pub flags_of : Bool → Bool → ℕ
flags_of false false = 0
flags_of true false = 1
flags_of false true = 2
flags_of true true = 3

-- kind, type, flags, base, size, name
abbrev pub segment_contents : Segment → List ℕ
segment_contents s =
    kind_number s.kind ∷ reloc_number s.reloc ∷ flags_of s.overlay s.argument
    ∷ (pair s.base ++ (pair s.size ++ text_field s.name))

-- a kind of memory
unfoldable pub segment_kind_at : ℕ → List ℕ → Result (Kind × List ℕ) ObjError
segment_kind_at end bytes = do
  number ← byte_at end bytes
  kind ← or_broken (kind_of number.0) end bytes
  checked (not (same_kind kind Number)) end bytes (kind, number.1)

-- a type that the kind allows
unfoldable pub reloc_at : Kind → ℕ → List ℕ → Result (Reloc × List ℕ) ObjError
reloc_at kind end bytes = do
  number ← byte_at end bytes
  reloc ← or_broken (reloc_by_code number.0) end bytes
  checked (allows kind reloc) end bytes (reloc, number.1)

-- what the flags say of OVERLAYABLE and of ARGUMENT, where no other bit is set
abbrev pub marks_of : ℕ → Option (Bool × Bool)
marks_of zero = Some (false, false)
marks_of (suc zero) = Some (true, false)
marks_of (suc (suc zero)) = Some (false, true)
marks_of (suc (suc (suc zero))) = Some (true, true)
marks_of (suc (suc (suc (suc more)))) = None

-- ARGUMENT is for OVERLAYABLE segments of DATA in version 2
abbrev pub may_mark : ℕ → Kind → Bool → Bool
may_mark version kind overlay = (version == 2) && (overlay && same_kind kind Direct)

-- a segment of the kind and type may have these marks, OVERLAYABLE and ARGUMENT
abbrev pub are_marks : ℕ → Kind → Reloc → Bool → Bool → Bool
are_marks version kind reloc overlay argument =
    (not overlay || may_overlay kind reloc) && (not argument || may_mark version kind overlay)

unfoldable pub marks_at : ℕ → Kind → Reloc → ℕ → List ℕ → Result ((Bool × Bool) × List ℕ) ObjError
marks_at version kind reloc end bytes = do
  flags ← byte_at end bytes
  marks ← or_broken (marks_of flags.0) end bytes
  checked (are_marks version kind reloc marks.0 marks.1) end bytes (marks, flags.1)

-- the base of a relocatable segment is 0
unfoldable pub base_at : Reloc → ℕ → List ℕ → Result (ℕ × List ℕ) ObjError
base_at reloc end bytes = do
  base ← pair_at end bytes
  checked (is_absolute reloc || base.0 == 0) end bytes base

-- the end of the memory of a kind, as the table of bases has it
abbrev pub limit : Kind → ℕ
limit Direct = 0x80
limit Bits = 0x80
limit Idata = 0x100
limit _ = 0x10000

-- An absolute segment has a byte or more, and fits: `Fits kind Abs`, as a test (proofs/Placing ties the two).
abbrev pub is_placed : Kind → ℕ → ℕ → Bool
is_placed kind base size = nat_lt 0 size && nat_le (base + size) (limit kind)

abbrev pub is_size : Kind → Reloc → ℕ → ℕ → Bool
is_size kind reloc base size = nat_le size (largest kind) && (not (is_absolute reloc) || is_placed kind base size)

unfoldable pub size_at : Kind → Reloc → ℕ → ℕ → List ℕ → Result (ℕ × List ℕ) ObjError
size_at kind reloc base end bytes = do
  size ← pair_at end bytes
  checked (is_size kind reloc base size.0) end bytes size

-- one of the segments has the name
abbrev pub names_segment : List Segment → List ℕ → Bool
names_segment before name = list_any (λ (s : Segment). same name s.name) before

-- an absolute segment has no name; another has one that none before it has
abbrev pub no_text : List ℕ → Option (List ℕ)
no_text [] = Some []
no_text (byte ∷ more) = None

abbrev pub segment_name : Reloc → List ℕ → Option (List ℕ)
segment_name reloc text = if is_absolute reloc then no_text text else upper_name text

abbrev pub is_new : List Segment → Reloc → List ℕ → Bool
is_new before reloc name = is_absolute reloc || not (names_segment before name)

-- the name is new, and that of an argument segment begins with ?AG?
unfoldable pub may_have : List Segment → Reloc → Bool → List ℕ → Bool
may_have before reloc argument name = is_new before reloc name && (not argument || is_argument_name name)

-- the name, the last field
unfoldable pub segment_name_at : List Segment → Reloc → Bool → ℕ → List ℕ → Result (List ℕ) ObjError
segment_name_at before reloc argument end bytes = do
  text ← text_at end bytes
  name ← or_broken (segment_name reloc text.0) end bytes
  new ← checked (may_have before reloc argument name) end bytes name
  ended end text.1 new

-- at most 254 segments, of a module of that version
unfoldable pub segment_in : ℕ → List Segment → ℕ → List ℕ → Result Segment ObjError
segment_in version before end bytes = do
  all ← checked (nat_lt (length before) MOST_MODULE_SEGMENTS) end bytes bytes
  kind ← segment_kind_at end all
  reloc ← reloc_at kind.0 end kind.1
  marks ← marks_at version kind.0 reloc.0 end reloc.1
  base ← base_at reloc.0 end marks.1
  size ← size_at kind.0 reloc.0 base.0 end base.1
  name ← segment_name_at before reloc.0 marks.0.1 end size.1
  Ok (record {
    name = name;
    kind = kind.0;
    reloc = reloc.0;
    overlay = marks.0.0;
    argument = marks.0.1;
    base = base.0;
    size = size.0;
  })
