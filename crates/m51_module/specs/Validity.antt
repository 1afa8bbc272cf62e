-- Which modules are valid.
use Rattle.std.specs.Prelude.{◌≡◌, ◌≢◌, ◌⊎◌, ℕ, zero, suc, ◌+◌, ◌%◌, ◌<◌, ◌≤◌, true, List, [], length, slice_get}
use Rattle.std.specs.Prelude.{Option, Some, None}
use Rattle.std.specs.List.{All, AllPairs, Contains}
use Rattle.m51_cells.specs.declared.kind.Base.{Base}
use Rattle.m51_cells.specs.declared.kind.Base.TheVariants.{None as NoBase, Segment as InSegment, External as OfExternal}
use Rattle.m51_cells.specs.declared.kind.Kind.{Kind}
use Rattle.m51_cells.specs.declared.kind.Kind.TheVariants.{Code, Direct, Number}
use Rattle.m51_cells.specs.declared.kind.Reloc.TheVariants.{Abs}
use Rattle.m51_cells.specs.declared.limits.TheConstants.{MOST_MODULE_SEGMENTS, MOST_EXTERNALS, MOST_FIXUPS}
use Rattle.m51_cells.specs.declared.limits.TheConstants.{MOST_PIECE_BYTES}
use Rattle.m51_cells.specs.Fits.{Fits}
use Rattle.m51_cells.specs.Kinds.{allows, largest, may_overlay}
use Rattle.m51_cells.specs.Name.{IsWritten}
use Rattle.m51_module.specs.Arguments.{is_argument_name}
use Rattle.m51_module.specs.declared.content.Fixup.{Fixup}
use Rattle.m51_module.specs.declared.content.Form.{Form}
use Rattle.m51_module.specs.declared.content.Form.TheVariants.{Word, Inblock, Conv}
use Rattle.m51_module.specs.declared.content.Piece.{Piece}
use Rattle.m51_module.specs.declared.parts.ModuleParts.{ModuleParts}
use Rattle.m51_module.specs.declared.segment.Segment.{Segment}
use Rattle.m51_module.specs.declared.symbol.External.{External}
use Rattle.m51_module.specs.declared.symbol.Public.{Public}

-- the one of that number, counted from 1
abbrev pub numbered : {A : Type 0} → List A → ℕ → Option A
numbered items zero = None
numbered items (suc before) = slice_get items before

-- an absolute segment has no name and at least one byte, and fits
pub record IsAbsolute (s : Segment) : Type 0 where
  pub name : s.name ≡ []
  pub some : 0 < s.size
  pub fits : Fits s.kind Abs s.base s.size

-- a relocatable segment has a name and base 0
pub record IsRelocatable (s : Segment) : Type 0 where
  pub name : IsWritten s.name
  pub base : s.base ≡ 0

-- A segment with the argument mark is OVERLAYABLE DATA, and its name begins with ?AG?.
pub record IsArgument (s : Segment) : Type 0 where
  pub kind : s.kind ≡ Direct
  pub overlay : s.overlay ≡ true
  pub name : is_argument_name s.name ≡ true

-- A segment has a kind and a type that the kind allows, is not too large, and is absolute or relocatable. It is
-- OVERLAYABLE and has the argument mark at most where it may.
pub record IsSegmentValid (s : Segment) : Type 0 where
  pub kind : s.kind ≢ Number
  pub reloc : allows s.kind s.reloc ≡ true
  pub size : s.size ≤ largest s.kind
  pub absolute : s.reloc ≡ Abs → IsAbsolute s
  pub relocatable : s.reloc ≢ Abs → IsRelocatable s
  pub overlay : s.overlay ≡ true → may_overlay s.kind s.reloc ≡ true
  pub argument : s.argument ≡ true → IsArgument s

-- the versions of a module
abbrev pub IsVersion : ℕ → Type 0
IsVersion version = (version ≡ 1) ⊎ (version ≡ 2)

-- the two names differ, where the first is one
abbrev pub Differ : List ℕ → List ℕ → Type 0
Differ one two = one ≢ [] → one ≢ two

-- The base of a public: none, or a segment of the module that has the kind of the public.
abbrev pub IsPublicBase : List Segment → Kind → Base → Type 0
IsPublicBase segments kind NoBase = Unit {0}
IsPublicBase segments kind (InSegment number) = (s : Segment) × (numbered segments number ≡ Some s) × (s.kind ≡ kind)
IsPublicBase segments kind (OfExternal number) = ⊥

-- a public has a name and an allowed base
pub record IsPublicValid (segments : List Segment) (p : Public) : Type 0 where
  pub name : IsWritten p.name
  pub base : IsPublicBase segments p.kind p.base

-- A piece has 1 to 1,024 bytes, and lies in a segment of program memory, inside its size.
pub record IsPieceValid (segments : List Segment) (p : Piece) : Type 0 where
  pub some : 0 < length p.bytes
  pub most : length p.bytes ≤ MOST_PIECE_BYTES
  pub segment : Segment
  pub is : numbered segments p.segment ≡ Some segment
  pub code : segment.kind ≡ Code
  pub inside : p.offset + length p.bytes ≤ segment.size

-- The first piece lies before the second: in an earlier segment, or before it in one; they touch only where the first
-- has 1,024 bytes.
pub data LiesBefore (p q : Piece) : Type 0 where
  EarlierSegment : p.segment < q.segment → LiesBefore p q
  Apart : p.segment ≡ q.segment → p.offset + length p.bytes < q.offset → LiesBefore p q
  Touching : p.segment ≡ q.segment → p.offset + length p.bytes ≡ q.offset → length p.bytes ≡ MOST_PIECE_BYTES
      → LiesBefore p q

-- how many bytes a field of the form has
abbrev pub field_len : Form → ℕ
field_len Word = 2
field_len Inblock = 2
field_len _ = 1

-- the number of the bit is 0 to 7 for CONV, and 0 else
abbrev pub IsBitNumber : Form → ℕ → Type 0
IsBitNumber Conv bit = bit ≤ 7
IsBitNumber _ bit = bit ≡ 0

-- the target is a segment or an external of the module
abbrev pub IsTarget : List Segment → List External → Base → Type 0
IsTarget segments externals NoBase = ⊥
IsTarget segments externals (InSegment number) = (s : Segment) × (numbered segments number ≡ Some s)
IsTarget segments externals (OfExternal number) = (e : External) × (numbered externals number ≡ Some e)

-- a piece holds the byte at that offset of the segment
pub record IsHeld (pieces : List Piece) (segment offset : ℕ) : Type 0 where
  pub piece : Piece
  pub is : Contains pieces piece
  pub same : piece.segment ≡ segment
  pub from : piece.offset ≤ offset
  pub below : offset < piece.offset + length piece.bytes

-- A fixup has a bit number and a target, and pieces hold each byte of its field; so the pieces that hold it touch.
pub record IsFixupValid (segments : List Segment) (externals : List External) (pieces : List Piece) (f : Fixup)
    : Type 0 where
  pub bit : IsBitNumber f.form f.bit
  pub target : IsTarget segments externals f.target
  pub held : (k : ℕ) → k < field_len f.form → IsHeld pieces f.segment (f.offset + k)

-- the field of the first fixup lies before that of the second
pub data FieldBefore (f g : Fixup) : Type 0 where
  EarlierSegmentOf : f.segment < g.segment → FieldBefore f g
  BeforeIn : f.segment ≡ g.segment → f.offset + field_len f.form ≤ g.offset → FieldBefore f g

-- A module is valid.
pub record IsValid (m : ModuleParts) : Type 0 where
  pub name : IsWritten m.name
  pub version : IsVersion m.version
  pub few_segments : length m.segments ≤ MOST_MODULE_SEGMENTS
  pub few_externals : length m.externals ≤ MOST_EXTERNALS
  pub few_fixups : length m.fixups ≤ MOST_FIXUPS
  pub segments : All IsSegmentValid m.segments
  -- argument segments are in modules of version 2 only
  pub marks : All (λ s. s.argument ≡ true → m.version ≡ 2) m.segments
  -- segments without a name are absolute ones
  pub segment_names : AllPairs (λ s t. Differ s.name t.name) m.segments
  pub publics : All (IsPublicValid m.segments) m.publics
  pub public_names : AllPairs (λ p q. p.name ≢ q.name) m.publics
  pub externals : All (λ e. IsWritten e.name) m.externals
  pub external_names : AllPairs (λ e f. e.name ≢ f.name) m.externals
  pub pieces : All (IsPieceValid m.segments) m.pieces
  pub piece_order : AllPairs LiesBefore m.pieces
  pub fixups : All (IsFixupValid m.segments m.externals m.pieces) m.fixups
  pub fixup_order : AllPairs FieldBefore m.fixups
  -- bit 0 of the banks is set, and none above bit 3
  pub banks : m.banks % 2 ≡ 1
  pub few_banks : m.banks < 16
