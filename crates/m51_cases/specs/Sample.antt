-- A sound layout and a valid module, which show that there are such.
use Rattle.std.specs.Prelude.{ℕ, List, [], ◌∷◌, true, false, codes}
use Rattle.m51_cells.specs.declared.kind.Base.{Base}
use Rattle.m51_cells.specs.declared.kind.Base.TheVariants.{None as NoBase, Segment as InSegment, External as OfExternal}
use Rattle.m51_cells.specs.declared.kind.Kind.TheVariants.{Code, Direct, Number}
use Rattle.m51_cells.specs.declared.kind.Reloc.{Reloc}
use Rattle.m51_cells.specs.declared.kind.Reloc.TheVariants.{Abs, Unit as UnitType}
use Rattle.m51_module.specs.declared.content.Fixup.{Fixup}
use Rattle.m51_module.specs.declared.content.Form.TheVariants.{Byte}
use Rattle.m51_module.specs.declared.content.Piece.{Piece}
use Rattle.m51_module.specs.declared.parts.LayoutParts.{LayoutParts}
use Rattle.m51_module.specs.declared.parts.ModuleParts.{ModuleParts}
use Rattle.m51_module.specs.declared.placed.Mark.{Mark}
use Rattle.m51_module.specs.declared.placed.Mark.TheVariants.{Absolute, Plain, Overlaid}
use Rattle.m51_module.specs.declared.placed.Placed.{Placed}
use Rattle.m51_module.specs.declared.segment.Segment.{Segment}
use Rattle.m51_module.specs.declared.symbol.External.{External}
use Rattle.m51_module.specs.declared.symbol.Public.{Public}
use Rattle.m51_module.specs.Walks.{Edges}

-- a segment of program memory of one byte
abbrev pub code : List ℕ → Reloc → Mark → ℕ → Placed
code title reloc mark base = record { title = title; kind = Code; reloc = reloc; mark = mark; base = base; size = 1 }

-- an overlaid byte of DATA
abbrev pub overlaid : List ℕ → ℕ → Placed
overlaid title base = record { title = title; kind = Direct; reloc = UnitType; mark = Overlaid; base = base; size = 1 }

-- the first unit calls the two others
abbrev pub calls : Edges
calls = (0, 1) ∷ (0, 2) ∷ []

-- A layout of three units, of which the first begins at the reset's vector and calls the other two, whose locals share
-- the byte at 08H. The byte at 09H is an argument of the second unit, which the first one, its caller, owns too.
abbrev pub sample_layout : List ℕ → LayoutParts
sample_layout root = record {
  placed = code root Abs Absolute 0 ∷ code [] UnitType Plain 1 ∷ code [] UnitType Plain 2
      ∷ overlaid [] 8 ∷ overlaid [] 8 ∷ overlaid [] 9 ∷ [];
  units = 0 ∷ 1 ∷ 2 ∷ [];
  edges = calls;
  owners = (3, 1) ∷ (4, 2) ∷ (5, 1) ∷ (5, 0) ∷ [];
}

-- the names of the module, of its public, of its segment of DATA and of its external
abbrev pub m : List ℕ
m = codes "M"

abbrev pub d : List ℕ
d = codes "D"

abbrev pub f : List ℕ
f = codes "?AG?F"

abbrev pub x : List ℕ
x = codes "X"

-- a field of one byte in the first segment
abbrev pub field : ℕ → Base → Fixup
field offset target = record { segment = 1; offset = offset; form = Byte; bit = 0; target = target; addend = 0 }

-- its segments: three bytes of program memory at 0000H, and a byte of DATA that is an argument
abbrev pub code_segment : Segment
code_segment = record { name = []; kind = Code; reloc = Abs; overlay = false; argument = false; base = 0; size = 3 }

abbrev pub data_segment : Segment
data_segment = record { name = f; kind = Direct; reloc = UnitType; overlay = true; argument = true; base = 0; size = 1 }

-- its public, the byte
abbrev pub byte_public : Public
byte_public = record { name = d; kind = Direct; base = InSegment 2; number = 0 }

-- its external
abbrev pub byte_external : External
byte_external = record { name = x; kind = Direct }

-- its content: MOV direct,direct with both addresses left open
abbrev pub mov_piece : Piece
mov_piece = record { segment = 1; offset = 0; bytes = 0x85 ∷ 0 ∷ 0 ∷ [] }

-- A module with the instruction MOV direct,direct at 0000H, whose operands are an external and a byte of its own.
abbrev pub sample_module : ModuleParts
sample_module = record {
  name = m;
  version = 2;
  segments = code_segment ∷ data_segment ∷ [];
  publics = byte_public ∷ [];
  externals = byte_external ∷ [];
  pieces = mov_piece ∷ [];
  fixups = field 1 (OfExternal 1) ∷ field 2 (InSegment 2) ∷ [];
  banks = 1;
}

-- a public that is the number 0
abbrev pub number_public : List ℕ → Public
number_public name = record { name = name; kind = Number; base = NoBase; number = 0 }

-- A module without segments, with one such public.
abbrev pub public_module : List ℕ → List ℕ → ModuleParts
public_module name public = record {
  name = name;
  version = 1;
  segments = [];
  publics = number_public public ∷ [];
  externals = [];
  pieces = [];
  fixups = [];
  banks = 1;
}
