-- The module of a disassembly.
use Rattle.std.specs.Prelude.{◌≡◌, ℕ, suc, false, List, [], ◌∷◌, ◌++◌, map}
use Rattle.m51_cells.specs.declared.kind.Kind.TheVariants as kind
use Rattle.m51_cells.specs.declared.kind.Reloc.TheVariants as reloc
use Rattle.m51_module.specs.declared.content.Piece.{Piece}
use Rattle.m51_module.specs.declared.parts.ModuleParts.{ModuleParts}
use Rattle.m51_module.specs.declared.segment.Segment.{Segment}
use Rattle.m51_emit.specs.Pieces.{pieces_of_run}
use Rattle.m51_asm.specs.Naming.{module_name}
use Rattle.m51_asm.specs.Answer.{AnswerTree, Gives, Faults}
use Rattle.m51_disasm.specs.declared.part.CodeRange.{CodeRange}
use Rattle.m51_disasm_proof.specs.Standing.{bytes_at}

-- the absolute segment of CODE of a part
abbrev pub range_segment : CodeRange → Segment
range_segment part = record {
  name = [];
  kind = kind.Code;
  reloc = reloc.Abs;
  overlay = false;
  argument = false;
  base = part.base;
  size = part.size;
}

-- The pieces of parts, whose segments are numbered from this number on: the bytes of the image of each, from its first
-- byte on.
abbrev pub pieces_from : ℕ → List ℕ → List CodeRange → List Piece
pieces_from number image [] = []
pieces_from number image (part ∷ parts) =
    pieces_of_run number (0, bytes_at image part.base part.size) ++ pieces_from (suc number) image parts

-- The module of these parts of an image, which has its name from a file: for each part its segment with its bytes, and
-- nothing else.
abbrev pub module_of : List ℕ → List ℕ → List CodeRange → ModuleParts
module_of file image parts = record {
  name = module_name file;
  version = 1;
  segments = map range_segment parts;
  publics = [];
  externals = [];
  pieces = pieces_from 1 image parts;
  fixups = [];
  banks = 1;
}

-- the answer is this module, with the rows of its lines
abbrev pub GivesModule : ModuleParts → AnswerTree → Type 0
GivesModule m (Gives parts rows) = parts ≡ m
GivesModule m (Faults faults) = ⊥
