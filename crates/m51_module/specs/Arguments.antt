-- Argument segments: their names, and the mark that says in version 2 that a segment is one.
use Rattle.std.specs.Prelude.{nat_eq, ℕ, Bool, ◌&&◌, ◌||◌, List, map, codes}
use Rattle.std.specs.List.{starts_with}
use Rattle.m51_cells.specs.declared.kind.Kind.TheVariants.{Direct}
use Rattle.m51_cells.specs.Kinds.{same_kind}
use Rattle.m51_module.specs.declared.parts.ModuleParts.{ModuleParts}
use Rattle.m51_module.specs.declared.segment.Segment.{Segment}

-- what the name of an argument segment begins with: ?AG?
abbrev pub argument_front : List ℕ
argument_front = codes "?AG?"

-- the name begins with it
abbrev pub is_argument_name : List ℕ → Bool
is_argument_name name = starts_with nat_eq name argument_front

-- the segment may be marked: it is OVERLAYABLE DATA with such a name
abbrev pub may_be_argument : Segment → Bool
may_be_argument s = s.overlay && same_kind s.kind Direct && is_argument_name s.name

-- the segment, marked where it may be
abbrev pub marked : Segment → Segment
marked s = record {
  name = s.name;
  kind = s.kind;
  reloc = s.reloc;
  overlay = s.overlay;
  argument = s.argument || may_be_argument s;
  base = s.base;
  size = s.size;
}

-- the module in version 2, with each segment marked that may be
abbrev pub raised : ModuleParts → ModuleParts
raised m = record {
  name = m.name;
  version = 2;
  segments = map marked m.segments;
  publics = m.publics;
  externals = m.externals;
  pieces = m.pieces;
  fixups = m.fixups;
  banks = m.banks;
}
