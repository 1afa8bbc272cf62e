-- Kinds and types of segments: which go together, which may be OVERLAYABLE, and how large they are.
use Rattle.std.specs.Prelude.{ℕ, Bool, true, false, not, ◌&&◌}
use Rattle.m51_cells.specs.declared.kind.Kind.{Kind}
use Rattle.m51_cells.specs.declared.kind.Kind.TheVariants.{Code, Xdata, Direct, Idata, Bits, Number}
use Rattle.m51_cells.specs.declared.kind.Reloc.{Reloc}
use Rattle.m51_cells.specs.declared.kind.Reloc.TheVariants.{Abs, Unit as UnitType, Bitaddressable, Inpage, Inblock}
use Rattle.m51_cells.specs.declared.kind.Reloc.TheVariants.{Page}

-- the kinds are the same
abbrev pub same_kind : Kind → Kind → Bool
same_kind Code Code = true
same_kind Xdata Xdata = true
same_kind Direct Direct = true
same_kind Idata Idata = true
same_kind Bits Bits = true
same_kind Number Number = true
same_kind _ _ = false

-- the types are the same
abbrev pub same_reloc : Reloc → Reloc → Bool
same_reloc Abs Abs = true
same_reloc UnitType UnitType = true
same_reloc Bitaddressable Bitaddressable = true
same_reloc Inpage Inpage = true
same_reloc Inblock Inblock = true
same_reloc Page Page = true
same_reloc _ _ = false

-- the kind is program memory
abbrev pub is_code : Kind → Bool
is_code Code = true
is_code _ = false

-- the type is that of an absolute segment
abbrev pub is_absolute : Reloc → Bool
is_absolute Abs = true
is_absolute _ = false

-- a segment of the kind may have the type
abbrev pub allows : Kind → Reloc → Bool
allows Number _ = false
allows _ Abs = true
allows _ UnitType = true
allows Direct Bitaddressable = true
allows Code Inpage = true
allows Xdata Inpage = true
allows Code Page = true
allows Xdata Page = true
allows Code Inblock = true
allows _ _ = false

-- a segment of the kind and type may be OVERLAYABLE: it is relocatable, and not of program memory
abbrev pub may_overlay : Kind → Reloc → Bool
may_overlay kind reloc = not (is_absolute reloc) && not (is_code kind)

-- the most bytes, for BIT bits, of a joined segment of the kind and type
abbrev pub most_of : Kind → Reloc → ℕ
most_of Direct Bitaddressable = 16
most_of Direct _ = 128
most_of Bits _ = 128
most_of Idata _ = 256
most_of _ Inpage = 256
most_of _ Inblock = 2048
most_of _ _ = 65535

-- the most bytes, for BIT bits, of a segment of the kind in a module
abbrev pub largest : Kind → ℕ
largest kind = most_of kind UnitType
