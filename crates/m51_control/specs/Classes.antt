-- The classes of segments.
use Rattle.std.specs.Prelude.{Bool, true, false, Option, Some, None}
use Rattle.m51_cells.specs.declared.kind.Kind.{Kind}
use Rattle.m51_cells.specs.declared.kind.Kind.TheVariants as kind
use Rattle.m51_cells.specs.declared.kind.Reloc.{Reloc}
use Rattle.m51_cells.specs.declared.kind.Reloc.TheVariants as reloc
use Rattle.m51_control.specs.declared.control.Class.{Class}
use Rattle.m51_control.specs.declared.control.Class.TheVariants.{Bitaddressable, Bits, Direct, Idata, Xdata, Code}

-- the class of a segment of the kind and type; an absolute one has none
abbrev pub class_of : Kind → Reloc → Option Class
class_of _ reloc.Abs = None
class_of kind.Direct reloc.Bitaddressable = Some Bitaddressable
class_of kind.Direct _ = Some Direct
class_of kind.Bits _ = Some Bits
class_of kind.Idata _ = Some Idata
class_of kind.Xdata _ = Some Xdata
class_of kind.Code _ = Some Code
class_of kind.Number _ = None

-- the classes are the same
abbrev pub same_class : Class → Class → Bool
same_class Bitaddressable Bitaddressable = true
same_class Bits Bits = true
same_class Direct Direct = true
same_class Idata Idata = true
same_class Xdata Xdata = true
same_class Code Code = true
same_class _ _ = false
