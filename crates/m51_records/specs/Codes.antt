-- The numbers of kinds, types and forms in records (own choice).
use Rattle.std.specs.Prelude.{ℕ, List, [], ◌∷◌, Option, slice_get}
use Rattle.m51_cells.specs.declared.kind.Kind.{Kind}
use Rattle.m51_cells.specs.declared.kind.Kind.TheVariants.{Code, Xdata, Direct, Idata, Bits, Number}
use Rattle.m51_cells.specs.declared.kind.Reloc.{Reloc}
use Rattle.m51_cells.specs.declared.kind.Reloc.TheVariants.{Abs, Unit as UnitType, Bitaddressable, Inpage}
use Rattle.m51_cells.specs.declared.kind.Reloc.TheVariants.{Inblock as InblockType, Page}
use Rattle.m51_module.specs.declared.content.Form.{Form}
use Rattle.m51_module.specs.declared.content.Form.TheVariants.{Low, Byte, Relative, High, Word, Inblock, Bit, Conv}

-- the kinds in the order of their numbers, from 0
abbrev pub kinds : List Kind
kinds = Code ∷ Xdata ∷ Direct ∷ Idata ∷ Bits ∷ Number ∷ []

abbrev pub kind_number : Kind → ℕ
kind_number Code = 0
kind_number Xdata = 1
kind_number Direct = 2
kind_number Idata = 3
kind_number Bits = 4
kind_number Number = 5

-- the kind of a number, if one has it
abbrev pub kind_of : ℕ → Option Kind
kind_of number = slice_get kinds number

-- the types in the order of their numbers
abbrev pub relocs : List Reloc
relocs = Abs ∷ UnitType ∷ Bitaddressable ∷ Inpage ∷ InblockType ∷ Page ∷ []

abbrev pub reloc_number : Reloc → ℕ
reloc_number Abs = 0
reloc_number UnitType = 1
reloc_number Bitaddressable = 2
reloc_number Inpage = 3
reloc_number InblockType = 4
reloc_number Page = 5

abbrev pub reloc_by_code : ℕ → Option Reloc
reloc_by_code number = slice_get relocs number

-- the forms of fixups in the order of their numbers
abbrev pub forms : List Form
forms = Low ∷ Byte ∷ Relative ∷ High ∷ Word ∷ Inblock ∷ Bit ∷ Conv ∷ []

abbrev pub form_number : Form → ℕ
form_number Low = 0
form_number Byte = 1
form_number Relative = 2
form_number High = 3
form_number Word = 4
form_number Inblock = 5
form_number Bit = 6
form_number Conv = 7

abbrev pub form_by_code : ℕ → Option Form
form_by_code number = slice_get forms number
