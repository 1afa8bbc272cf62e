-- Laws of the words on kinds and types of segments.
use Rattle.std.proofs.Common.{◌≡◌, ◌≢◌, ◌≤◌, true, false, refl, arith}
use Rattle.m51_cells.specs.declared.kind.Kind.{Kind}
use Rattle.m51_cells.specs.declared.kind.Kind.TheVariants.{Code, Xdata, Direct, Idata, Bits, Number}
use Rattle.m51_cells.specs.declared.kind.Reloc.{Reloc}
use Rattle.m51_cells.specs.declared.kind.Reloc.TheVariants.{Abs, Unit as UnitType, Bitaddressable, Inpage, Inblock}
use Rattle.m51_cells.specs.declared.kind.Reloc.TheVariants.{Page}
use Rattle.m51_cells.specs.Kinds.{same_kind, same_reloc, is_absolute, is_code, may_overlay, most_of, largest}

-- a kind is the same as itself
pub kind_again : (kind : Kind) → same_kind kind kind ≡ true
kind_again Code = refl
kind_again Xdata = refl
kind_again Direct = refl
kind_again Idata = refl
kind_again Bits = refl
kind_again Number = refl

-- kinds that are the same are one
pub kind_same : (one two : Kind) → same_kind one two ≡ true → one ≡ two
kind_same Code Code h = refl
kind_same Xdata Xdata h = refl
kind_same Direct Direct h = refl
kind_same Idata Idata h = refl
kind_same Bits Bits h = refl
kind_same Number Number h = refl
kind_same one two h = absurd (cc h)

-- a type is the same as itself
pub reloc_again : (reloc : Reloc) → same_reloc reloc reloc ≡ true
reloc_again Abs = refl
reloc_again UnitType = refl
reloc_again Bitaddressable = refl
reloc_again Inpage = refl
reloc_again Inblock = refl
reloc_again Page = refl

-- types that are the same are one
pub reloc_same : (one two : Reloc) → same_reloc one two ≡ true → one ≡ two
reloc_same Abs Abs h = refl
reloc_same UnitType UnitType h = refl
reloc_same Bitaddressable Bitaddressable h = refl
reloc_same Inpage Inpage h = refl
reloc_same Inblock Inblock h = refl
reloc_same Page Page h = refl
reloc_same one two h = absurd (cc h)

-- a kind that is program memory is CODE
pub code_is : (kind : Kind) → is_code kind ≡ true → kind ≡ Code
code_is Code h = refl
code_is kind h = absurd (cc h)

-- and one that is not is another
pub not_code : (kind : Kind) → is_code kind ≡ false → kind ≢ Code
not_code Code h = λ e. cc h
not_code kind h = λ e. cc e

-- a type that is absolute is that of absolute segments
pub absolute_is : (reloc : Reloc) → is_absolute reloc ≡ true → reloc ≡ Abs
absolute_is Abs h = refl
absolute_is reloc h = absurd (cc h)

-- and one that is not is another
pub not_absolute : (reloc : Reloc) → is_absolute reloc ≡ false → reloc ≢ Abs
not_absolute Abs h = λ e. cc h
not_absolute reloc h = λ e. cc e

-- what may be OVERLAYABLE is neither of program memory nor absolute
pub overlay_kind : (kind : Kind) (reloc : Reloc) → may_overlay kind reloc ≡ true → kind ≢ Code
overlay_kind Code Abs h = λ e. cc h
overlay_kind Code reloc h = λ e. cc h
overlay_kind kind reloc h = λ e. cc e

pub overlay_reloc : (kind : Kind) (reloc : Reloc) → may_overlay kind reloc ≡ true → reloc ≢ Abs
overlay_reloc kind Abs h = λ e. cc h
overlay_reloc kind reloc h = λ e. cc e

-- no type has more than UNIT
pub most_within : (kind : Kind) (reloc : Reloc) → most_of kind reloc ≤ largest kind
most_within Direct Bitaddressable = omega arith
most_within Direct reloc = omega arith
most_within Bits reloc = omega arith
most_within Idata reloc = omega arith
most_within kind Inpage = omega arith
most_within kind Inblock = omega arith
most_within kind reloc = omega arith
