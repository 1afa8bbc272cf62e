-- The table of bases at which a segment fits.
use Rattle.std.specs.Prelude.{◌≡◌, ℕ, zero, suc, ◌+◌, ◌/◌, ◌%◌, ◌≤◌}
use Rattle.m51_cells.specs.declared.kind.Kind.{Kind}
use Rattle.m51_cells.specs.declared.kind.Kind.TheVariants.{Code, Xdata, Direct, Idata, Bits, Number}
use Rattle.m51_cells.specs.declared.kind.Reloc.{Reloc}
use Rattle.m51_cells.specs.declared.kind.Reloc.TheVariants.{Bitaddressable, Inpage, Inblock, Page}
pub use Rattle.m51_cells.specs.Kinds.{allows}

-- first and last byte lie in one block of `block` bytes, and the end in the memory; size 0 fits anywhere
abbrev pub FitsBlock : ℕ → ℕ → ℕ → Type 0
FitsBlock block base zero = Unit {0}
FitsBlock block base (suc more) = (base / block ≡ (base + more) / block) × (base + suc more ≤ 0x10000)

-- program and external memory, by type
abbrev pub FitsMemory : Reloc → ℕ → ℕ → Type 0
FitsMemory Page base size = (base % 256 ≡ 0) × (base + size ≤ 0x10000)
FitsMemory Inpage base size = FitsBlock 256 base size
FitsMemory Inblock base size = FitsBlock 2048 base size
FitsMemory _ base size = base + size ≤ 0x10000

-- A segment of the kind, type and size may begin at the base. An absolute one fits as UNIT of its kind, and what has no
-- kind fits nowhere.
abbrev pub Fits : Kind → Reloc → ℕ → ℕ → Type 0
Fits Direct Bitaddressable base size = (0x20 ≤ base) × (base + size ≤ 0x30)
Fits Direct _ base size = base + size ≤ 0x80
Fits Idata _ base size = base + size ≤ 0x100
Fits Bits _ base size = base + size ≤ 0x80
Fits Code reloc base size = FitsMemory reloc base size
Fits Xdata reloc base size = FitsMemory reloc base size
Fits Number _ base size = ⊥
