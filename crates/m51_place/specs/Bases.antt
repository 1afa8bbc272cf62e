-- The bases that a segment may take beside the extents that are placed before it and must share no cell with it.
use Rattle.std.specs.Prelude.{ℕ, zero, suc, ◌+◌, ◌/◌, ◌%◌, ◌<◌, Bool, true, false, not, ◌&&◌, nat_eq, nat_lt, nat_le}
use Rattle.std.specs.Prelude.{List, find, Option}
use Rattle.std.specs.List.{All, list_all, range_with_len}
use Rattle.m51_cells.specs.declared.extent.Extent.{Extent}
use Rattle.m51_cells.specs.declared.kind.Kind.{Kind}
use Rattle.m51_cells.specs.declared.kind.Kind.TheVariants.{Code, Xdata, Direct, Idata, Bits, Number}
use Rattle.m51_cells.specs.declared.kind.Reloc.{Reloc}
use Rattle.m51_cells.specs.declared.kind.Reloc.TheVariants.{Bitaddressable, Inpage, Inblock, Page}
use Rattle.m51_cells.specs.Extent.{extent_of, Meet}
use Rattle.m51_cells.specs.Fits.{Fits}
use Rattle.m51_bases.specs.Raising.{same_space}
use Rattle.m51_module.specs.declared.placed.Placed.{Placed}
use Rattle.m51_module.specs.Cells.{extent_at}

-- an extent shares no cell with these
pub record IsApart (cells : Extent) (p : Placed) : Type 0 where
  pub none : Meet (extent_at p) cells → ⊥

-- a segment of the kind, type and size fits at the base, and shares no cell with an extent in conflict with it
pub record IsFree (conflicting : List Placed) (kind : Kind) (reloc : Reloc) (size base : ℕ) : Type 0 where
  pub fits : Fits kind reloc base size
  pub apart : All (IsApart (extent_of kind base size)) conflicting

-- the base is free, and no smaller one is
pub record IsLeastBase (conflicting : List Placed) (kind : Kind) (reloc : Reloc) (size base : ℕ) : Type 0 where
  pub free : IsFree conflicting kind reloc size base
  pub least : (lower : ℕ) → lower < base → IsFree conflicting kind reloc size lower → ⊥

-- no base is free
abbrev pub HasNoBase : List Placed → Kind → Reloc → ℕ → Type 0
HasNoBase conflicting kind reloc size = (base : ℕ) → IsFree conflicting kind reloc size base → ⊥

-- The same as decisions.

-- neither is empty, and each begins before the other ends
abbrev pub overlap : Extent → Extent → Bool
overlap a b =
    (nat_lt 0 a.len && nat_lt 0 b.len) && (nat_lt a.first (b.first + b.len) && nat_lt b.first (a.first + a.len))

-- the two extents share a cell
unfoldable pub share : Extent → Extent → Bool
share a b = same_space a.space b.space && overlap a b

-- first and last byte lie in one block of `block` bytes, and the end in the memory; size 0 fits anywhere
abbrev pub fits_block : ℕ → ℕ → ℕ → Bool
fits_block block base zero = true
fits_block block base (suc more) = nat_eq (base / block) ((base + more) / block) && nat_le (base + suc more) 0x10000

abbrev pub fits_memory : Reloc → ℕ → ℕ → Bool
fits_memory Page base size = nat_eq (base % 256) 0 && nat_le (base + size) 0x10000
fits_memory Inpage base size = fits_block 256 base size
fits_memory Inblock base size = fits_block 2048 base size
fits_memory _ base size = nat_le (base + size) 0x10000

-- a segment of the kind, type and size fits at the base
unfoldable pub fits_at : Kind → Reloc → ℕ → ℕ → Bool
fits_at Direct Bitaddressable base size = nat_le 0x20 base && nat_le (base + size) 0x30
fits_at Direct _ base size = nat_le (base + size) 0x80
fits_at Idata _ base size = nat_le (base + size) 0x100
fits_at Bits _ base size = nat_le (base + size) 0x80
fits_at Code reloc base size = fits_memory reloc base size
fits_at Xdata reloc base size = fits_memory reloc base size
fits_at Number _ base size = false

-- the base is free
unfoldable pub is_free : List Placed → Kind → Reloc → ℕ → ℕ → Bool
is_free conflicting kind reloc size base =
    fits_at kind reloc base size && list_all (λ p. not (share (extent_at p) (extent_of kind base size))) conflicting

-- The least base at which the segment fits and shares no cell with these extents: the first that is free of the bases 0
-- to 65,535, since no segment has room above them.
unfoldable pub least_base : List Placed → Kind → Reloc → ℕ → Option ℕ
least_base conflicting kind reloc size = find (is_free conflicting kind reloc size) (range_with_len 0 65536)
