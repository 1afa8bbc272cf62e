-- Of the code: how the least base is found. A base is raised after each extent that it meets.
use Rattle.std.specs.Prelude.{◌≡◌, ℕ, zero, suc, ◌+◌, ◌*◌, ◌/◌, max, nat_eq, if◌then◌else◌, ◌<◌, ◌≤◌}
use Rattle.std.specs.Prelude.{Bool, true, false, List}
use Rattle.std.specs.List.{All}
use Rattle.m51_cells.specs.declared.cell.Space.{Space}
use Rattle.m51_cells.specs.declared.cell.Space.TheVariants.{Ram, Xram, Code as CodeSpace}
use Rattle.m51_cells.specs.declared.extent.Extent.{Extent}
use Rattle.m51_cells.specs.declared.kind.Kind.{Kind}
use Rattle.m51_cells.specs.declared.kind.Kind.TheVariants.{Code, Xdata, Direct}
use Rattle.m51_cells.specs.declared.kind.Reloc.{Reloc}
use Rattle.m51_cells.specs.declared.kind.Reloc.TheVariants.{Bitaddressable, Inpage, Inblock, Page}
use Rattle.m51_cells.specs.Extent.{extent_of, Meet}
use Rattle.m51_cells.specs.Fits.{Fits}
use Rattle.m51_bases.specs.declared.searching.Search.{Search}
use Rattle.m51_bases.specs.declared.searching.Search.TheVariants.{Clear, Raised, Full}

-- the two memories are the same
abbrev pub same_space : Space → Space → Bool
same_space Ram Ram = true
same_space Xram Xram = true
same_space CodeSpace CodeSpace = true
same_space _ _ = false

-- `from`, if the segment lies in one block of `block` bytes there; else the start of the next block
abbrev pub in_block : ℕ → ℕ → ℕ → ℕ
in_block block zero from = from
in_block block (suc more) from =
    if nat_eq (from / block) ((from + more) / block) then from else (from / block + 1) * block

-- the least base from there on that the type allows, whatever the end
abbrev pub rounded : Kind → Reloc → ℕ → ℕ → ℕ
rounded Direct Bitaddressable size from = max from 0x20
rounded Code Page size from = (from + 255) / 256 * 256
rounded Xdata Page size from = (from + 255) / 256 * 256
rounded Code Inpage size from = in_block 256 size from
rounded Xdata Inpage size from = in_block 256 size from
rounded Code Inblock size from = in_block 2048 size from
rounded Xdata Inblock size from = in_block 2048 size from
rounded kind reloc size from = from

-- the end of the extent has 20 bits
pub record EndsWithin (e : Extent) : Type 0 where
  pub end : e.first + e.len ≤ 1048576

-- the least base from there on at which the segment fits
pub record IsNextFit (kind : Kind) (reloc : Reloc) (size from base : ℕ) : Type 0 where
  pub not_below : from ≤ base
  pub fits : Fits kind reloc base size
  pub least : (lower : ℕ) → from ≤ lower → lower < base → Fits kind reloc lower size → ⊥

-- no base from there on fits
abbrev pub HasNoFit : Kind → Reloc → ℕ → ℕ → Type 0
HasNoFit kind reloc size from = (base : ℕ) → from ≤ base → Fits kind reloc base size → ⊥

-- an extent shares no cell with these
pub record IsOutside (cells e : Extent) : Type 0 where
  pub none : Meet e cells → ⊥

-- the segment fits at the base and shares no cell with these extents
pub record IsClear (extents : List Extent) (kind : Kind) (reloc : Reloc) (size base : ℕ) : Type 0 where
  pub fits : Fits kind reloc base size
  pub outside : All (IsOutside (extent_of kind base size)) extents

-- no base below is clear, or none at all
abbrev pub NoneBelow : List Extent → Kind → Reloc → ℕ → ℕ → Type 0
NoneBelow extents kind reloc size base = (lower : ℕ) → lower < base → IsClear extents kind reloc size lower → ⊥

abbrev pub NoneIsClear : List Extent → Kind → Reloc → ℕ → Type 0
NoneIsClear extents kind reloc size = (base : ℕ) → IsClear extents kind reloc size base → ⊥

-- The base is raised after the extent, unless they are apart: every base that fits between the two meets the extent.
pub record IsRaised (kind : Kind) (reloc : Reloc) (size : ℕ) (e : Extent) (base next : ℕ) : Type 0 where
  pub not_below : base ≤ next
  pub most : next ≤ 65536
  pub fits : Fits kind reloc next size
  pub apart : next ≡ base → IsOutside (extent_of kind base size) e
  pub blocked : (lower : ℕ) → base ≤ lower → lower < next → Fits kind reloc lower size
      → Meet e (extent_of kind lower size)

-- every base from there on that fits meets the extent
abbrev pub IsBlocked : Kind → Reloc → ℕ → Extent → ℕ → Type 0
IsBlocked kind reloc size e base =
    (lower : ℕ) → base ≤ lower → Fits kind reloc lower size → Meet e (extent_of kind lower size)

pub record IsRaisedPast (extents : List Extent) (kind : Kind) (reloc : Reloc) (size base next : ℕ) : Type 0 where
  pub more : base < next
  pub most : next ≤ 65536
  pub fits : Fits kind reloc next size
  pub none : NoneBelow extents kind reloc size next

-- what going over all extents once gives: the base is clear, or it was raised, or there is none
abbrev pub Passes : List Extent → Kind → Reloc → ℕ → ℕ → Search → Type 0
Passes extents kind reloc size base Clear = IsClear extents kind reloc size base
Passes extents kind reloc size base (Raised next) = IsRaisedPast extents kind reloc size base next
Passes extents kind reloc size base Full = NoneIsClear extents kind reloc size

-- the base is clear, and none below it is
pub record IsFirstClear (extents : List Extent) (kind : Kind) (reloc : Reloc) (size base : ℕ) : Type 0 where
  pub clear : IsClear extents kind reloc size base
  pub none : NoneBelow extents kind reloc size base
  pub most : base ≤ 65536
