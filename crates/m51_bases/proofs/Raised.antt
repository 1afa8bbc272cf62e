-- Bases that are raised after extents.
use Rattle.std.proofs.Common.{◌≡◌, ◌≢◌, inl, inr, ℕ, zero, suc, ◌+◌, ◌<◌, ◌≤◌, List, length, take, get_or, Option, Some}
use Rattle.std.proofs.Common.{None, refl, sym, subst, ◌∙◌, arith}
use Rattle.std.specs.Prelude.{MatchOption, ◌↔◌}
use Rattle.std.specs.List.{All}
use Rattle.std.proofs.lemmas.List.Elements.{All-more}
use Rattle.std.proofs.lemmas.Bool.{cases_lt}
use Rattle.m51_cells.specs.declared.extent.Extent.{Extent}
use Rattle.m51_cells.specs.declared.kind.Kind.{Kind}
use Rattle.m51_cells.specs.declared.kind.Kind.TheVariants.{Code, Xdata, Direct, Idata, Bits, Number}
use Rattle.m51_cells.specs.declared.kind.Reloc.{Reloc}
use Rattle.m51_cells.specs.declared.kind.Reloc.TheVariants.{Abs, Unit as UnitType, Bitaddressable, Inpage, Inblock}
use Rattle.m51_cells.specs.declared.kind.Reloc.TheVariants.{Page}
use Rattle.m51_cells.specs.Extent.{extent_of, Covers, Meet}
use Rattle.m51_cells.specs.Fits.{Fits, FitsBlock, FitsMemory}
use Rattle.m51_cells.proofs.Meeting.{parted, shared}
use Rattle.m51_bases.specs.Raising.{HasNoFit, IsBlocked, IsClear, IsNextFit, IsOutside, IsRaised, NoneBelow}

-- a segment at a higher base
record IsHigher (kind : Kind) (size base lower : ℕ) : Type 0 where
  space : (extent_of kind base size).space ≡ (extent_of kind lower size).space
  len : (extent_of kind base size).len ≡ (extent_of kind lower size).len
  first : (extent_of kind base size).first ≤ (extent_of kind lower size).first

higher : (kind : Kind) (size base lower : ℕ) → kind ≢ Number → base ≤ lower → IsHigher kind size base lower
higher Direct size base lower ne h = record { space = refl; len = refl; first = omega (arith, h) }
higher Idata size base lower ne h = record { space = refl; len = refl; first = omega (arith, h) }
higher Bits size base lower ne h = record { space = refl; len = refl; first = omega (arith, h) }
higher Xdata size base lower ne h = record { space = refl; len = refl; first = h }
higher Code size base lower ne h = record { space = refl; len = refl; first = h }
higher Number size base lower ne h = absurd (ne refl)

-- it meets what it first_met, as long as it begins before its end
meets_on : (kind : Kind) (size base lower : ℕ) (e : Extent) → kind ≢ Number → base ≤ lower
    → Meet e (extent_of kind base size) → (extent_of kind lower size).first < e.first + e.len
    → Meet e (extent_of kind lower size)
meets_on kind size base lower e ne h meet before =
    let a : Extent = extent_of kind base size in
    let b : Extent = extent_of kind lower size in
    let up = higher kind size base lower ne h in
    let o = parted e a meet in
    let ca : Covers e meet.0 = meet.1 in
    let cb : Covers a meet.0 = meet.2 in
    shared e b (sym ca.space ∙ cb.space ∙ up.space) o.first_some (omega (arith, o.second_some, up.len))
    (omega (arith, o.first_before, up.len, up.first)) before

-- a segment that covers a cell fits below the end of the largest memory
some_size : (kind : Kind) (base size : ℕ) → kind ≢ Number → 0 < (extent_of kind base size).len → 0 < size
some_size Direct base size ne h = omega (arith, h)
some_size Idata base size ne h = omega (arith, h)
some_size Bits base size ne h = h
some_size Xdata base size ne h = h
some_size Code base size ne h = h
some_size Number base size ne h = absurd (ne refl)

block_most : (block base size : ℕ) → 0 < size → FitsBlock block base size → base ≤ 65536
block_most block base zero some h = absurd (omega (arith, some))
block_most block base (suc more) some h = omega (arith, h.1)

memory_most : (reloc : Reloc) (base size : ℕ) → 0 < size → FitsMemory reloc base size → base ≤ 65536
memory_most Page base size some h = omega (arith, h.1)
memory_most Inpage base size some h = block_most 256 base size some h
memory_most Inblock base size some h = block_most 2048 base size some h
memory_most Abs base size some h = let ends : base + size ≤ 0x10000 = h in omega (arith, ends)
memory_most UnitType base size some h = let ends : base + size ≤ 0x10000 = h in omega (arith, ends)
memory_most Bitaddressable base size some h = let ends : base + size ≤ 0x10000 = h in omega (arith, ends)

direct_most : (reloc : Reloc) (base size : ℕ) → Fits Direct reloc base size → base ≤ 65536
direct_most Bitaddressable base size h = omega (arith, h.1)
direct_most Abs base size h = let ends : base + size ≤ 0x80 = h in omega (arith, ends)
direct_most UnitType base size h = let ends : base + size ≤ 0x80 = h in omega (arith, ends)
direct_most Inpage base size h = let ends : base + size ≤ 0x80 = h in omega (arith, ends)
direct_most Inblock base size h = let ends : base + size ≤ 0x80 = h in omega (arith, ends)
direct_most Page base size h = let ends : base + size ≤ 0x80 = h in omega (arith, ends)

pub fits_most : (kind : Kind) (reloc : Reloc) (base size : ℕ) → 0 < size → Fits kind reloc base size → base ≤ 65536
fits_most Direct reloc base size some h = direct_most reloc base size h
fits_most Idata reloc base size some h = let ends : base + size ≤ 0x100 = h in omega (arith, ends)
fits_most Bits reloc base size some h = let ends : base + size ≤ 0x80 = h in omega (arith, ends)
fits_most Code reloc base size some h = memory_most reloc base size some h
fits_most Xdata reloc base size some h = memory_most reloc base size some h
fits_most Number reloc base size some h = absurd h

module _ (kind : Kind) (reloc : Reloc) (size : ℕ) (e : Extent) (base from : ℕ) (ne : kind ≢ Number)
    (meet : Meet e (extent_of kind base size))
    (after : (lower n : ℕ) → (lower < from) ↔ ((extent_of kind lower n).first < e.first + e.len)) where
  under : base < from
  under = (after base size).1 (parted e (extent_of kind base size) meet).second_before

  in_the_way : (lower : ℕ) → base ≤ lower → lower < from → Meet e (extent_of kind lower size)
  in_the_way lower h less = meets_on kind size base lower e ne h meet ((after lower size).0 less)

  pub raised_is : (found : Option ℕ)
      → MatchOption found (HasNoFit kind reloc size from) (λ next. IsNextFit kind reloc size from next)
      → MatchOption found (IsBlocked kind reloc size e base) (λ next. IsRaised kind reloc size e base next)
  raised_is None h = λ lower up fits. elim (cases_lt lower from) [
    | inl less ↦ in_the_way lower up less
    | inr above ↦ absurd (h lower above fits)
  ]
  raised_is (Some next) h =
      let next_is : IsNextFit kind reloc size from next = h in
      let some : 0 < size = some_size kind base size ne (parted e (extent_of kind base size) meet).second_some in
      record {
        not_below = omega (arith, under, next_is.not_below);
        most = fits_most kind reloc next size some next_is.fits;
        fits = next_is.fits;
        apart = λ same. absurd (omega (arith, under, next_is.not_below, same));
        blocked = λ lower up less fits. elim (cases_lt lower from) [
          | inl under' ↦ in_the_way lower up under'
          | inr above ↦ absurd (next_is.least lower above less fits)
        ];
      }

-- going over the extents
module _ (extents : List Extent) (kind : Kind) (reloc : Reloc) (size base i : ℕ) (d : Extent) (next : ℕ)
    (below : i < length extents) where
  pub none_more : (raised : ℕ) → NoneBelow extents kind reloc size next
      → IsRaised kind reloc size (get_or extents i d) next raised → NoneBelow extents kind reloc size raised
  none_more raised none h lower less clear = elim (cases_lt lower next) [
    | inl under' ↦ none lower under' clear
    | inr up ↦ (clear.outside i d below).none (h.blocked lower up less clear.fits)
  ]

  pub none_at_all : NoneBelow extents kind reloc size next → IsBlocked kind reloc size (get_or extents i d) next
      → (lower : ℕ) → IsClear extents kind reloc size lower → ⊥
  none_at_all none h lower clear = elim (cases_lt lower next) [
    | inl under' ↦ none lower under' clear
    | inr up ↦ (clear.outside i d below).none (h lower up clear.fits)
  ]

  pub outside_more : (raised : ℕ) → base ≤ next
      → (next ≡ base → All (IsOutside (extent_of kind base size)) (take i extents))
      → IsRaised kind reloc size (get_or extents i d) next raised
      → raised ≡ base → All (IsOutside (extent_of kind base size)) (take (i + 1) extents)
  outside_more raised up outside h same =
      let still : next ≡ base = omega (arith, up, h.not_below, same) in
      let stays : raised ≡ next = omega (arith, still, same) in
      All-more (IsOutside (extent_of kind base size)) extents i d below (outside still)
      (subst (λ b. IsOutside (extent_of kind b size) (get_or extents i d)) still (h.apart stays))
