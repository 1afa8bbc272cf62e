-- The start.
use Rattle.m51_monitor.proofs.Common.{◌≡◌, ℕ, ◌+◌, ◌<◌, Bool, true, false, not, ◌&&◌, Some}
use Rattle.m51_monitor.proofs.Common.{None, List, [], length, inl, inr, refl, arith, slice_get}
use Rattle.m51_monitor.proofs.Common.{slice_index, if◌then◌else◌, slice_get_within, Cell, Space}
use Rattle.m51_monitor.proofs.Common.{LayoutParts, Mark, Overlaid, Placed, extent_at, IsPlaced, IsOverlaid}
use Rattle.m51_monitor.proofs.Common.{IsSound, none_in_empty, state_at, CellState, Holds, Absent, AreTimes, IsCellAt}
use Rattle.m51_monitor.proofs.Common.{IsDataCell, Shared, shared_cells, cell_state, IsTurned, Resolves}
use Rattle.m51_monitor.proofs.Common.{InSegment, Nowhere, is_overlaid_at, is_overlaid_mark, has_cell}
use Rattle.m51_monitor.proofs.Common.{live_by, filled_stores, unset_dead, StandsFor, Turned, Under, Beside}
use Rattle.m51_monitor.proofs.Common.{AreTurned}
use Rattle.m51_flat.specs.Flat.{filled_cells}
use Rattle.m51_monitor.specs.Stores.{fill_in}
use Rattle.m51_monitor.specs.Stores.{AreStores}
use Rattle.m51_monitor.specs.Turning.{IsOverlaidAmong}
use Rattle.m51_monitor.proofs.Changing.{overlaid_segment}
use Rattle.m51_monitor.proofs.Entering.{plain_lives}
use Rattle.m51_monitor.proofs.Liveness.{is_live}
use Rattle.m51_monitor.proofs.Placing.{next_turned, turned_as}
use Rattle.m51_monitor.proofs.Resolving.{common_or_over, is_has_cell}

pub mark_is : (mark : Mark) → is_overlaid_mark mark ≡ true → mark ≡ Overlaid
mark_is mark e = grind arith

module _ (l : LayoutParts) (s : ℕ) where
  before : (t : ℕ) → IsOverlaidAmong l s t → IsOverlaidAmong l (s + 1) t
  before t k = record { below = omega (arith, k.below); overlaid = k.overlaid }

  pub overlaid_turned : (p : Placed) (old mid new : Shared) → IsPlaced l s p → is_overlaid_mark p.mark ≡ true
      → IsTurned (extent_at p) Absent mid new
      → AreTurned l (IsOverlaidAmong l s) Absent old mid → AreTurned l (IsOverlaidAmong l (s + 1)) Absent old new
  overlaid_turned p old mid new at over turn h = grind (arith, next_turned)

  pub plain_stays : (p : Placed) (old mid : Shared) → IsPlaced l s p → is_overlaid_mark p.mark ≡ false
      → AreTurned l (IsOverlaidAmong l s) Absent old mid → AreTurned l (IsOverlaidAmong l (s + 1)) Absent old mid
  plain_stays p old mid at plain h = turned_as l (IsOverlaidAmong l s) (IsOverlaidAmong l (s + 1)) Absent old mid before
      (grind arith)
      h

pub none_overlaid : (l : LayoutParts) (m : Shared) → AreTurned l (IsOverlaidAmong l 0) Absent m m
none_overlaid l m = grind arith

-- what each cell has at first
filled_at : (fill : ℕ) (s : Space) (n : ℕ) → IsCellAt s n → state_at (filled_cells fill) s n ≡ Holds (fill_in fill s n)
filled_at fill s n h = grind arith

dead_overlaid : (l : LayoutParts) (us : List ℕ) (t : ℕ) → live_by l us t ≡ false
    → is_overlaid_at (slice_get l.placed t) ≡ true
dead_overlaid l us t e = grind arith

pub filled_are_stores : (l : LayoutParts) (us : List ℕ) (fill : ℕ) → AreStores l (live_by l us) (filled_stores l fill)
filled_are_stores l us fill = grind arith

not_overlaid : (l : LayoutParts) (t : ℕ) → (IsOverlaid l t → ⊥) → is_overlaid_at (slice_get l.placed t) ≡ false
not_overlaid l t h = grind arith

-- without units what is live is not overlaid
live_is_plain : (l : LayoutParts) (t : ℕ) → live_by l [] t ≡ true → IsOverlaid l t → ⊥
live_is_plain l t e o = let k = is_live l [] t e o in none_in_empty k.0 k.2

module _ (l : LayoutParts) (fill : ℕ) (sound : IsSound l) where
  start_resolves : (c : Cell) (old new : CellState) → IsDataCell c → old ≡ Holds (fill_in fill c.space c.at)
      → Turned l (IsOverlaidAmong l (length l.placed)) Absent c old new
      → Resolves l (live_by l []) (filled_stores l fill) c new
  start_resolves c old new is e (Under t k p at h f) =
      let here = overlaid_segment l t p c k.overlaid at h in
      Nowhere t here (grind (arith, live_is_plain)) f
  start_resolves c old new is e (Beside none f) = elim (common_or_over l c is) [
    | inl k ↦ grind arith
    | inr k ↦
        let plain = not_overlaid l k.1.0 (grind (arith, slice_get_within)) in
        InSegment k.1.0 k.1.1 (plain_lives l [] _ plain) (rw (f, e, plain, is_has_cell l _ c is k.1.1) refl)
  ]

  pub start_stands : (m m' : Shared) → shared_cells m ≡ filled_cells fill
      → AreTurned l (IsOverlaidAmong l (length l.placed)) Absent m m'
      → StandsFor l (live_by l []) m' (filled_stores l fill)
  start_stands m m' e turned = record {
    stores = filled_are_stores l [] fill;
    cells = λ c is. start_resolves c (cell_state m c) (cell_state m' c) is
        (grind (arith, filled_at)) (turned.cell c is);
  }

pub no_times : (l : LayoutParts) (numbers : List ℕ) → length numbers ≡ length l.units
    → ((u : ℕ) → u < length l.units → slice_index numbers u ≡ 0) → AreTimes l [] numbers
no_times l numbers len each = grind arith

-- what is dead is unset at the start already
unset_none : (live over has : Bool) (v : ℕ) → (live ≡ false → over ≡ true)
    → (if live then (if not over && has then Some v else None) else None) ≡ (if not over && has then Some v else None)
unset_none live over has v h = grind arith

pub filled_unset : (l : LayoutParts) (us : List ℕ) (fill : ℕ)
    → unset_dead (live_by l us) (filled_stores l fill) ≡ filled_stores l fill
filled_unset l us fill i = record {
  segment = λ t c. unset_none (live_by l us t) (is_overlaid_at (slice_get l.placed t)) (has_cell l t c)
      (fill_in fill c.space c.at) (dead_overlaid l us t) i;
  common = (filled_stores l fill).common;
}
