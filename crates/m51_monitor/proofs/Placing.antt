-- Segments of a sound layout turn live or outside.
use Rattle.std.proofs.lemmas.Grind.{common_steps}
use Rattle.m51_monitor.proofs.Common.{◌≡◌, ◌≢◌, ◌⊎◌, ℕ, Bool, ◌+◌, ◌<◌, false, List}
use Rattle.m51_monitor.proofs.Common.{length, inl, inr, ◌∙◌, arith, slice_index}
use Rattle.m51_monitor.proofs.Common.{slice_index_or, Contains, slice_get_within, Cell, Covers, LayoutParts}
use Rattle.m51_monitor.proofs.Common.{Placed, extent_at, IsPlaced, IsSound, CellState, Shared, cell_state, IsTurned}
use Rattle.m51_monitor.proofs.Common.{Turned, Under, Beside, AreTurned, IsLocalAmong}
use Rattle.std.proofs.lemmas.Option.{slice_get-get_or}
use Rattle.std.proofs.lemmas.List.Elements.{Contains-get_or}
use Rattle.m51_module.specs.Plan.{AreLocals}
use Rattle.m51_module.specs.Sound.{IsFit}
use Rattle.m51_monitor.specs.Turning.{IsLocalOf}
use Rattle.m51_monitor.proofs.Reading.{covers_or_not}

pub placed_at : (l : LayoutParts) (t : ℕ) (p : Placed) → t < length l.placed → slice_index_or l.placed t p ≡ p
    → IsPlaced l t p
placed_at l t p h e = grind (arith, slice_get-get_or)

pub fit_at : (l : LayoutParts) (t : ℕ) (p : Placed) → IsSound l → IsPlaced l t p → IsFit p
fit_at l t p sound at = sound.fit t p at

-- the same of other words for the same segments
pub turned_as : (l : LayoutParts) (Is As : ℕ → Type 0) (to : CellState) (m m' : Shared) → ((t : ℕ) → Is t → As t)
    → ((t : ℕ) → As t → Is t) → AreTurned l Is to m m' → AreTurned l As to m m'
turned_as l Is As to m m' into from h =
    record { cell = λ c is. by_cell c (cell_state m c) (cell_state m' c) (h.cell c is) }
  where
    by_cell : (c : Cell) (old new : CellState) → Turned l Is to c old new → Turned l As to c old new
    by_cell c old new (Under t is p at k e) = Under t (into t is) p at k e
    by_cell c old new (Beside none e) = grind arith

module _ (l : LayoutParts) (Is As : ℕ → Type 0) (to : CellState) (s : ℕ) (p : Placed) (at : IsPlaced l s p)
    (here : As s) (into : (t : ℕ) → Is t → As t) (from : (t : ℕ) → As t → (t ≡ s) ⊎ Is t) where
  next_cell : (c : Cell) (old mid new : CellState) → (Covers (extent_at p) c → new ≡ to)
      → ((Covers (extent_at p) c → ⊥) → new ≡ mid) → Turned l Is to c old mid → Turned l As to c old new
  next_cell c old mid new inside outside h = elim (covers_or_not (extent_at p) c) [
    | inl k ↦ Under s here p at k (inside k)
    | inr k ↦ beside c old mid new k (outside k) h
  ]
    where
      beside : (c : Cell) (old mid new : CellState) → (Covers (extent_at p) c → ⊥) → new ≡ mid
          → Turned l Is to c old mid → Turned l As to c old new
      beside c old mid new out e (Under t is q at_t k f) = Under t (into t is) q at_t k (e ∙ f)
      beside c old mid new out e (Beside none f) = grind arith

  -- one segment more has turned
  pub next_turned : (old mid new : Shared) → IsTurned (extent_at p) to mid new → AreTurned l Is to old mid
      → AreTurned l As to old new
  next_turned old mid new turn h =
      record {
        cell = λ c is. next_cell c (cell_state old c) (cell_state mid c) (cell_state new c)
            (λ k. turn.inside c is k) (λ k. turn.outside c k) (h.cell c is);
      }

-- inside a list the default does not matter
pub get_or_same : (xs : List ℕ) (k d : ℕ) → k < length xs → slice_index xs k ≡ slice_index_or xs k d
get_or_same xs k d h = grind (arith, common_steps)

module _ (l : LayoutParts) (holders locals : List ℕ) (index : ℕ) (to : CellState) (below : index < length locals) where
  before : (t : ℕ) → IsLocalAmong holders locals index t → IsLocalAmong holders locals (index + 1) t
  before t k = record { index = k.index; below = omega (arith, k.below); inside = k.inside; is = k.is; free = k.free }

  -- the segment at this index has turned
  pub turned : (p : Placed) (old mid new : Shared) → IsPlaced l (slice_index locals index) p
      → slice_index holders (slice_index locals index) ≡ 0 → IsTurned (extent_at p) to mid new
      → AreTurned l (IsLocalAmong holders locals index) to old mid
      → AreTurned l (IsLocalAmong holders locals (index + 1)) to old new
  turned p old mid new at free turn h = grind (arith, next_turned)

  -- it stays, as something holds it
  pub stays : (old mid : Shared) → slice_index holders (slice_index locals index) ≢ 0
      → AreTurned l (IsLocalAmong holders locals index) to old mid
      → AreTurned l (IsLocalAmong holders locals (index + 1)) to old mid
  stays old mid held h = turned_as l (IsLocalAmong holders locals index) (IsLocalAmong holders locals (index + 1)) to
      old mid
      before
      (grind arith)
      h

pub none : (l : LayoutParts) (holders locals : List ℕ) (to : CellState) (m : Shared)
    → AreTurned l (IsLocalAmong holders locals 0) to m m
none l holders locals to m = grind arith

pub turned_all : (l : LayoutParts) (holders locals : List ℕ) (unit : ℕ) (to : CellState) (old new : Shared)
    → AreLocals l unit locals → AreTurned l (IsLocalAmong holders locals (length locals)) to old new
    → AreTurned l (IsLocalOf l holders unit) to old new
turned_all l holders locals unit to old new are h =
    turned_as l (IsLocalAmong holders locals (length locals)) (IsLocalOf l holders unit) to old new
    (λ t k. record {
      owns = (are.owned t).0 (rw k.is at (Contains-get_or locals k.index 0 k.inside));
      free = k.free;
    })
    (λ t k. let c = (are.owned t).1 k.owns in
    grind (arith, get_or_same))
    h

-- what a unit owns is placed
pub below : (l : LayoutParts) (locals : List ℕ) (unit : ℕ) → IsSound l → AreLocals l unit locals → (t : ℕ)
    → Contains locals t → t < length l.placed
below l locals unit sound are t h = let o = (sound.owned unit t ((are.owned t).0 h)).1 in
    slice_get_within l.placed t o.0 o.1

-- an element of a list, by its index
pub item_is : (locals : List ℕ) (bound index : ℕ) → ((t : ℕ) → Contains locals t → t < bound) → index < length locals
    → slice_index locals index < bound
item_is locals bound index all h = all (slice_index locals index) (Contains-get_or locals index 0 h)

-- what fails below a number and at it fails up to it
pub none_up_to : (P : ℕ → Bool) (k : ℕ) → ((t : ℕ) → t < k → P t ≡ false) → P k ≡ false → (t : ℕ) → t < k + 1
    → P t ≡ false
none_up_to P k below at t h = grind arith
