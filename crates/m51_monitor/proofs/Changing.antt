-- The one memory still represents the separate stores after a put, and after segments became live or dead.
use Rattle.std.proofs.Common.{arith}
use Rattle.m51_monitor.proofs.Common.{◌≡◌, ◌≢◌, ◌⊎◌, ℕ, Bool, true, false, Option, None, refl}
use Rattle.m51_monitor.proofs.Common.{◌∙◌, slice_get, Cell, Space}
use Rattle.m51_monitor.proofs.Common.{Covers, LayoutParts, Placed, extent_at, IsPlaced, IsOverlaid, Put}
use Rattle.m51_monitor.proofs.Common.{state_at, CellState, Absent, Fresh, IsDataCell, IsCellAt}
use Rattle.m51_monitor.proofs.Common.{flag_of, OneLive, Shared, shared_cells, shared_barred, cell_state}
use Rattle.m51_monitor.proofs.Common.{Stores, IsOver, Live, Resolves, InSegment, InCommon, Nowhere}
use Rattle.m51_monitor.proofs.Common.{is_overlaid_at, put_into, unset_dead, StandsFor, Turned}
use Rattle.m51_monitor.proofs.Common.{Under, Beside, AreTurned, state_over}
use Rattle.m51_flat.specs.States.{States, states_after, shut_of}
use Rattle.m51_monitor.specs.Shared.{cells_put}
use Rattle.m51_monitor.specs.Stores.{AreStores}
use Rattle.m51_monitor.specs.Turning.{AreBetween}
use Rattle.m51_flat.specs.States.{written_in, written_to}
use Rattle.m51_monitor.proofs.Reading.{Tells, put_tells, put_lives}
use Rattle.m51_monitor.proofs.Resolving.{MayPut, put_resolves}

-- one cell after a put
pub cell_after : (put : Put) (s : Space) (n : ℕ) (old new : States) → new ≡ states_after put old → IsCellAt s n
    → state_at new s n ≡ state_over (written_in put s n) (state_at old s n)
cell_after put s n old new e h = grind arith

-- a live cell is not outside
pub lives_inside : (m : Shared) (c : Cell) → IsDataCell c → flag_of m.live c ≡ true → cell_state m c ≢ Absent
lives_inside m c is h = grind arith

may_by : (put : Put) (c : Cell) (w : Option ℕ) (state : CellState) → Tells put c w
    → (Covers (cells_put put) c → state ≢ Absent) → MayPut w state
may_by put c w state h4 alive = grind arith

pub may_put : (m : Shared) (put : Put) → shut_of (shared_barred m) put ≡ None → (c : Cell) → IsDataCell c
    → MayPut (written_to put c) (cell_state m c)
may_put m put open_ c is =
    may_by put c (written_to put c) (cell_state m c) (put_tells put c.space c.at)
    (λ h. lives_inside m c is (put_lives m put open_ c h))

pub put_stores : (l : LayoutParts) (live : Live) (put : Put) (s : Stores) → AreStores l live s
    → AreStores l live (put_into l live put s)
put_stores l live put s h = grind arith

pub put_stands : (l : LayoutParts) (live : Live) (s : Stores) (put : Put) (m m' : Shared)
    → shut_of (shared_barred m) put ≡ None → shared_cells m' ≡ states_after put (shared_cells m) → StandsFor l live m s
    → StandsFor l live m' (put_into l live put s)
put_stands l live s put m m' open_ after h = record {
  stores = grind arith;
  cells = λ c is. rw (cell_after put c.space c.at (shared_cells m) (shared_cells m') after is)
      (put_resolves l live s put c (cell_state m c) is (may_put m put open_ c is) (h.cells c is));
}

-- plain segments are live whenever
abbrev pub PlainLives : LayoutParts → Live → Type 0
PlainLives l live = (t : ℕ) → is_overlaid_at (slice_get l.placed t) ≡ false → live t ≡ true

pub unset_stores : (l : LayoutParts) (live now : Live) (s : Stores) → PlainLives l now → AreStores l live s
    → AreStores l now (unset_dead now s)
unset_stores l live now s lives h = grind arith

pub overlaid_segment : (l : LayoutParts) (t : ℕ) (p : Placed) (c : Cell) → IsOverlaid l t → IsPlaced l t p
    → Covers (extent_at p) c → IsOver l t c
overlaid_segment l t p c o at h = grind arith

same_live : (Is : Type 0) (a b : Bool) → (Is × (a ≡ false) × (b ≡ true)) ⊎ ((Is → ⊥) × (b ≡ a)) → a ≡ true → b ≡ true
same_live Is a b h3 e = grind arith

born_is : (Is : Type 0) (a b : Bool) → (Is × (a ≡ false) × (b ≡ true)) ⊎ ((Is → ⊥) × (b ≡ a)) → Is
    → (a ≡ false) × (b ≡ true)
born_is Is a b h3 is = grind arith

-- Segments turned live.
module _ (l : LayoutParts) (Is : ℕ → Type 0) (fewer more : Live) (between : AreBetween l Is fewer more) (s : Stores)
  where
    pub born_resolves : (c : Cell) (old new : CellState) → ((t : ℕ) → fewer t ≡ false → s.segment t c ≡ None)
        → Turned l Is Fresh c old new → Resolves l fewer s c old → Resolves l more (unset_dead more s) c new
    born_resolves c old new unset (Under t is p at h e) r =
        let b = born_is (Is t) (fewer t) (more t) (between.each t) is in
        InSegment t (grind arith) b.1 (grind arith)
    born_resolves c old new unset (Beside none e) (InSegment t p h f) =
        let live = same_live (Is t) (fewer t) (more t) (between.each t) h in
        InSegment t p live (e ∙ f ∙ rw live refl)
    born_resolves c old new unset (Beside none e) (InCommon free f) = InCommon free (e ∙ f)
    born_resolves c old new unset (Beside none e) (Nowhere t p free f) =
        Nowhere t p (grind arith)
        (e ∙ f)

    pub born_stands : (m m' : Shared) → PlainLives l more → AreTurned l Is Fresh m m' → StandsFor l fewer m s
        → StandsFor l more m' (unset_dead more s)
    born_stands m m' lives turned h = record {
      stores = grind arith;
      cells = λ c is. born_resolves c (cell_state m c) (cell_state m' c) (λ t e. h.stores.dead t c e) (turned.cell c is)
          (h.cells c is);
    }

-- Segments died.
module _ (l : LayoutParts) (Is : ℕ → Type 0) (fewer more : Live) (between : AreBetween l Is fewer more)
    (one : OneLive l more) (s : Stores) where
  pub died_resolves : (c : Cell) (old new : CellState) → Turned l Is Absent c old new → Resolves l more s c old
      → Resolves l fewer (unset_dead fewer s) c new
  died_resolves c old new (Under t is p at h e) r =
      let b = born_is (Is t) (fewer t) (more t) (between.each t) is in
      let here = overlaid_segment l t p c (between.overlaid t is) at h in
      Nowhere t here (λ u q k. let same : u ≡ t =
      one c u t q here (grind arith) b.1 in
      cc (rw same at k, b.0)) e
  died_resolves c old new (Beside none e) (InSegment t p h f) =
      let live = grind arith
      ∙ h in
      InSegment t p live (e ∙ f ∙ rw live refl)
  died_resolves c old new (Beside none e) (InCommon free f) = InCommon free (e ∙ f)
  died_resolves c old new (Beside none e) (Nowhere t p free f) =
      Nowhere t p (grind arith) (e ∙ f)

  pub died_stands : (m m' : Shared) → PlainLives l fewer → AreTurned l Is Absent m m' → StandsFor l more m s
      → StandsFor l fewer m' (unset_dead fewer s)
  died_stands m m' lives turned h = record {
    stores = grind arith;
    cells = λ c is. died_resolves c (cell_state m c) (cell_state m' c) (turned.cell c is) (h.cells c is);
  }

-- The same segments are live.
pub same_resolves : (l : LayoutParts) (live now : Live) (s : Stores) (c : Cell) (state : CellState)
    → ((t : ℕ) → now t ≡ live t) → Resolves l live s c state → Resolves l now (unset_dead now s) c state
same_resolves l live now s c state same (InSegment t p h e) = InSegment t p (same t ∙ h) (e ∙ rw (same t ∙ h) refl)
same_resolves l live now s c state same (InCommon free e) = InCommon free e
same_resolves l live now s c state same (Nowhere t p free e) = Nowhere t p (grind arith) e

pub same_stands : (l : LayoutParts) (live now : Live) (s : Stores) (m : Shared) → PlainLives l now
    → ((t : ℕ) → now t ≡ live t) → StandsFor l live m s → StandsFor l now m (unset_dead now s)
same_stands l live now s m lives same h = record {
  stores = grind arith;
  cells = λ c is. same_resolves l live now s c (cell_state m c) same (h.cells c is);
}
