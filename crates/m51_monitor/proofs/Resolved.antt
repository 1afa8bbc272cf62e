-- The functions answer as the relation says.
use Rattle.std.proofs.lemmas.Grind.{common_steps}
use Rattle.m51_monitor.proofs.Common.{◌≡◌, ℕ, suc, ◌+◌, Bool, true, false, not, ◌&&◌, Option, Some}
use Rattle.m51_monitor.proofs.Common.{None, List, [], ◌∷◌, inl, inr, refl, ◌∙◌, arith, slice_get}
use Rattle.m51_monitor.proofs.Common.{if◌then◌else◌, and_parts, cases_lt, Cell, Space, LayoutParts}
use Rattle.m51_monitor.proofs.Common.{Placed, state_at, ram_cell, xram_cell}
use Rattle.m51_monitor.proofs.Common.{same_states, IsDataCell, flag_in, OneLive, Shared, shared_cells, shared_barred}
use Rattle.m51_monitor.proofs.Common.{Stores, IsOver, Live, Resolves, InSegment, Nowhere, is_common}
use Rattle.m51_monitor.proofs.Common.{StandsFor}
use Rattle.m51_monitor.specs.Masks.{IsMask}
use Rattle.m51_monitor.specs.Resolved.{live_over, segment_over, held_in, resolved, resolved_cells, is_absent}
use Rattle.m51_monitor.specs.Resolved.{outside_of}
use Rattle.m51_monitor.specs.Stores.{is_over}
use Rattle.m51_monitor.proofs.Resolving.{common_or_over, is_over_cell, one_answer, over_is}

-- the search answers a live segment over the cell
abbrev IsFound : List Placed → ℕ → Live → Cell → Option ℕ → Type 0
IsFound ps n live c None = (k : ℕ) (p : Placed) → slice_get ps k ≡ Some p → live (n + k) ≡ true → is_over p c ≡ true → ⊥
IsFound ps n live c (Some t) = (k : ℕ) × (p : Placed) × (slice_get ps k ≡ Some p) × (t ≡ n + k) × (live t ≡ true)
    × (is_over p c ≡ true)

found_next : (p : Placed) (ps : List Placed) (n : ℕ) (live : Live) (c : Cell) (o : Option ℕ)
    → (live n && is_over p c) ≡ false → IsFound ps (n + 1) live c o → IsFound (p ∷ ps) n live c o
found_next p ps n live c (Some t) e h =
    (suc h.0, h.1, h.2, (omega arith), h.4, h.5)
found_next p ps n live c None e h = grind arith

found : (ps : List Placed) (n : ℕ) (live : Live) (c : Cell) → IsFound ps n live c (live_over ps n live c)
found [] n live c = λ k p at alive over. cc at
found (p ∷ ps) n live c = by_test (live n && is_over p c) refl (found ps (n + 1) live c)
  where
    by_test : (b : Bool) → (live n && is_over p c) ≡ b → IsFound ps (n + 1) live c (live_over ps (n + 1) live c)
        → IsFound (p ∷ ps) n live c (if b then Some n else live_over ps (n + 1) live c)
    by_test true e h = let k = and_parts (live n) (is_over p c) e in
        (0, p, refl, (omega arith), k.0, k.1)
    by_test false e h = grind (arith, found_next)

-- the live segment over a cell, or that there is none
pub data Segments (l : LayoutParts) (live : Live) (c : Cell) (o : Option ℕ) : Type 0 where
  One : (t : ℕ) → IsOver l t c → live t ≡ true → o ≡ Some t → Segments l live c o
  NoOne : ((t : ℕ) → IsOver l t c → live t ≡ true → ⊥) → o ≡ None → Segments l live c o

pub segments_over : (l : LayoutParts) (live : Live) (c : Cell) → Segments l live c (segment_over l live c)
segments_over l live c = by_found (segment_over l live c) refl (found l.placed 0 live c)
  where
    none : (k : ℕ) → 0 + k ≡ k
    none k = omega arith

    by_found : (o : Option ℕ) → segment_over l live c ≡ o → IsFound l.placed 0 live c o
        → Segments l live c (segment_over l live c)
    by_found (Some t) e h =
        let k = over_is h.1 c h.5 in
        let same : t ≡ h.0 = h.3 ∙ none h.0 in
        One t (grind arith) h.4 e
    by_found None e h = NoOne
        (λ t over alive. h t over.is over.placed (cc (none t))
        (grind (arith, is_over_cell))) e

-- so each cell of data memory resolves to what the function answers
pub resolves : (l : LayoutParts) (live : Live) (s : Stores) (c : Cell) → IsDataCell c
    → Resolves l live s c (resolved l live s c)
resolves l live s c is = by_segment (segments_over l live c)
  where
    plain : (o : Option ℕ) → segment_over l live c ≡ o → resolved l live s c ≡ held_in s c (is_common l c) o
    plain o e = grind arith

    by_segment : Segments l live c (segment_over l live c) → Resolves l live s c (resolved l live s c)
    by_segment (One t over alive e) = InSegment t over alive (plain (Some t) e)
    by_segment (NoOne none e) = elim (common_or_over l c is) [
      | inl k ↦ grind arith
      | inr k ↦ Nowhere k.1.0 k.1.1 none (grind arith)
    ]

-- the one memory answers what the separate stores answer
pub cells_resolved : (l : LayoutParts) (live : Live) (m : Shared) (s : Stores) → OneLive l live → StandsFor l live m s
    → shared_cells m ≡ resolved_cells l live s
cells_resolved l live m s one h =
    same_states (shared_cells m) (resolved_cells l live s)
    (λ n. elim (cases_lt n 2048) [
      | inl lt ↦ one_answer l live s _ _ _ one (h.cells (ram_cell n) (tt, lt)) (resolves l live s (ram_cell n) (tt, lt))
      | inr end ↦ grind arith
    ])
    (λ n. elim (cases_lt n 65536) [
      | inl lt ↦ one_answer l live s _ _ _ one (h.cells (xram_cell n) (tt, lt))
          (resolves l live s (xram_cell n) (tt, lt))
      | inr end ↦ grind arith
    ])

bars_cell : (m : Shared) → IsMask m.live → (s : Space) (n : ℕ)
    → not (flag_in m.live s n) ≡ is_absent (state_at (shared_cells m) s n)
bars_cell m is s n = grind (arith, common_steps)

pub bars_outside : (m : Shared) → IsMask m.live → shared_barred m ≡ outside_of (shared_cells m)
bars_outside m is i c = bars_cell m is c.space c.at i
