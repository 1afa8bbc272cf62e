-- What the separate stores answer after a put, and after segments turned live or died.
use Rattle.std.proofs.Common.{arith}
use Rattle.std.proofs.lemmas.Grind.{common_steps}
use Rattle.m51_monitor.proofs.Common.{◌≡◌, ◌≢◌, ◌⊎◌, inl, inr, ℕ, zero, suc, Bool, true, false}
use Rattle.m51_monitor.proofs.Common.{Option, Some, None, List, [], ◌∷◌, refl, slice_get}
use Rattle.m51_monitor.proofs.Common.{list_any, Cell, Extent, Covers}
use Rattle.m51_monitor.proofs.Common.{LayoutParts, Placed, extent_at}
use Rattle.m51_monitor.proofs.Common.{Put, CellState, Absent, IsDataCell, OneLive, Stores, IsOver, Live}
use Rattle.m51_monitor.proofs.Common.{Resolves, InSegment, InCommon, Nowhere, is_data, has_cell, is_common, put_into}
use Rattle.m51_monitor.proofs.Common.{state_over}
use Rattle.std.proofs.lemmas.Bool.{and_from, cases_Bool, or_right}
use Rattle.m51_module.specs.Plan.{IsSegment}
use Rattle.m51_monitor.specs.Stores.{covers, is_over, is_over_at}
use Rattle.m51_flat.specs.States.{written_to}

pub covers_is : (e : Extent) (c : Cell) → covers e c ≡ true → Covers e c
covers_is e c h = grind arith

pub is_data_cell : (c : Cell) → IsDataCell c → is_data c ≡ true
is_data_cell c h = grind arith

pub data_cell_is : (c : Cell) → is_data c ≡ true → IsDataCell c
data_cell_is c h = grind arith

pub over_is : (p : Placed) (c : Cell) → is_over p c ≡ true → IsSegment p.mark × Covers (extent_at p) c
over_is p c h = grind (arith, covers_is)

pub is_over_cell : (p : Placed) (c : Cell) → IsSegment p.mark → Covers (extent_at p) c → is_over p c ≡ true
is_over_cell p c s h = grind (arith, common_steps)

pub over_at_is : (l : LayoutParts) (t : ℕ) (c : Cell) (o : Option Placed) → slice_get l.placed t ≡ o
    → is_over_at o c ≡ true → IsOver l t c
over_at_is l t c o e h = grind (arith, over_is)

pub has_cell_is : (l : LayoutParts) (t : ℕ) (c : Cell) → has_cell l t c ≡ true → IsOver l t c
has_cell_is l t c h = grind (arith, over_at_is)

pub has_cell_data : (l : LayoutParts) (t : ℕ) (c : Cell) → has_cell l t c ≡ true → IsDataCell c
has_cell_data l t c h = grind arith

pub is_has_cell : (l : LayoutParts) (t : ℕ) (c : Cell) → IsDataCell c → IsOver l t c → has_cell l t c ≡ true
is_has_cell l t c is h =
    and_from (is_data c) (is_over_at (slice_get l.placed t) c) (is_data_cell c is)
    (grind (arith, is_over_cell))

-- the segments over a cell, by their indices in a list
abbrev IsSomeOver : Cell → List Placed → Type 0
IsSomeOver c ps = (t : ℕ) × (p : Placed) × (slice_get ps t ≡ Some p) × (is_over p c ≡ true)

over_some : (c : Cell) (ps : List Placed) → list_any (λ p. is_over p c) ps ≡ true → IsSomeOver c ps
over_some c [] h = cc h
over_some c (p ∷ ps) h = elim (cases_Bool (is_over p c)) [
  | inl e ↦ (0, p, refl, e)
  | inr e ↦ let k = over_some c ps (rw e at h) in (suc k.0, k.1, k.2, k.3)
]

some_over : (c : Cell) (ps : List Placed) (t : ℕ) (p : Placed) → slice_get ps t ≡ Some p → is_over p c ≡ true
    → list_any (λ p. is_over p c) ps ≡ true
some_over c [] t p e h = cc e
some_over c (q ∷ ps) zero p e h = cc
some_over c (q ∷ ps) (suc t) p e h = or_right (is_over q c) (list_any (λ p. is_over p c) ps) (some_over c ps t p e h)

-- a cell of data memory is common, or some segment is over it
pub common_or_over : (l : LayoutParts) (c : Cell) → IsDataCell c
    → ((is_common l c ≡ true) × ((t : ℕ) → IsOver l t c → ⊥)) ⊎ ((is_common l c ≡ false) × ((t : ℕ) × IsOver l t c))
common_or_over l c is = by_any (list_any (λ p. is_over p c) l.placed) refl
  where
    by_any : (b : Bool) → list_any (λ p. is_over p c) l.placed ≡ b
        → ((is_common l c ≡ true) × ((t : ℕ) → IsOver l t c → ⊥)) ⊎ ((is_common l c ≡ false) × ((t : ℕ) × IsOver l t c))
    by_any true e = grind (arith, over_some, over_is)
    by_any false e = inl (
      rw (is_data_cell c is, e) refl,
      λ t h. cc (e, some_over c l.placed t h.is h.placed (grind (arith, is_over_cell))),
    )

pub free_is_common : (l : LayoutParts) (c : Cell) → IsDataCell c → ((t : ℕ) → IsOver l t c → ⊥) → is_common l c ≡ true
free_is_common l c is free = elim (common_or_over l c is) [ inl f ↦ f.0 | inr h ↦ absurd (free h.1.0 h.1.1) ]

-- a cell has one answer
pub one_answer : (l : LayoutParts) (live : Live) (s : Stores) (c : Cell) (x y : CellState) → OneLive l live
    → Resolves l live s c x → Resolves l live s c y → x ≡ y
one_answer l live s c x y one (InSegment t p h e) (InSegment u q k f) = cc (one c t u p q h k)
one_answer l live s c x y one (InSegment t p h e) (InCommon free f) = absurd (free t p)
one_answer l live s c x y one (InSegment t p h e) (Nowhere u q free f) = absurd (free t p h)
one_answer l live s c x y one (InCommon free e) (InSegment t p h f) = absurd (free t p)
one_answer l live s c x y one (InCommon free e) (Nowhere u q free' f) = absurd (free u q)
one_answer l live s c x y one (Nowhere u q free e) (InSegment t p h f) = absurd (free t p h)
one_answer l live s c x y one (Nowhere u q free e) (InCommon free' f) = absurd (free' u q)
one_answer l live s c x y one (InCommon free e) (InCommon free' f) = cc (e, f)
one_answer l live s c x y one (Nowhere u q free e) (Nowhere u' q' free' f) = cc (e, f)

-- a value is put only into a cell that is not outside
abbrev pub MayPut : Option ℕ → CellState → Type 0
MayPut None state = Unit {0}
MayPut (Some v) state = state ≢ Absent

pub put_resolves : (l : LayoutParts) (live : Live) (s : Stores) (put : Put) (c : Cell) (state : CellState)
    → IsDataCell c → MayPut (written_to put c) state
    → Resolves l live s c state → Resolves l live (put_into l live put s) c (state_over (written_to put c) state)
put_resolves l live s put c state is may (InSegment t p h e) =
    InSegment t p h (grind (arith, is_has_cell))
put_resolves l live s put c state is may (InCommon free e) =
    InCommon free (grind (arith, free_is_common))
put_resolves l live s put c state is may (Nowhere t p free e) =
    Nowhere t p free (grind arith)
