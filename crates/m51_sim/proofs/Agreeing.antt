-- A map that has the values of the stores.
use Rattle.m51_sim.proofs.Common.{◌≡◌, ℕ, Bool, true, false, ◌&&◌, Option, Some, None, refl, sym, ◌∙◌, arith}
use Rattle.m51_sim.proofs.Common.{if◌then◌else◌, Cell, LayoutParts, IsSound, CellMap, segment_over, filled_map}
use Rattle.m51_sim.proofs.Common.{map_after}
use Rattle.std.proofs.lemmas.Bool.{lt-ltb}
use Rattle.std.proofs.Common.{not, inl, inr}
use Rattle.std.proofs.lemmas.Option.{same_Some}
use Rattle.std.specs.Prelude.{slice_get}
use Rattle.m51_cells.specs.declared.cell.Space.{Space}
use Rattle.m51_cells.specs.declared.cell.Space.TheVariants.{Ram, Xram, Code}
use Rattle.m51_module.specs.Conflict.{FirstPlain}
use Rattle.m51_module.specs.Plan.{IsOverlaid}
use Rattle.m51_flat.specs.declared.state.Put.{Put}
use Rattle.m51_flat.specs.Reads.{Agrees}
use Rattle.m51_flat.specs.States.{CellState, Holds, Absent, ram_cell, written_in, xram_cell}
use Rattle.m51_cells.specs.Cells.{IsDataCell}
use Rattle.m51_monitor.specs.Masks.{IsCellAt}
use Rattle.m51_monitor.specs.Resolved.{resolved, resolved_cells, held_in}
use Rattle.m51_monitor.specs.Stores.{Stores, IsOver, Live, Resolves, InSegment, InCommon, Nowhere, held, is_overlaid_at}
use Rattle.m51_monitor.specs.Stores.{over, has_cell, is_common, is_data, put_into, unset_dead, fill_in, filled_stores}
use Rattle.m51_monitor.specs.Stores.{AreStores}
use Rattle.m51_monitor.proofs.Liveness.{overlaid_tells}
use Rattle.m51_monitor.proofs.Resolved.{resolves}
use Rattle.m51_monitor.proofs.Resolving.{common_or_over, data_cell_is, is_has_cell}
use Rattle.m51_sim.specs.FlatMachine.{replaced}
use Rattle.m51_sim.specs.Laws.{FilledHasFill, HasFill, mapped_value}

-- where a store has a value, the map has it
pub record AgreesWith (l : LayoutParts) (s : Stores) (m : CellMap) : Type 0 where
  pub segment : (t : ℕ) (c : Cell) (v : ℕ) → IsDataCell c → IsOver l t c → s.segment t c ≡ Some v
      → mapped_value m c.space c.at ≡ v
  pub common : (c : Cell) (v : ℕ) → IsDataCell c → s.common c ≡ Some v → mapped_value m c.space c.at ≡ v

value_after : (put : Put) (m : CellMap) (s : Space) (n : ℕ) → IsCellAt s n
    → mapped_value (map_after put m) s n ≡ replaced (written_in put s n) (mapped_value m s n)
value_after put m Ram n h = refl
value_after put m Xram n h = refl
value_after put m Code n h = absurd h.0

-- a put into one store's cell: one that is not written to has no value
cell_agrees : (b : Bool) (w old : Option ℕ) (x v : ℕ) → (b ≡ false → old ≡ None)
    → (if b then over w old else old) ≡ Some v → (old ≡ Some v → x ≡ v) → replaced w x ≡ v
cell_agrees true None old x v none e h = h e
cell_agrees true (Some y) old x v none e h = cc e
cell_agrees false w old x v none e h = cc (none refl, e)

and_dead : (a b : Bool) → (a && b) ≡ false → b ≡ true → a ≡ false
and_dead a b e f = grind arith

pub put_agrees : (l : LayoutParts) (live : Live) (put : Put) (s : Stores) (m : CellMap) → AreStores l live s
    → AgreesWith l s m → AgreesWith l (put_into l live put s) (map_after put m)
put_agrees l live put s m are h = record {
  segment = λ t c v is at e. value_after put m c.space c.at is
      ∙ cell_agrees (live t && has_cell l t c) _ _ _ v
      (λ f. are.dead t c (and_dead (live t) _ f (is_has_cell l t c is at))) e (h.segment t c v is at);
  common = λ c v is e. value_after put m c.space c.at is
      ∙ cell_agrees (is_common l c) _ _ _ v (are.of_common c) e (h.common c v is);
}

if_some : (b : Bool) (x : Option ℕ) (v : ℕ) → (if b then x else None) ≡ Some v → (b ≡ true) × (x ≡ Some v)
if_some true x v e = (refl, e)
if_some false x v e = cc e

pub unset_agrees : (l : LayoutParts) (live : Live) (s : Stores) (m : CellMap) → AgreesWith l s m
    → AgreesWith l (unset_dead live s) m
unset_agrees l live s m h = record {
  segment = λ t c v is at e. h.segment t c v is at (if_some (live t) (s.segment t c) v e).1;
  common = h.common;
}

held_some : (o : Option ℕ) (v : ℕ) → held o ≡ Holds v → o ≡ Some v
held_some None v e = cc e
held_some (Some w) v e = cc e

by_resolves : (l : LayoutParts) (live : Live) (s : Stores) (m : CellMap) (c : Cell) (state : CellState) (v : ℕ)
    → AgreesWith l s m → IsDataCell c → Resolves l live s c state → state ≡ Holds v → mapped_value m c.space c.at ≡ v
by_resolves l live s m c state v h is (InSegment t at alive f) e = h.segment t c v is at (held_some _ v (sym f ∙ e))
by_resolves l live s m c state v h is (InCommon free f) e = h.common c v is (held_some _ v (sym f ∙ e))
by_resolves l live s m c state v h is (Nowhere t at free f) e = cc (f, e)

if_held : (b : Bool) (x : CellState) (v : ℕ) → (if b then x else Absent) ≡ Holds v → b ≡ true
if_held b x v e = grind arith

cell_held : (l : LayoutParts) (live : Live) (s : Stores) (m : CellMap) (c : Cell) (v : ℕ) → AgreesWith l s m
    → resolved l live s c ≡ Holds v → mapped_value m c.space c.at ≡ v
cell_held l live s m c v h e =
    let is = data_cell_is c (if_held (is_data c) (held_in s c (is_common l c) (segment_over l live c)) v e) in
    by_resolves l live s m c (resolved l live s c) v h is (resolves l live s c is) e

-- so it agrees with what the stores answer
pub agrees_cells : (l : LayoutParts) (live : Live) (s : Stores) (m : CellMap) → AgreesWith l s m
    → Agrees (resolved_cells l live s) m
agrees_cells l live s m h =
    record {
      ram = λ n v e. cell_held l live s m (ram_cell n) v h e;
      xram = λ n v e. cell_held l live s m (xram_cell n) v h e;
    }

plain_is : (l : LayoutParts) (t : ℕ) (b : Bool) → (not (is_overlaid_at (slice_get l.placed t)) && b) ≡ true
    → IsOverlaid l t → ⊥
plain_is l t b e = elim (overlaid_tells l t) [
  | inl k ↦ absurd (cc (e, k.0))
  | inr k ↦ k.1
]

-- at the start
pub start_agrees : (l : LayoutParts) (fill : ℕ) (m : CellMap) → IsSound l → HasFill l fill m
    → AgreesWith l (filled_stores l fill) m
start_agrees l fill m sound has = record {
  segment = λ t c v is at e.
      let k = if_some (not (is_overlaid_at (slice_get l.placed t)) && has_cell l t c) _ v e in
      let plain = plain_is l t _ k.0 in
      has.each c is (λ u o over_u. sound.apart t u at.is over_u.is at.placed over_u.placed
      (λ same. plain (rw same o)) (FirstPlain plain) (c, at.covers, over_u.covers)) ∙ same_Some _ v k.1;
  common = λ c v is e.
      let k = if_some (is_common l c) _ v e in
      elim (common_or_over l c is) [
        | inl f ↦ has.each c is (λ u o over_u. f.1 u over_u) ∙ same_Some _ v k.1
        | inr f ↦ cc (f.0, k.0)
      ];
}

-- the map that has the fill everywhere
filled_value : (fill : ℕ) (s : Space) (n : ℕ) → IsCellAt s n → mapped_value (filled_map fill) s n ≡ fill_in fill s n
filled_value fill Ram n h = rw (lt-ltb n 2048 h.1) refl
filled_value fill Xram n h = rw (lt-ltb n 65536 h.1) refl
filled_value fill Code n h = absurd h.0

pub filled_has : FilledHasFill
filled_has l fill = record { each = λ c is apart. filled_value fill c.space c.at is }
