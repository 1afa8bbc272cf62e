-- The tables of edges and of units by address, extended by one edge, one address and one unit at a time.
use Rattle.std.proofs.lemmas.Grind.{common_steps}
use Rattle.std.proofs.Common.{◌≡◌, ◌≢◌, inl, inr, ℕ, zero, suc, ◌+◌, ◌<◌, ◌≤◌, Bool, true, false, List, [], ◌∷◌, ◌++◌}
use Rattle.std.proofs.Common.{length, Option, Some, None, replicate, refl, sym, ap, subst, ◌∙◌, arith}
use Rattle.std.specs.Prelude.{slice_index_or, slice_set, take, ◌↔◌}
use Rattle.std.proofs.lemmas.Bool.{cases_lt}
use Rattle.std.proofs.lemmas.List.{get_or-set_same, get_or-set_other, length-replicate, length-set, take_more}
use Rattle.std.proofs.lemmas.List.Elements.{Contains-get_or, Contains-push, Contains-push_cases, Contains-append_left}
use Rattle.std.proofs.lemmas.Option.{same_Some}
use Rattle.m51_cells.specs.declared.kind.Kind.TheVariants.{Code}
use Rattle.m51_cells.specs.declared.cell.Space.TheVariants.{Code as CodeSpace}
use Rattle.m51_cells.specs.Extent.{extent}
use Rattle.m51_cells.proofs.Small.{below_or_last}
use Rattle.m51_module.specs.declared.parts.LayoutParts.{LayoutParts}
use Rattle.m51_module.specs.declared.placed.Placed.{Placed}
use Rattle.m51_module.specs.Cells.{extent_at}
use Rattle.m51_module.specs.Kept.{AreClear, AreEdgeRows, AreUnitsAt, IsEmptyTable, IsEntered, LeadsWithin}
use Rattle.m51_module.specs.Plan.{IsUnit, IsUnitAt}
use Rattle.m51_module.specs.Sound.{IsSound, IsInside}
use Rattle.m51_module.specs.Walks.{Edges, HasEdge}
use Rattle.m51_module.proofs.CellLemmas.{inside_end}
use Rattle.m51_module.proofs.Units.{same_or_not, one_unit}

-- one more row
pub clear_more : (units wide : ℕ) (rows : List (List Bool)) (row : List Bool) → AreClear units wide rows → row
    ≡ replicate wide false → AreClear (units + 1) wide (rows ++ row ∷ [])
clear_more units wide rows row h is = grind (arith, common_steps, below_or_last)

-- an edge of the list leads from a row to a bit of it
pub edge_within : (count : ℕ) (edges : Edges) (i : ℕ) → LeadsWithin count edges → i < length edges
    → ((slice_index_or edges i (0, 0)).0 < count) × ((slice_index_or edges i (0, 0)).1 < count)
edge_within count edges i h below = h _ _ (Contains-get_or edges i (0, 0) below)

-- what one more edge sets
module _ (edges : Edges) (units : ℕ) (rows : List (List Bool)) (f t : ℕ) (h : AreEdgeRows edges units rows)
    (f_in : f < units) (t_in : t < units) where
  abbrev row : List Bool
  row = slice_set (slice_index_or rows f []) t true

  same_row : slice_index_or (slice_set rows f row) f [] ≡ row
  same_row = grind (arith, get_or-set_same)

  other_row : (u : ℕ) → u ≢ f → slice_index_or (slice_set rows f row) u [] ≡ slice_index_or rows u []
  other_row u ne = get_or-set_other rows f u row [] ne

  at_new : slice_index_or row t false ≡ true
  at_new = grind (arith, get_or-set_same)

  at_other : (v : ℕ) → v ≢ t → slice_index_or row v false ≡ slice_index_or (slice_index_or rows f []) v false
  at_other v ne = get_or-set_other (slice_index_or rows f []) t v true false ne

  bit : (u v : ℕ) → u < units → v < units
      → (slice_index_or (slice_index_or (slice_set rows f row) u []) v false ≡ true)
      ↔ HasEdge (edges ++ (f, t) ∷ []) u v
  bit u v u_in v_in = grind (
    arith,
    same_or_not u f,
    same_or_not v t,
    same_row,
    other_row u,
    at_new,
    at_other v,
    h.each u v u_in v_in,
    Contains-push edges (f, t),
    Contains-push_cases edges (f, t) (u, v),
    Contains-append_left edges ((f, t) ∷ []) (u, v),
  )

  edge_more : AreEdgeRows (edges ++ (f, t) ∷ []) units
      (slice_set rows f (slice_set (slice_index_or rows f []) t true))
  edge_more = grind (arith, length-set, same_row, other_row, bit)

pub edges_more : (edges : Edges) (units i : ℕ) (rows : List (List Bool)) → LeadsWithin units edges → i < length edges
    → AreEdgeRows (take i edges) units rows
    → AreEdgeRows (take (i + 1) edges) units
    (slice_set rows (slice_index_or edges i (0, 0)).0
    (slice_set (slice_index_or rows (slice_index_or edges i (0, 0)).0 []) (slice_index_or edges i (0, 0)).1 true))
edges_more edges units i rows within below h =
    let k = edge_within units edges i within below in
    rw (take_more edges i (0, 0) below) (edge_more (take i edges) units rows _ _ h k.0 k.1)

-- a table of no unit
none_at : (count address : ℕ) → slice_index_or (replicate {A = Option ℕ} count None) address None ≡ None
none_at count address = grind (arith, common_steps)

pub empty_table : (count : ℕ) (table : List (Option ℕ)) → table ≡ replicate count None → IsEmptyTable count table
empty_table count table is = rw is (grind (arith, length-replicate, none_at))

-- a unit of program memory ends inside it
pub unit_end : (l : LayoutParts) (unit : ℕ) (p : Placed) → IsSound l → IsUnit l unit p → p.kind ≡ Code → p.base ≤ 65536
    → p.base + p.size ≤ 65536
unit_end l unit p sound is code low = by_size p.size refl where
  by_size : (size : ℕ) → p.size ≡ size → p.base + p.size ≤ 65536
  by_size zero e = omega (arith, e, low)
  by_size (suc more) e =
      let inside : IsInside (extent_at p) = (sound.fit is.segment p is.placed).inside in
      inside_end (extent CodeSpace p.base p.size) (rw code at inside) (omega (arith, e))

-- an address that a unit covers lies between its base and its end
covered : (l : LayoutParts) (address unit : ℕ) (p : Placed) → IsUnit l unit p → p.kind ≡ Code → IsUnitAt l address unit
    → (p.base ≤ address) × (address < p.base + p.size)
covered l address unit p is code at = grind arith

-- and it covers each of those
covers : (l : LayoutParts) (address unit : ℕ) (p : Placed) → IsUnit l unit p → p.kind ≡ Code → p.base ≤ address
    → address < p.base + p.size → IsUnitAt l address unit
covers l address unit p is code from below = grind arith

-- one more unit
pub units_more : (l : LayoutParts) (unit : ℕ) (p : Placed) (old new : List (Option ℕ)) → IsSound l
    → AreUnitsAt l unit old → IsUnit l unit p → p.kind ≡ Code
    → IsEntered p.base p.size unit old new → AreUnitsAt l (unit + 1) new
units_more l unit p old new sound h is code entered = record {
  len = entered.len ∙ h.len;
  some = λ address v inside e. elim (cases_lt address p.base) [
    | inl low ↦ before address v (h.some address v inside (sym (entered.before address low) ∙ e))
    | inr from ↦ elim (cases_lt address (p.base + p.size)) [
      | inr high ↦ before address v (h.some address v inside (sym (entered.after address high) ∙ e))
      | inl below ↦ at_unit address v (same_Some unit v (sym (entered.within address from below) ∙ e))
          (covers l address unit p is code from below)
    ]
  ];
  only = λ address v inside below at. elim (below_or_last v unit below) [
    | inl less ↦ grind (
      arith,
      cases_lt address p.base,
      cases_lt address (p.base + p.size),
      entered.before address,
      entered.after address,
      h.only address v inside less at,
      one_unit l sound address v unit at,
      covers l address unit p is code,
    )
    | inr last ↦
        (let k = covered l address unit p is code (subst (IsUnitAt l address) last at) in
        entered.within address k.0 k.1 ∙ ap Some (sym last))
  ];
} where
  before : (address v : ℕ) → (v < unit) × IsUnitAt l address v → (v < unit + 1) × IsUnitAt l address v
  before address v k = (omega (arith, k.0), k.1)

  at_unit : (address v : ℕ) → unit ≡ v → IsUnitAt l address unit → (v < unit + 1) × IsUnitAt l address v
  at_unit address v e at = (omega (arith, e), subst (IsUnitAt l address) e at)
