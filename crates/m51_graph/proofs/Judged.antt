-- What the rules on edges and roots make sure of.
use Rattle.m51_graph.proofs.Common.{◌≡◌, inl, inr, ℕ, zero, suc, ◌+◌, ◌-◌, ◌<◌, true, false, Bool, nat_eq, List, []}
use Rattle.m51_graph.proofs.Common.{◌∷◌, length, get_or, Option, Some, None, refl, sym, ◌∙◌, arith, option_map_or}
use Rattle.m51_graph.proofs.Common.{option_or, cases_Bool, false≢true, Decides-eqb, list_any_at, vectors, GraphParts}
use Rattle.m51_graph.proofs.Common.{AreOfUnits, first_under_two, cyclic_from, lies_under}
use Rattle.std.proofs.Common.{Ok}
use Rattle.std.proofs.lemmas.Option.{slice_get_within, get_or_from_slice_get}
use Rattle.m51_cells.specs.Outcome.{RefusesWith}
use Rattle.m51_module.specs.declared.linked.Refusal.{Refusal}
use Rattle.m51_cells.proofs.ListsAndOptions.{filter_keeps}
use Rattle.m51_cells.proofs.Members.{In, in_contains}
use Rattle.m51_module.proofs.Units.{same_or_not}
use Rattle.m51_graph.specs.Graph.{IsGraph, IsOwn, UnitLiesUnder}
use Rattle.m51_graph.specs.Graphs.{passed, under_two, unit_under_two, has_overlaid, roots_above}
use Rattle.m51_graph.specs.Leading.{leads}
use Rattle.m51_graph.proofs.Deciding.{leads_tells}
use Rattle.m51_graph.proofs.Relations.{above_tells, owner_under}

-- a rule that passes has no refusal
pub passed_none : (rule : Option Refusal) (v : Unit {0}) → passed rule ≡ Ok v → rule ≡ None
passed_none None v h = refl
passed_none (Some refusal) v h = absurd (cc h)

-- the first rule that fails is that of several
pub refuses_more : (refusal rule rest : Option Refusal) → RefusesWith refusal (passed rule)
    → RefusesWith refusal (passed (option_or rule rest))
refuses_more None rule rest h = tt
refuses_more (Some r) None rest h = absurd (cc h)
refuses_more (Some r) (Some s) rest h = h

-- a list without an item
pub none_left : (xs : List (List ℕ)) → length xs ≡ 0 → xs ≡ []
none_left [] h = refl
none_left (x ∷ xs) h = absurd (omega (arith, h))

-- no unit reaches itself
cyclic_none : (reach : ℕ → ℕ → Bool) (unit : ℕ) (titles : List (List ℕ)) → cyclic_from reach unit titles ≡ [] → (k : ℕ)
    → k < length titles → reach (unit + k) (unit + k) ≡ false
cyclic_none reach unit [] h k below = absurd (omega (arith, below))
cyclic_none reach unit (title ∷ more) h k below =
    elim (cases_Bool (reach unit unit)) [
      | inl cycle ↦ absurd (cc (rw cycle at h))
      | inr free ↦ elim (same_or_not k 0) [
        | inl here ↦ let same : unit ≡ unit + k = omega (arith, here) in rw same at free
        | inr later ↦
            let next : unit + 1 + (k - 1) ≡ unit + k = omega (arith, later) in
            rw next at (cyclic_none reach (unit + 1) more (rw free at h) (k - 1) (omega (arith, below, later)))
      ]
    ]

-- the rules of all units
pub none_of_both : (one two : Option Refusal) → option_or one two ≡ None → (one ≡ None) × (two ≡ None)
none_of_both None two h = (refl, h)
none_of_both (Some r) two h = absurd (cc h)

none_under_two : (reach : ℕ → ℕ → Bool) (g : GraphParts) (unit : ℕ) (titles : List (List ℕ))
    → first_under_two reach g.roots g.own unit titles ≡ None → (k : ℕ) → k < length titles
    → unit_under_two reach g.roots g.own (unit + k) (get_or titles k []) ≡ None
none_under_two reach g unit [] h k below = absurd (omega (arith, below))
none_under_two reach g unit (title ∷ more) h zero below =
    let here : unit + 0 ≡ unit = omega arith in rw here (none_of_both _ _ h).0
none_under_two reach g unit (title ∷ more) h (suc k) below =
    let next : unit + 1 + k ≡ unit + suc k = omega arith in
    rw next at (none_under_two reach g (unit + 1) more (none_of_both _ _ h).1 k (omega (arith, below)))

-- a unit without that refusal lies under one root at most
at_most_one : (title xs : List ℕ) (x y : ℕ) → under_two title xs ≡ None → In x xs → In y xs → x ≡ y
at_most_one title [] x y h in_x in_y = absurd in_x
at_most_one title (a ∷ []) x y h (inl here) (inl there) = sym here ∙ there
at_most_one title (a ∷ []) x y h (inl here) (inr none) = absurd none
at_most_one title (a ∷ []) x y h (inr none) in_y = absurd none
at_most_one title (a ∷ b ∷ more) x y h in_x in_y = absurd (cc h)

-- an own unit has an overlaid segment
own_has_overlaid : (g : GraphParts) (unit segment : ℕ) → IsOwn g unit segment → has_overlaid g.own unit ≡ true
own_has_overlaid g unit segment own =
    list_any_at (λ found. option_map_or (nat_eq unit) found false) g.own segment None
    (slice_get_within g.own segment (Some unit) own)
    (rw (get_or_from_slice_get g.own segment (Some unit) None own) ((Decides-eqb unit unit).1 refl))

module _ (titles : List (List ℕ)) (g : GraphParts) (units : AreOfUnits g) (same : length titles ≡ length g.units) where
  one_above : first_under_two (leads g.edges) g.roots g.own 0 titles ≡ None → (segment unit x y : ℕ)
      → IsOwn g unit segment → UnitLiesUnder g x unit → UnitLiesUnder g y unit → x ≡ y
  one_above single s u x y own above_x above_y =
      let reach : ℕ → ℕ → Bool = leads g.edges in
      let title : List ℕ = get_or titles u [] in
      let below : u < length titles = omega (arith, units.own u s own, same) in
      let same_unit : 0 + u ≡ u = omega arith in
      let under = rw (same_unit, own_has_overlaid g u s own) at (none_under_two reach g 0 titles single u below) in
      let among : (v : ℕ) → UnitLiesUnder g v u → In v (roots_above reach g.roots u) =
      λ v h. in_contains _ v (filter_keeps (λ vector. lies_under reach g.roots vector u) vectors v
      (units.roots v h.root h.is_root).0 ((above_tells g v u).1 h)) in
      at_most_one title (roots_above reach g.roots u) x y under (among x above_x) (among y above_y)

  pub graph_judged : cyclic_from (leads g.edges) 0 titles ≡ [] → first_under_two (leads g.edges) g.roots g.own 0 titles
      ≡ None → IsGraph g
  graph_judged free single = record {
    units = units;
    no_cycle = λ u r.
        let below : u < length titles = omega (arith, (units.edges.within u r.next r.walk.0).0, same) in
        let same_unit : 0 + u ≡ u = omega arith in
        let none = rw same_unit at (cyclic_none (leads g.edges) 0 titles free u below) in
        false≢true (sym none ∙ (leads_tells g.edges u u).1 r);
    one_root = λ s u x y owns above_x above_y.
        one_above single s owns.own x y owns.own_is (owner_under g s u x owns above_x)
        (owner_under g s u y owns above_y);
  }
