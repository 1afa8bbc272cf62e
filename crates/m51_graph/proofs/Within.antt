-- The edges, roots and owners of a program are of its units.
use Rattle.m51_graph.proofs.Common.{◌≡◌, ◌⊎◌, inl, inr, ℕ, zero, suc, ◌+◌, ◌<◌, ◌≤◌, Bool, true, cond, not, List, []}
use Rattle.m51_graph.proofs.Common.{◌∷◌, length, refl, sym, subst, ◌∙◌, arith, Option, Some, None, filter, nat_eq}
use Rattle.m51_graph.proofs.Common.{and_parts, cases_Bool, Decides-eqb, Any-from_list_any, Contains, cons_option}
use Rattle.m51_graph.proofs.Common.{filter_map, list_any, range_with_len, option_map_or, flat_map, slice_get, Control}
use Rattle.m51_graph.proofs.Common.{added_by, edge_named, fixup_edge, fixup_edges, has_edge, is_cut, module_edges}
use Rattle.m51_graph.proofs.Common.{with_edge, with_edges, AreOfUnits, LeadWithin, is_apart, overlaid_by, code_segments}
use Rattle.m51_graph.proofs.Common.{named, unit_titles, units_from, units_of, vectors, Edges, ModuleParts, segments_of}
use Rattle.m51_graph.proofs.Common.{JoinedSegment}
use Rattle.std.proofs.Common.{ltb}
use Rattle.std.specs.Prelude.{position, option_and_then, IfSome}
use Rattle.std.specs.List.{position_or_len}
use Rattle.std.proofs.lemmas.List.{length-map}
use borrow.Author.Tests.{ltb-true}
use Rattle.m51_cells.proofs.Members.{contains_in, Every, every_append, every_filter, every_in, every_of, In}
use Rattle.m51_cells.proofs.Members.{in_contains}
use Rattle.m51_cells.specs.declared.kind.Base.{Base}
use Rattle.m51_cells.specs.declared.kind.Base.TheVariants.{Segment as InSegment}
use Rattle.m51_cells.specs.Kinds.{is_absolute}
use Rattle.m51_control.specs.declared.control.Control.TheVariants.{Add}
use Rattle.m51_resolve.specs.Referents.{referent}
use Rattle.m51_graph.specs.Drawing.{edge_between, edges_of}
use Rattle.m51_graph.specs.DrawnEdges.{IsEdgeWithin}
use Rattle.m51_graph.specs.Graphs.{parts_of}
use Rattle.m51_graph.specs.Locals.{own_name, own_unit, own_units, unless_apart}
use Rattle.m51_graph.specs.Units.{is_root, roots_from, unit_of}

-- there are as many titles as units
pub count_units : (number : ℕ) (segments : List JoinedSegment) → length (units_from number segments)
    ≡ length (code_segments segments)
count_units number [] = refl
count_units number (j ∷ more) = grind (arith, count_units (number + 1) more)

pub titles_are : (segments : List JoinedSegment) → length (unit_titles segments) ≡ length (units_of segments)
titles_are segments = length-map (code_segments segments) (λ j. j.title) ∙ sym (count_units 0 segments)

-- a number, if there is one, is below the count
abbrev Below : ℕ → Option ℕ → Type 0
Below count None = Unit {0}
Below count (Some k) = k < count

if_below : (k count : ℕ) → Below count (cond (ltb k count) (Some k) None)
if_below k count = elim (cases_Bool (ltb k count)) [
  | inl within ↦ rw within (ltb-true k count within)
  | inr out ↦ rw out tt
]

position_below : {A : Type 0} (p : A → Bool) (xs : List A) → Below (length xs) (position p xs)
position_below p xs = if_below (position_or_len p xs) (length xs)

then_below : {A : Type 0} (count : ℕ) (f : A → Option ℕ) (found : Option A) → ((x : A) → Below count (f x))
    → Below count (option_and_then f found)
then_below count f None h = tt
then_below count f (Some x) h = h x

-- both ends of an edge are within, of an edge that there may be, and of each of a list
abbrev pub EdgeWithin : ℕ → Option (ℕ × ℕ) → Type 0
EdgeWithin count found = IfSome found (λ edge. IsEdgeWithin count edge)

abbrev AreInside : ℕ → Edges → Type 0
AreInside count edges = Every (IsEdgeWithin count) edges

between_within : (count : ℕ) (a b : Option ℕ) → Below count a → Below count b → EdgeWithin count (edge_between a b)
between_within count None b h k = tt
between_within count (Some u) None h k = tt
between_within count (Some u) (Some v) h k = elim (cases_Bool (nat_eq u v)) [
  | inl same ↦ rw same tt
  | inr other ↦ rw other (record { from = h; to = k })
]

module _ (count : ℕ) where
  edges_inside : (edges more : Edges) → AreInside count edges → AreInside count more
      → AreInside count (with_edges edges more)
  edges_inside edges [] h k = h
  edges_inside edges (e ∷ more) h k = edges_inside (with_edge edges e) more drawn k.1
    where
      drawn : AreInside count (with_edge edges e)
      drawn = elim (cases_Bool (has_edge edges e)) [
        | inl there ↦ rw there h
        | inr new ↦ rw new (every_append (IsEdgeWithin count) edges (e ∷ []) h (k.0, tt))
      ]

  made_inside : {A : Type 0} (f : A → Option (ℕ × ℕ)) → ((x : A) → EdgeWithin count (f x))
      → (xs : List A) → AreInside count (filter_map f xs)
  made_inside f h [] = tt
  made_inside f h (x ∷ xs) = by (f x) (h x) (made_inside f h xs)
    where
      by : (o : Option (ℕ × ℕ)) → EdgeWithin count o → AreInside count (filter_map f xs)
          → AreInside count (cons_option o (filter_map f xs))
      by None w k = k
      by (Some e) w k = (w, k)

  flat_inside : {A : Type 0} (f : A → Edges) → ((x : A) → AreInside count (f x)) → (xs : List A)
      → AreInside count (flat_map f xs)
  flat_inside f h [] = tt
  flat_inside f h (x ∷ xs) = every_append (IsEdgeWithin count) (f x) (flat_map f xs) (h x) (flat_inside f h xs)

  lead_within : (edges : Edges) → AreInside count edges → LeadWithin count edges
  lead_within edges h = record {
    within = λ u v k.
        let e = every_in (IsEdgeWithin count) edges (u, v) h (in_contains edges (u, v) k) in (e.from, e.to);
  }

-- the edges that fixups make
module _ (modules : List ModuleParts) where
  abbrev count : ℕ
  count = length (unit_titles (segments_of modules))

  unit_below : (m : ℕ) (base : Base) → Below count (unit_of modules m base)
  unit_below m base = then_below count _ (referent modules m base).part
      (λ part. rw (titles_are (segments_of modules)) (position_below (nat_eq part.0) (units_of (segments_of modules))))

  module_inside : (m : ℕ) → AreInside count (module_edges modules m)
  module_inside m = by (slice_get modules m)
    where
      by : (found : Option ModuleParts) → AreInside count
          (option_map_or (λ (parts : ModuleParts). filter_map (fixup_edge modules m) parts.fixups) found [])
      by None = tt
      by (Some parts) = made_inside count (fixup_edge modules m)
          (λ f. between_within count _ _ (unit_below m (InSegment f.segment)) (unit_below m f.target)) parts.fixups

  pub fixups_within : LeadWithin (length (unit_titles (segments_of modules))) (fixup_edges modules)
  fixups_within =
      let made = flat_map (module_edges modules) (range_with_len 0 (length modules)) in
      lead_within count (with_edges [] made)
      (edges_inside count [] made tt
      (flat_inside count (module_edges modules) module_inside (range_with_len 0 (length modules))))

-- the edges that lines add
pub named_within : (titles : List (List ℕ)) (from name : List ℕ)
    → EdgeWithin (length titles) (edge_named titles from name)
named_within titles from name =
    between_within (length titles) (named titles from) (named titles name) (position_below _ titles)
    (position_below _ titles)

added_inside : (titles : List (List ℕ)) (control : Control) → AreInside (length titles) (added_by titles control)
added_inside titles (Add from names) =
    made_inside (length titles) (edge_named titles from) (named_within titles from) names
added_inside titles control = tt

edges_within : (titles : List (List ℕ)) (controls : List (ℕ × Control)) (made : Edges) → LeadWithin (length titles) made
    → LeadWithin (length titles) (edges_of titles controls made)
edges_within titles controls made h =
    let added : ℕ × Control → Edges = λ line. added_by titles line.1 in
    let before : AreInside (length titles) made =
    every_of (IsEdgeWithin (length titles)) made
    (λ e i. let both = h.within e.0 e.1 (contains_in made e i) in record { from = both.0; to = both.1 }) in
    let keeps : ℕ × ℕ → Bool = λ edge. not (is_cut titles controls edge) in
    let all = with_edges made (flat_map added controls) in
    lead_within (length titles) (filter keeps all)
    (every_filter (IsEdgeWithin (length titles)) keeps all
    (edges_inside (length titles) made (flat_map added controls) before
    (flat_inside (length titles) added (λ line. added_inside titles line.1) controls)))

-- roots are units at vectors
vector_is : (j : JoinedSegment) → is_root j ≡ true → Contains vectors j.base
vector_is j h =
    let any =
    Any-from_list_any (nat_eq j.base) vectors
    (and_parts (is_absolute j.reloc) (list_any (nat_eq j.base) vectors) h).1 in
    rw ((Decides-eqb j.base any.1).0 any.4) (any.0, any.2, any.3)

roots_fit : (unit : ℕ) (segments : List JoinedSegment) (e : ℕ × ℕ) → In e (roots_from unit segments)
    → Contains vectors e.0 × (e.1 < unit + length segments)
roots_fit unit [] e h = absurd h
roots_fit unit (j ∷ more) e h =
    let rest = roots_from (unit + 1) more in
    let later : In e rest → Contains vectors e.0 × (e.1 < unit + length (j ∷ more)) =
    λ k. let fit = roots_fit (unit + 1) more e k in (fit.0, omega (arith, fit.1)) in
    elim (cases_Bool (is_root j)) [
      | inl root ↦
          let either : ((j.base, unit) ≡ e) ⊎ In e rest = rw root at h in
          elim either [ inl here ↦ rw (← here) (vector_is j root, omega arith) | inr behind ↦ later behind ]
      | inr other ↦ later (rw other at h)
    ]

-- own units are units
module _ (titles : List (List ℕ)) (controls : List (ℕ × Control)) where
  apart_below : (found : Option ℕ) → Below (length titles) found
      → Below (length titles) (unless_apart (is_apart titles controls) found)
  apart_below None h = tt
  apart_below (Some unit) h =
      elim (cases_Bool (is_apart titles controls unit)) [ inl apart ↦ rw apart tt | inr not_apart ↦ rw not_apart h ]

  overlaid_below : (j : JoinedSegment) → Below (length titles) (overlaid_by titles controls j)
  overlaid_below j = elim (cases_Bool j.overlay) [
    | inl overlaid ↦ rw overlaid (apart_below (own_unit titles j)
        (then_below _ (named titles) (own_name j) (λ name. position_below _ titles)))
    | inr plain ↦ rw plain tt
  ]

  own_units_below : (segments : List JoinedSegment) (s u : ℕ)
      → slice_get (own_units titles controls segments) s ≡ Some (Some u) → u < length titles
  own_units_below [] s u h = absurd (cc h)
  own_units_below (j ∷ more) zero u h =
      let is : overlaid_by titles controls j ≡ Some u = cc h in
      subst (λ found. Below (length titles) found) is (overlaid_below j)
  own_units_below (j ∷ more) (suc s) u h = own_units_below more s u h

-- the parts of a graph
pub parts_fit : (segments : List JoinedSegment) (controls : List (ℕ × Control)) (made : Edges)
    → length (unit_titles segments) ≤ 1000
    → LeadWithin (length (unit_titles segments)) made
    → AreOfUnits (parts_of segments controls (edges_of (unit_titles segments) controls made))
parts_fit segments controls made few within =
    let titles = unit_titles segments in
    let same : length titles ≡ length (units_of segments) = titles_are segments in
    record {
      few_units = omega (arith, few, same);
      edges = rw (← same) (edges_within titles controls made within);
      roots = λ x u h.
          let fit = roots_fit 0 (code_segments segments) (x, u) (in_contains _ (x, u) h) in
          (fit.0, omega (arith, fit.1, count_units 0 segments));
      own = λ u s h. omega (arith, own_units_below titles controls segments s u h, same);
      arguments = length-map segments (λ (j : JoinedSegment). j.argument)
          ∙ sym (length-map segments (overlaid_by titles controls));
    }
