-- Where an edge is.
use Rattle.m51_graph.proofs.Common.{◌≡◌, ◌⊎◌, inl, inr, ℕ, ◌<◌, Bool, true, not, List, [], ◌∷◌, length, refl, sym, ap}
use Rattle.m51_graph.proofs.Common.{◌∙◌, arith, Option, Some, None, filter, nat_eq, and_parts, cases_Bool, cases_eq}
use Rattle.m51_graph.proofs.Common.{ne_eqb, Any-from_list_any, list_any_at, Contains, cons_option, filter_map}
use Rattle.m51_graph.proofs.Common.{range_with_len, option_map_or, flat_map, slice_get, Control, added_by, cuts}
use Rattle.m51_graph.proofs.Common.{edge_named, fixup_edge, fixup_edges, has_edge, is_cut, is_edge, module_edges}
use Rattle.m51_graph.proofs.Common.{with_edge, with_edges, unit_titles, Edges, Fixup, ModuleParts, segments_of}
use Rattle.std.proofs.Common.{◌≢◌}
use Rattle.std.proofs.lemmas.Bool.{eq-eqb, eqb-true}
use Rattle.std.proofs.lemmas.Option.{same_Some, slice_get_within}
use Rattle.m51_cells.proofs.Members.{contains_in, flat_in, In, in_cases, in_contains, in_filter, in_flat, in_left}
use Rattle.m51_cells.proofs.Members.{in_right, range_in}
use Rattle.m51_control.specs.declared.control.Control.TheVariants.{Add, Cut}
use Rattle.m51_graph.specs.Drawing.{edge_between}
use Rattle.m51_graph.specs.Laws.{EdgesAre, IsAdded, IsEdgeCut, RefersTo}
use Rattle.m51_graph.proofs.Closed.{edge_tells}

-- an edge of the longer list is one of those before, or the one that was added
drawn_in : (edges : Edges) (one e : ℕ × ℕ) → In e (with_edge edges one) → In e edges ⊎ (one ≡ e)
drawn_in edges one e h = elim (cases_Bool (has_edge edges one)) [
  | inl there ↦ inl (rw there at h)
  | inr new ↦ elim (in_cases edges (one ∷ []) e (rw new at h)) [
    | inl before ↦ inl before
    | inr last ↦ elim last [ inl is ↦ inr is | inr none ↦ absurd none ]
  ]
]

in_drawn : (edges : Edges) (one e : ℕ × ℕ) → In e edges ⊎ (one ≡ e) → In e (with_edge edges one)
in_drawn edges one e h = elim (cases_Bool (has_edge edges one)) [
  | inl there ↦ rw there (elim h [
    | inl before ↦ before
    | inr is ↦ rw is at (in_contains edges one ((edge_tells edges one.0 one.1).0 there))
  ])
  | inr new ↦ rw new (elim h [
    | inl before ↦ in_left edges (one ∷ []) e before
    | inr is ↦ in_right edges (one ∷ []) e (inl is)
  ])
]

all_drawn_in : (edges more : Edges) (e : ℕ × ℕ) → In e (with_edges edges more) → In e edges ⊎ In e more
all_drawn_in edges [] e h = inl h
all_drawn_in edges (one ∷ more) e h = elim (all_drawn_in (with_edge edges one) more e h) [
  | inl before ↦ elim (drawn_in edges one e before) [ inl old ↦ inl old | inr is ↦ inr (inl is) ]
  | inr later ↦ inr (inr later)
]

in_all_drawn : (edges more : Edges) (e : ℕ × ℕ) → In e edges ⊎ In e more → In e (with_edges edges more)
in_all_drawn edges [] e (inl h) = h
in_all_drawn edges [] e (inr h) = absurd h
in_all_drawn edges (one ∷ more) e (inl h) =
    in_all_drawn (with_edge edges one) more e (inl (in_drawn edges one e (inl h)))
in_all_drawn edges (one ∷ more) e (inr (inl is)) =
    in_all_drawn (with_edge edges one) more e (inl (in_drawn edges one e (inr is)))
in_all_drawn edges (one ∷ more) e (inr (inr h)) = in_all_drawn (with_edge edges one) more e (inr h)

-- an item of which something is made
made_in : {X Y : Type 0} (f : X → Option Y) (xs : List X) (y : Y) → In y (filter_map f xs)
    → (x : X) × In x xs × (f x ≡ Some y)
made_in f [] y h = absurd h
made_in f (x ∷ xs) y h = by (f x) refl h (made_in f xs y)
  where
    by : (o : Option _) → f x ≡ o → In y (cons_option o (filter_map f xs))
        → (In y (filter_map f xs) → (z : _) × In z xs × (f z ≡ Some y)) → (z : _) × In z (x ∷ xs) × (f z ≡ Some y)
    by None is h more = let m = more h in (m.0, inr m.1, m.2)
    by (Some z) is (inl e) more = (x, inl refl, is ∙ ap Some e)
    by (Some z) is (inr h) more = let m = more h in (m.0, inr m.1, m.2)

in_made : {X Y : Type 0} (f : X → Option Y) (xs : List X) (y : Y) (x : X) → In x xs → f x ≡ Some y
    → In y (filter_map f xs)
in_made f [] y x h is = absurd h
in_made f (z ∷ xs) y x (inl e) is = rw (e, is) (inl refl)
in_made f (z ∷ xs) y x (inr h) is = kept (f z) (filter_map f xs) (in_made f xs y x h is)
  where
    kept : (o : Option _) (ys : List _) → In y ys → In y (cons_option o ys)
    kept None ys h = h
    kept (Some w) ys h = inr h

in_kept : {X : Type 0} (p : X → Bool) (xs : List X) (x : X) → In x xs → p x ≡ true → In x (filter p xs)
in_kept p [] x h passes = absurd h
in_kept p (y ∷ xs) x (inl e) passes = rw (e, passes) (inl refl)
in_kept p (y ∷ xs) x (inr h) passes = elim (cases_Bool (p y)) [
  | inl is ↦ rw is (inr (in_kept p xs x h passes))
  | inr none ↦ rw none (in_kept p xs x h passes)
]

-- both ends of an edge
record Ends (a b : Option ℕ) (u v : ℕ) : Type 0 where
  from : a ≡ Some u
  to : b ≡ Some v
  differ : u ≢ v

between_ends : (a b : Option ℕ) (u v : ℕ) → edge_between a b ≡ Some (u, v) → Ends a b u v
between_ends None b u v h = absurd (cc h)
between_ends (Some x) None u v h = absurd (cc h)
between_ends (Some x) (Some y) u v h = elim (cases_eq x y) [
  | inl same ↦ absurd (cc (rw (eq-eqb x y same) at h))
  | inr other ↦
      let pair : (x, y) ≡ (u, v) = same_Some (x, y) (u, v) (rw (ne_eqb x y other) at h) in
      let from : x ≡ u = ap (λ (p : ℕ × ℕ). p.0) pair in
      let to : y ≡ v = ap (λ (p : ℕ × ℕ). p.1) pair in
      record { from = ap Some from; to = ap Some to; differ = λ e. other (from ∙ e ∙ sym to) }
]

ends_between : (a b : Option ℕ) (u v : ℕ) → a ≡ Some u → b ≡ Some v → u ≢ v → edge_between a b ≡ Some (u, v)
ends_between a b u v from to ne = rw (from, to, ne_eqb u v ne)

-- the edges that fixups make
module _ (modules : List ModuleParts) (u v : ℕ) where
  abbrev numbers : List ℕ
  numbers = range_with_len 0 (length modules)

  refers_at : (number : ℕ) (found : Option ModuleParts) → slice_get modules number ≡ found
      → In (u, v)
      (option_map_or (λ (parts : ModuleParts). filter_map (fixup_edge modules number) parts.fixups) found [])
      → RefersTo modules u v × (u ≢ v)
  refers_at number None is h = absurd h
  refers_at number (Some parts) is h =
      let made = made_in (fixup_edge modules number) parts.fixups (u, v) h in
      let fixup : Fixup = made.0 in
      let ends = between_ends _ _ u v made.2 in (
        record {
          number = number;
          parts = parts;
          is = is;
          fixup = fixup;
          there = contains_in parts.fixups fixup made.1;
          from = ends.from;
          to = ends.to;
        },
        ends.differ,
      )

  made_from : In (u, v) (fixup_edges modules) → RefersTo modules u v × (u ≢ v)
  made_from h = elim (all_drawn_in [] (flat_map (module_edges modules) numbers) (u, v) h) [
    | inl none ↦ absurd none
    | inr made ↦ let part = in_flat (module_edges modules) numbers (u, v) made in
        refers_at part.0 (slice_get modules part.0) refl part.2
  ]

  refers_made : RefersTo modules u v → u ≢ v → In (u, v) (fixup_edges modules)
  refers_made r ne =
      let below : r.number < length modules = slice_get_within modules r.number r.parts r.is in
      let made =
      in_made (fixup_edge modules r.number) r.parts.fixups (u, v) r.fixup (in_contains r.parts.fixups r.fixup r.there)
      (ends_between _ _ u v r.from r.to ne) in
      let part : In (u, v) (module_edges modules r.number) = rw r.is made in
      in_all_drawn [] (flat_map (module_edges modules) numbers) (u, v)
      (inr (flat_in (module_edges modules) numbers r.number (u, v)
      (range_in (length modules) 0 r.number (omega arith) (omega (arith, below))) part))

-- the edges that lines add and cut
module _ (titles : List (List ℕ)) (u v : ℕ) (controls : List (ℕ × Control)) where
  adds : (line : ℕ × Control) → Contains controls line → (control : Control) → line.1 ≡ control
      → In (u, v) (added_by titles control) → IsAdded titles controls u v × (u ≢ v)
  adds line there (Add from names) is h =
      let made = made_in (edge_named titles from) names (u, v) h in
      let ends = between_ends _ _ u v made.2 in (
        record {
          line = line;
          there = there;
          first = from;
          others = names;
          is = is;
          from = ends.from;
          other = made.0;
          listed = contains_in names made.0 made.1;
          to = ends.to;
        },
        ends.differ,
      )
  adds line there control is h = absurd h

  added_from : In (u, v) (flat_map (λ line. added_by titles line.1) controls) → IsAdded titles controls u v × (u ≢ v)
  added_from h =
      let part = in_flat (λ (line : ℕ × Control). added_by titles line.1) controls (u, v) h in
      adds part.0 (contains_in controls part.0 part.1) (part.0).1 refl part.2

  added : IsAdded titles controls u v → u ≢ v → In (u, v) (flat_map (λ line. added_by titles line.1) controls)
  added a ne =
      let made =
      in_made (edge_named titles a.first) a.others (u, v) a.other (in_contains a.others a.other a.listed)
      (ends_between _ _ u v a.from a.to ne) in
      let line : In (u, v) (added_by titles a.line.1) = rw a.is made in
      flat_in (λ (line : ℕ × Control). added_by titles line.1) controls a.line (u, v)
      (in_contains controls a.line a.there) line

  -- the test of cuts
  is_that : (found : Option (ℕ × ℕ)) → is_edge (u, v) found ≡ true → found ≡ Some (u, v)
  is_that None h = absurd (cc h)
  is_that (Some e) h =
      let both = and_parts (nat_eq u e.0) (nat_eq v e.1) h in rw (eqb-true u e.0 both.0, eqb-true v e.1 both.1)

  that_is : (found : Option (ℕ × ℕ)) → found ≡ Some (u, v) → is_edge (u, v) found ≡ true
  that_is found h = rw (h, eq-eqb u u refl, eq-eqb v v refl)

  cuts_by : (line : ℕ × Control) → Contains controls line → (control : Control) → line.1 ≡ control
      → cuts titles (u, v) control ≡ true → IsEdgeCut titles controls u v
  cuts_by line there (Cut from names) is h =
      let any = Any-from_list_any (λ name. is_edge (u, v) (edge_named titles from name)) names h in
      let name : List ℕ = any.1 in
      let ends = between_ends _ _ u v (is_that _ any.4) in
      record {
        line = line;
        there = there;
        first = from;
        others = names;
        is = is;
        from = ends.from;
        other = name;
        listed = (any.0, any.2, any.3);
        to = ends.to;
      }
  cuts_by line there control is h = absurd (cc h)

  cut_from : is_cut titles controls (u, v) ≡ true → IsEdgeCut titles controls u v
  cut_from h =
      let any = Any-from_list_any (λ (line : ℕ × Control). cuts titles (u, v) line.1) controls h in
      let line : ℕ × Control = any.1 in
      cuts_by line (any.0, any.2, any.3) line.1 refl any.4

  cut : IsEdgeCut titles controls u v → u ≢ v → is_cut titles controls (u, v) ≡ true
  cut k ne =
      let passes : is_edge (u, v) (edge_named titles k.first k.other) ≡ true =
      that_is _ (ends_between _ _ u v k.from k.to ne) in
      let inner : cuts titles (u, v) (Cut k.first k.others) ≡ true =
      list_any_at (λ name. is_edge (u, v) (edge_named titles k.first name)) k.others k.listed.0 k.other k.listed.1
      (rw k.listed.2 passes) in
      list_any_at (λ (line : ℕ × Control). cuts titles (u, v) line.1) controls k.there.0 k.line k.there.1
      (rw (k.there.2, k.is) inner)

-- the law
pub edges_are : EdgesAre
edges_are = λ modules controls u v.
    let titles = unit_titles (segments_of modules) in
    let made : Edges = fixup_edges modules in
    let more : Edges = flat_map (λ (line : ℕ × Control). added_by titles line.1) controls in
    let keeps : ℕ × ℕ → Bool = λ edge. not (is_cut titles controls edge) in (
      λ h.
          let parts = in_filter keeps (with_edges made more) (u, v) (in_contains _ (u, v) h) in
          let origin : (RefersTo modules u v ⊎ IsAdded titles controls u v) × (u ≢ v) =
          elim (all_drawn_in made more (u, v) parts.0) [
            | inl fixed ↦ let r = made_from modules u v fixed in (inl r.0, r.1)
            | inr line ↦ let a = added_from titles u v controls line in (inr a.0, a.1)
          ] in
          record {
            made = origin.0;
            differ = origin.1;
            uncut = λ k. absurd (cc (cut titles u v controls k origin.1, parts.1));
          },
      λ k. contains_in _ (u, v)
          (in_kept keeps (with_edges made more) (u, v)
          (in_all_drawn made more (u, v) (elim k.made [
            | inl r ↦ inl (refers_made modules u v r k.differ)
            | inr a ↦ inr (added titles u v controls a k.differ)
          ]))
          (elim (cases_Bool (is_cut titles controls (u, v))) [
            | inl gone ↦ absurd (k.uncut (cut_from titles u v controls gone))
            | inr stays ↦ ap not stays
          ])),
    )
