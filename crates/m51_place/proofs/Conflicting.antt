-- Owners of joined segments and their conflict, decided.
use Rattle.m51_place.proofs
use proofs.Common.{FirstUnderNone, SecondUnderNone, SegmentsConflict, contains_behind, first_or_behind, range_with_len}
use proofs.Common.{SecondPlain, UnitLiesUnder, [], above_tells, conflicting, joined_graph, none_in_empty, option_map_or}
use proofs.Common.{AreRelated, Bool, FirstPlain, GraphParts, IsArgument, edge_tells, extents_in, false≢true, in_the_way}
use proofs.Common.{Contains, Decides, HasEdge, Numbered, UnderTwo, edge_test, filter_in, list_any, none-some, slice_get}
use proofs.Common.{After, Before, IsOwn, Option, Owners, Reaches, Space, arith, false, length, nat_eq, own_at, vectors}
use proofs.Common.{List, None, Owns, Same, Some, cond, inl, inr, not, refl, sym, true, ℕ, ◌∷◌, ◌≡◌, ◌≢◌, ◌⊎◌}
use Rattle.m51_cells.proofs.Members.{contains_in, in_contains, in_filter, range_in}
use Rattle.m51_graph.proofs.Deciding.{and_decides, any_decides, leads_tells, or_decides}
use Rattle.m51_graph.specs.Graph.{AreOfUnits, IsOverlaid}
use Rattle.std.proofs.lemmas.Bool.Decides.{Decides-eqb, Decides-like, Decides-not}
use Rattle.m51_place.specs.Conflicts.{are_on_walk, are_owners_related, are_under_two, is_argument_at, is_under_none}
use Rattle.m51_place.specs.Conflicts.{are_apart, are_related, callers_of, in_conflict, is_under, owners_at, owners_with}

-- a value that is read and is not the default is an element
read_found : {A : Type 0} (o : Option A) (none x : A) → (none ≡ x → ⊥) → option_map_or (λ y. y) o none ≡ x
    → o ≡ Some x
read_found o none x differ h = grind arith

module _ (g : GraphParts) where
  pub own_is : (number unit : ℕ) → own_at g number ≡ Some unit → IsOwn g unit number
  own_is number unit h = read_found (slice_get g.own number) None (Some unit) (none-some unit) h

  pub own_read : (number unit : ℕ) → IsOwn g unit number → own_at g number ≡ Some unit
  own_read number unit h = rw h

  -- the callers of a unit
  abbrev calls : ℕ → ℕ → Bool
  calls unit caller = edge_test g.edges caller unit

  pub caller_edge : (unit caller : ℕ) → Contains (callers_of g unit) caller → HasEdge g.edges caller unit
  unfolding callers_of
  caller_edge unit caller h =
      (edge_tells g.edges caller unit).0
      (in_filter (calls unit) (range_with_len 0 (length g.units)) caller (in_contains _ caller h)).1

  caller_there : AreOfUnits g → (unit caller : ℕ) → HasEdge g.edges caller unit → Contains (callers_of g unit) caller
  unfolding callers_of
  caller_there units unit caller e =
      let inside = range_in (length g.units) 0 caller (omega arith)
      (omega (arith, (units.edges.within caller unit e).0))
      in
      contains_in _ caller (filter_in (calls unit) _ caller inside ((edge_tells g.edges caller unit).1 e))

  -- the owners are those that own
  listed_owns : (s u : ℕ) (own : Option ℕ) → own_at g s ≡ own → Contains (owners_with g (is_argument_at g s) own) u
      → Owns g u s
  listed_owns s u None is h = absurd (none_in_empty u h)
  listed_owns s u (Some own) is h = record {
    own = own;
    own_is = own_is s own is;
    owner = elim (first_or_behind own _ u h)
        [ inl same ↦ inl (sym same) | inr behind ↦ inr (called (is_argument_at g s) refl behind) ];
  } where
    called : (b : Bool) → is_argument_at g s ≡ b → Contains (cond b (callers_of g own) []) u
        → IsArgument g s × HasEdge g.edges u own
    called true is behind = (read_found (slice_get g.arguments s) false true false≢true is, caller_edge own u behind)
    called false is behind = absurd (none_in_empty u behind)

  pub owner_owns : (s u : ℕ) → Contains (owners_at g s) u → Owns g u s
  owner_owns s u h = listed_owns s u (own_at g s) refl h

  owner_listed : AreOfUnits g → (s u : ℕ) → Owns g u s → Contains (owners_at g s) u
  owner_listed units s u owns = rw (own_read s owns.own owns.own_is) (elim owns.owner [
    | inl same ↦ (0, omega arith, sym same)
    | inr calls ↦
        let argument : is_argument_at g s ≡ true = rw (calls.0) refl in
        contains_behind owns.own (cond (is_argument_at g s) (callers_of g owns.own) []) u
        (rw argument (caller_there units owns.own u calls.1))
  ])

  -- units under no root, and units under different ones
  abbrev UnderNone : ℕ → Type 0
  UnderNone unit = (vector : ℕ) → UnitLiesUnder g vector unit → ⊥

  module _ (units : AreOfUnits g) where
    at_vector : (vector unit : ℕ) → UnitLiesUnder g vector unit → Contains vectors vector
    at_vector vector unit h = (units.roots vector h.root h.is_root).0

    none_tells : (unit : ℕ) → Decides (is_under_none g unit) (UnderNone unit)
    unfolding is_under_none
    none_tells unit =
        Decides-like _ (λ h vector lies. h (vector, at_vector vector unit lies, lies)) (λ h some. h some.0 some.2)
        (Decides-not _ (any_decides (λ vector. is_under g vector unit) (λ vector. UnitLiesUnder g vector unit)
        (λ vector. above_tells g vector unit) vectors))

    differ_tells : (x y : ℕ) → Decides (not (nat_eq x y)) (x ≢ y)
    differ_tells x y = Decides-not (nat_eq x y) (Decides-eqb x y)

    -- units under different roots
    abbrev Two : ℕ → ℕ → ℕ → ℕ → Type 0
    Two one two x y = (x ≢ y) × (UnitLiesUnder g x one × UnitLiesUnder g y two)

    abbrev IsUnderTwo : ℕ → ℕ → Type 0
    IsUnderTwo one two = (x : ℕ) × Contains vectors x × ((y : ℕ) × Contains vectors y × Two one two x y)

    two_tells : (one two : ℕ) → Decides (are_under_two g one two) (IsUnderTwo one two)
    unfolding are_under_two
    two_tells one two = any_decides _ _ (λ x. any_decides _ (Two one two x)
        (λ y. and_decides _ _ (differ_tells x y) (and_decides _ _ (above_tells g x one) (above_tells g y two)))
        vectors) vectors

    abbrev OnWalk : ℕ → ℕ → Type 0
    OnWalk one two = (one ≡ two) ⊎ (Reaches g.edges one two ⊎ Reaches g.edges two one)

    abbrev Apart : ℕ → ℕ → Type 0
    Apart one two = UnderNone one ⊎ (UnderNone two ⊎ IsUnderTwo one two)

    walk_tells : (one two : ℕ) → Decides (are_on_walk g one two) (OnWalk one two)
    walk_tells one two = search (or_decides, Decides-eqb, leads_tells)

    apart_tells : (one two : ℕ) → Decides (are_apart g one two) (Apart one two)
    apart_tells one two = search (or_decides, none_tells, two_tells)

    sides : (one two : ℕ) → OnWalk one two ⊎ Apart one two → AreRelated (joined_graph g) one two
    sides one two (inl (inl same)) = Same same
    sides one two (inl (inr (inl before))) = Before before
    sides one two (inl (inr (inr after))) = After after
    sides one two (inr (inl none)) = FirstUnderNone none
    sides one two (inr (inr (inl none))) = SecondUnderNone none
    sides one two (inr (inr (inr (x, _, (y, _, (differ, (h, k))))))) = UnderTwo x y differ h k

    from_sides : (one two : ℕ) → AreRelated (joined_graph g) one two → OnWalk one two ⊎ Apart one two
    from_sides one two (Same same) = inl (inl same)
    from_sides one two (Before before) = inl (inr (inl before))
    from_sides one two (After after) = inl (inr (inr after))
    from_sides one two (FirstUnderNone none) = inr (inl none)
    from_sides one two (SecondUnderNone none) = inr (inr (inl none))
    from_sides one two (UnderTwo x y differ h k) =
        inr (inr (inr (x, at_vector x one h, (y, at_vector y two k, (differ, (h, k))))))

    related_tells : (one two : ℕ) → Decides (are_related g one two) (AreRelated (joined_graph g) one two)
    unfolding are_related
    related_tells one two =
        Decides-like _ (sides one two) (from_sides one two)
        (or_decides _ _ (walk_tells one two) (apart_tells one two))

    -- an owner of the one list is related to one of the other
    abbrev Near : List ℕ → ℕ → Type 0
    Near twos a = (b : ℕ) × Contains twos b × AreRelated (joined_graph g) a b

    near_tells : (ones twos : List ℕ)
        → Decides (list_any (λ x. list_any (are_related g x) twos) ones) ((a : ℕ) × Contains ones a × Near twos a)
    near_tells ones twos = any_decides _ (Near twos) (λ a. any_decides _ _ (related_tells a) twos) ones

    no_owner : (s : ℕ) → owners_at g s ≡ [] → IsOverlaid g s → ⊥
    no_owner s h o = cc (rw (own_read s o.0 o.1) at h)

    is_overlaid : (s u : ℕ) (us : List ℕ) (own : Option ℕ) → own_at g s ≡ own → owners_with g (is_argument_at g s) own
        ≡ u ∷ us → IsOverlaid g s
    is_overlaid s u us None is h = absurd (cc h)
    is_overlaid s u us (Some own) is h = (own, own_is s own is)

    owners_tell : (s t : ℕ) (ones twos : List ℕ) → owners_at g s ≡ ones → owners_at g t ≡ twos
        → Decides (are_owners_related g ones twos) (SegmentsConflict g s t)
    owners_tell s t [] twos p q = (λ _. FirstPlain (no_owner s p), λ _. refl)
    owners_tell s t (one ∷ ones) [] p q = (λ _. SecondPlain (no_owner t q), λ _. refl)
    owners_tell s t (one ∷ ones) (two ∷ twos) p q = (
      λ h. let some = (near_tells (one ∷ ones) (two ∷ twos)).0 h in
          Owners some.0 some.2.0 (owner_owns s some.0 (rw p some.1)) (owner_owns t some.2.0 (rw q some.2.1)) some.2.2,
      λ h. elim h [
        | FirstPlain plain ↦ absurd (plain (is_overlaid s one ones (own_at g s) refl p))
        | SecondPlain plain ↦ absurd (plain (is_overlaid t two twos (own_at g t) refl q))
        | Owners u v o o' related ↦ (near_tells (one ∷ ones) (two ∷ twos)).1
            (u, rw p at (owner_listed units s u o), (v, rw q at (owner_listed units t v o'), related))
      ],
    )

    pub segments_tell : (s t : ℕ)
        → Decides (are_owners_related g (owners_at g s) (owners_at g t)) (SegmentsConflict g s t)
    segments_tell s t = owners_tell s t (owners_at g s) (owners_at g t) refl refl

    pub conflict_tells : (s t : ℕ) → s ≢ t → Decides (in_conflict g s t) (SegmentsConflict g s t)
    conflict_tells s t differ =
        Decides-like _ (λ h. h.1) (λ h. (differ, h))
        (and_decides (not (nat_eq s t)) (are_owners_related g (owners_at g s) (owners_at g t)) (differ_tells s t)
        (segments_tell s t))

-- the extents of a memory in conflict with a segment are those in conflict that lie in it
pub in_the_way_is : (g : GraphParts) (number : ℕ) (space : Space) (es : List Numbered) → in_the_way g number space es
    ≡ extents_in space (conflicting g number es)
in_the_way_is g number space [] = refl
in_the_way_is g number space (e ∷ more) = grind (arith, in_the_way_is g number space more)
