-- Roots above units, related units and segments in conflict, decided.
use Rattle.m51_graph.proofs.Common.{◌≡◌, ◌⊎◌, inl, inr, ℕ, ◌<◌, Bool, true, not, ◌&&◌, ◌||◌, List, [], ◌∷◌, length}
use Rattle.m51_graph.proofs.Common.{get_or, refl, sym, ap, subst, ◌∙◌, arith, Some, nat_eq, and_parts, cases_Bool}
use Rattle.m51_graph.proofs.Common.{cases_eq, Decides-at, Decides-eqb, Decides, Contains, list_any, range_with_len}
use Rattle.m51_graph.proofs.Common.{slice_get, edge_test, AreOfUnits, lies_under, GraphParts, Tables, vectors, HasEdge}
use Rattle.m51_graph.proofs.Common.{IsWalk, Reaches, last_of, pairs, ◌+◌, ◌*◌, false, cond, ◌++◌, take, add-one}
use Rattle.m51_graph.proofs.Common.{take_more, AddsBits, zero, suc, ◌≤◌, flipped}
use Rattle.std.proofs.Common.{◌≢◌, ◌^◌, length-take-le}
use Rattle.std.proofs.lemmas.Bool.{or_cases, or_left, or_right}
use Rattle.std.proofs.lemmas.List.FromFn.{get_or-map-range_with_len}
use Rattle.std.proofs.lemmas.Bool.Decides.{Decides-not, same_from_decides}
use Rattle.m51_cells.proofs.Members.{contains_in, In, in_contains, range_in}
use Rattle.m51_module.specs.Conflict.{AreRelated, Same, Before, After, FirstUnderNone, SecondUnderNone, UnderTwo}
use Rattle.m51_module.specs.Conflict.{FirstPlain, SecondPlain, Owners}
use Rattle.m51_module.proofs.Conflicts.{related_back}
use Rattle.m51_module.proofs.Reach.{under_on}
use Rattle.m51_relations.specs.declared.owner_pairs.Owned.{Owned}
use Rattle.m51_graph.specs.Graph.{AreBits, IsGraph, Owns, SegmentsConflict, UnitLiesUnder, joined_graph}
use Rattle.m51_graph.specs.Kept.{IsKeptGraph, AreTables}
use Rattle.m51_graph.specs.Leading.{leads}
use Rattle.m51_relations.specs.OwnerPairs.{are_apart, owner_pair, related_by}
use Rattle.m51_graph.specs.Relating.{IsOwned, are_related, bits_of, owner_related, owners_related, root_byte}
use Rattle.m51_graph.proofs.Closed.{edge_tells}
use Rattle.m51_graph.proofs.Deciding.{and_decides, any_decides, leads_tells, or_decides, with_ends}
use Rattle.std.proofs.Math.Nat.{pow-suc}
use Rattle.std.proofs.lemmas.List.Folds.{list_any-append}
use Rattle.std.proofs.Math.Bool.{or-false}
use Rattle.m51_cells.proofs.Small.{range_suc}
use Rattle.m51_relations.specs.Rows.{passed_below}

-- Numbers whose bits are the results of tests.
bits_push : (test : ℕ → Bool) (xs : List ℕ) (y weight : ℕ) → weight ≡ 2 ^ length xs → bits_of test (xs ++ y ∷ [])
    ≡ bits_of test xs + cond (test y) weight 0
bits_push test [] y weight is = grind (arith, is)
bits_push test (x ∷ xs) y weight is =
    grind (arith, is, pow-suc 2 (length xs), bits_push test xs y (2 ^ length xs) refl)

-- one more bit
module _ (test : ℕ → Bool) (xs : List ℕ) (count bits weight d : ℕ) (below : count < length xs)
    (h : AddsBits test xs count bits weight) where
  one_more : bits_of test (take (count + 1) xs)
      ≡ bits_of test (take count xs) + cond (test (get_or xs count d)) weight 0
  one_more =
      rw (take_more xs count d below)
      (bits_push test (take count xs) (get_or xs count d) weight
      (h.weight_is ∙ ap (λ n. 2 ^ n) (sym (length-take-le count xs (omega arith)))))

  pub adds_set : test (get_or xs count d) ≡ true → AddsBits test xs (count + 1) (bits + weight) (weight * 2)
  adds_set passes = record {
    weight_is = omega (arith, h.weight_is, pow-suc 2 count, ap (λ n. 2 ^ n) (add-one count));
    bits_are = omega (arith, h.bits_are, one_more, ap (λ b. cond b weight 0) passes);
    room = omega (arith, h.room);
  }

  pub adds_clear : test (get_or xs count d) ≡ false → AddsBits test xs (count + 1) bits (weight * 2)
  adds_clear fails = record {
    weight_is = omega (arith, h.weight_is, pow-suc 2 count, ap (λ n. 2 ^ n) (add-one count));
    bits_are = omega (arith, h.bits_are, one_more, ap (λ b. cond b weight 0) fails);
    room = omega (arith, h.room);
  }

abbrev bit_if : Bool → ℕ
bit_if b = cond b 1 0

-- two numbers with the same bits
bit_same : (a b : Bool) (m n : ℕ) → bit_if a + 2 * m ≡ bit_if b + 2 * n → (a ≡ b) × (m ≡ n)
bit_same a b m n h = grind arith

pub bits_same : (p q : ℕ → Bool) (xs : List ℕ) → bits_of p xs ≡ bits_of q xs → (x : ℕ) → In x xs → p x ≡ q x
bits_same p q [] h x i = absurd i
bits_same p q (y ∷ ys) h x (inl e) = rw (← e) (bit_same (p y) (q y) (bits_of p ys) (bits_of q ys) h).0
bits_same p q (y ∷ ys) h x (inr i) = bits_same p q ys (bit_same (p y) (q y) (bits_of p ys) (bits_of q ys) h).1 x i

-- tests that agree on the list
pub bits_agree : (p q : ℕ → Bool) (xs : List ℕ) → ((x : ℕ) → In x xs → p x ≡ q x) → bits_of p xs ≡ bits_of q xs
bits_agree p q [] h = refl
bits_agree p q (y ∷ ys) h = rw (h y (inl refl), bits_agree p q ys (λ x i. h x (inr i)))

-- no bit
pub bits_zero : (p : ℕ → Bool) (xs : List ℕ) → bits_of p xs ≡ 0 → (x : ℕ) → In x xs → p x ≡ false
bits_zero p [] h x i = absurd i
bits_zero p (y ∷ ys) h x (inl e) = rw (← e) (bit_same (p y) false (bits_of p ys) 0 h).0
bits_zero p (y ∷ ys) h x (inr i) = bits_zero p ys (bit_same (p y) false (bits_of p ys) 0 h).1 x i

-- some bit, or none
pub bits_some : (p : ℕ → Bool) (xs : List ℕ) → (bits_of p xs ≡ 0) ⊎ ((x : ℕ) × (p x ≡ true))
bits_some p [] = inl refl
bits_some p (y ∷ ys) = elim (cases_Bool (p y)) [
  | inl first ↦ inr (y, first)
  | inr fails ↦ elim (bits_some p ys) [ inl none ↦ inl (rw (fails, none)) | inr later ↦ inr later ]
]

-- roots above units
module _ (g : GraphParts) where
  abbrev above : ℕ → ℕ → Bool
  above unit vector = lies_under (leads g.edges) g.roots vector unit

  -- the decision is true exactly if the unit lies under a root at the vector
  pub above_tells : (vector unit : ℕ)
      → Decides (lies_under (leads g.edges) g.roots vector unit) (UnitLiesUnder g vector unit)
  above_tells vector unit =
      let told =
      any_decides (λ (root : ℕ × ℕ). nat_eq root.0 vector && (nat_eq root.1 unit || leads g.edges root.1 unit))
      (λ (root : ℕ × ℕ). (root.0 ≡ vector) × ((root.1 ≡ unit) ⊎ Reaches g.edges root.1 unit))
      (λ root. and_decides _ _ (Decides-eqb root.0 vector)
      (or_decides _ _ (Decides-eqb root.1 unit) (leads_tells g.edges root.1 unit))) g.roots in (
        λ h. let some = told.0 h in
            record {
              root = some.0.1;
              is_root = with_ends g.roots some.0 vector some.0.1 (sym some.2.0) refl some.1;
              leads = some.2.1;
            },
        λ h. told.1 ((vector, h.root), h.is_root, (refl, h.leads)),
      )

  -- bits of tests
  pub bits_tell : (unit : ℕ) (xs : List ℕ)
      → AreBits g unit xs (bits_of (λ vector. lies_under (leads g.edges) g.roots vector unit) xs)
  bits_tell unit [] = refl
  bits_tell unit (x ∷ xs) = elim (cases_Bool (above unit x)) [
    | inl lies ↦ rw lies (
      (λ h. (above_tells x unit).0 lies, λ h. omega arith),
      subst (λ n. AreBits g unit xs n) (omega arith) (bits_tell unit xs),
    )
    | inr free ↦ rw free (
      (λ h. absurd (omega (arith, h)), λ h. absurd (cc (free, (above_tells x unit).1 h))),
      subst (λ n. AreBits g unit xs n) (omega arith) (bits_tell unit xs),
    )
  ]

-- units that each lie under at most one root
module _ (g : GraphParts) (units : AreOfUnits g) where
  abbrev pub HasOne : ℕ → Type 0
  HasOne unit = (x y : ℕ) → UnitLiesUnder g x unit → UnitLiesUnder g y unit → x ≡ y

  abbrev pub UnderNone : ℕ → Type 0
  UnderNone unit = (vector : ℕ) → UnitLiesUnder g vector unit → ⊥

  abbrev pub Related : ℕ → ℕ → Type 0
  Related one two = AreRelated (joined_graph g) one two

  abbrev byte : ℕ → ℕ
  byte unit = root_byte (leads g.edges) g.roots unit

  at_vector : (vector unit : ℕ) → UnitLiesUnder g vector unit → In vector vectors
  at_vector vector unit h = in_contains vectors vector (units.roots vector h.root h.is_root).0

  none_under : (unit : ℕ) → byte unit ≡ 0 → UnderNone unit
  none_under unit h vector lies =
      absurd (cc
      (bits_zero (above g unit) vectors h vector (at_vector vector unit lies), (above_tells g vector unit).1 lies))

  zero_byte : (unit : ℕ) → UnderNone unit → byte unit ≡ 0
  zero_byte unit none = elim (bits_some (above g unit) vectors) [
    | inl bare ↦ bare
    | inr some ↦ absurd (none some.0 ((above_tells g some.0 unit).0 some.1))
  ]

  -- under the same root they have the same bytes
  only_at : (unit x : ℕ) → HasOne unit → UnitLiesUnder g x unit → (v : ℕ) → Decides (above g unit v) (v ≡ x)
  only_at unit x only lies v = (
    λ h. only v x ((above_tells g v unit).0 h) lies,
    λ e. (above_tells g v unit).1 (rw e lies),
  )

  abbrev Splits : ℕ → ℕ → Type 0
  Splits one two = (byte two ≡ 0) ⊎ (byte one ≢ byte two)

  splits_tell : (one two : ℕ) → Decides (are_apart (byte one) (byte two)) (Splits one two)
  splits_tell one two =
      or_decides _ _ (Decides-eqb (byte two) 0) (Decides-not _ (Decides-eqb (byte one) (byte two)))

  from_splits : (one two : ℕ) → HasOne one → HasOne two → Splits one two → Related one two
  from_splits one two only only' (inl bare) = SecondUnderNone (none_under two bare)
  from_splits one two only only' (inr ne) = elim (bits_some (above g one) vectors) [
    | inl bare ↦ FirstUnderNone (none_under one bare)
    | inr some ↦ elim (bits_some (above g two) vectors) [
      | inl bare ↦ SecondUnderNone (none_under two bare)
      | inr some' ↦
          let lies : UnitLiesUnder g some.0 one = (above_tells g some.0 one).0 some.1 in
          let lies' : UnitLiesUnder g some'.0 two = (above_tells g some'.0 two).0 some'.1 in
          elim (cases_eq some.0 some'.0) [
            | inl same ↦
                let there : UnitLiesUnder g some.0 two = rw same lies' in
                absurd (ne (bits_agree (above g one) (above g two) vectors
                (λ v is. same_from_decides (above g one v) (above g two v) (only_at one some.0 only lies v)
                (only_at two some.0 only' there v))))
            | inr other ↦ UnderTwo some.0 some'.0 other lies lies'
          ]
    ]
  ]

  -- where the first is under no root, the second is under none too or has another byte
  first_none : (one two : ℕ) → byte one ≡ 0 → Splits one two
  first_none one two bare = elim (cases_eq (byte two) 0) [
    | inl same ↦ inl same
    | inr other ↦ inr (λ e. other (sym e ∙ bare))
  ]

  under_two : (one two x y : ℕ) → HasOne two → x ≢ y → UnitLiesUnder g x one → UnitLiesUnder g y two
      → byte one ≢ byte two
  under_two one two x y only ne lies lies' same =
      let here : above g two x ≡ true =
      sym (bits_same (above g one) (above g two) vectors same x (at_vector x one lies))
      ∙ (above_tells g x one).1 lies in
      ne (only x y ((above_tells g x two).0 here) lies')

  abbrev related : ℕ → ℕ → Bool
  related one two = nat_eq one two || leads g.edges one two || leads g.edges two one || are_apart (byte one) (byte two)

  both_tell : (one two : ℕ) → Decides (related one two)
      ((((one ≡ two) ⊎ Reaches g.edges one two) ⊎ Reaches g.edges two one) ⊎ Splits one two)
  both_tell one two =
      or_decides _ _ (or_decides _ _ (or_decides _ _ (Decides-eqb one two) (leads_tells g.edges one two))
      (leads_tells g.edges two one)) (splits_tell one two)

  -- the decision is right for units that each lie under at most one root
  pub related_tells : (one two : ℕ) → HasOne one → HasOne two → Decides (related one two) (Related one two)
  related_tells one two only only' = (
    λ h. elim ((both_tell one two).0 h) [
      | inl sides ↦ elim sides [
        | inl near ↦ elim near [ inl same ↦ Same same | inr before ↦ Before before ]
        | inr after ↦ After after
      ]
      | inr apart ↦ from_splits one two only only' apart
    ],
    λ h. (both_tell one two).1 (elim h [
      | Same e ↦ inl (inl (inl e))
      | Before r ↦ inl (inl (inr r))
      | After r ↦ inl (inr r)
      | FirstUnderNone none ↦ inr (first_none one two (zero_byte one none))
      | SecondUnderNone none ↦ inr (inl (zero_byte two none))
      | UnderTwo x y ne p q ↦ inr (inr (under_two one two x y only' ne p q))
    ]),
  )

walk_within : (g : GraphParts) → AreOfUnits g → (u v : ℕ) (more : List ℕ) → IsWalk g.edges u (v ∷ more)
    → last_of v more < length g.units
walk_within g units u v [] walk = (units.edges.within u v walk.0).1
walk_within g units u v (w ∷ more) walk = walk_within g units v w more walk.1

-- an owner lies under the roots above it, which are above the own unit too
pub owner_under : (g : GraphParts) (segment unit vector : ℕ) → (owns : Owns g unit segment)
    → UnitLiesUnder g vector unit → UnitLiesUnder g vector owns.own
owner_under g segment unit vector owns h = elim owns.owner [
  | inl same ↦ rw (← same) h
  | inr calls ↦ under_on (joined_graph g) vector unit owns.own h calls.1
]

-- what a unit reaches is a unit
pub reach_within : (g : GraphParts) → IsGraph g → (u v : ℕ) → Reaches g.edges u v → v < length g.units
reach_within g is u v r = rw r.ends at (walk_within g is.units u r.next r.more r.walk)

-- the decision over the tables of a graph
module _ (g : GraphParts) (t : Tables) (kept : IsKeptGraph g t) where
  abbrev units : AreOfUnits g
  units = kept.graph.units

  pub under_is : (unit : ℕ) → unit < length g.units → get_or t.under.items unit 0
      ≡ root_byte (leads g.edges) g.roots unit
  under_is unit below =
      rw kept.tables.under
      (get_or-map-range_with_len (root_byte (leads g.edges) g.roots) 0 (length g.units) unit unit 0 below (omega arith))

  abbrev Near : ℕ → ℕ → Type 0
  Near one two = AreRelated (joined_graph g) one two

  owner_below : (s u : ℕ) → Owns g u s → u < length g.units
  owner_below s u owns = elim owns.owner [
    | inl same ↦ rw same (units.own owns.own s owns.own_is)
    | inr calls ↦ (units.edges.within u owns.own calls.1).0
  ]

  near_tells : (s u v w : ℕ) → Owns g u s → Owns g v w → Decides (are_related t u v) (Near u v)
  near_tells s u v w owns owns' =
      Decides-at (are_related t u v) (related g units u v)
      (ap (λ (p : ℕ → ℕ → Bool). nat_eq u v || p u v || p v u || are_apart (get_or t.under.items u 0)
      (get_or t.under.items v 0)) kept.tables.reach
      ∙ rw (under_is u (owner_below s u owns), under_is v (owner_below w v owns')))
      (related_tells g units u v (λ x y. kept.graph.one_root s u x y owns)
      (λ x y. kept.graph.one_root w v x y owns'))

  -- an owner of the segment that passes the test of owners
  record SomeOwner (segment : ℕ) (Holds : ℕ → Type 0) : Type 0 where
    unit : ℕ
    owns : Owns g unit segment
    holds : Holds unit

  -- for any test of owners that is decided: of the own unit, or of a caller of an argument segment
  abbrev calls : Owned → (ℕ → Bool) → ℕ → Bool
  calls s p caller = pairs t.edges caller s.own && p caller

  abbrev some_passes : Owned → (ℕ → Bool) → Bool
  some_passes s p = p s.own || (s.argument && list_any (calls s p) (range_with_len 0 t.edges.count))

  module _ (segment : ℕ) (s : Owned) (is : IsOwned g segment s) (p : ℕ → Bool) (Holds : ℕ → Type 0)
      (tells : (u : ℕ) → Owns g u segment → Decides (p u) (Holds u)) where
    calls_tell : Decides (list_any (calls s p) (range_with_len 0 t.edges.count))
        ((u : ℕ) × Contains (range_with_len 0 t.edges.count) u × (HasEdge g.edges u s.own × (p u ≡ true)))
    calls_tell = any_decides (calls s p) (λ u. HasEdge g.edges u s.own × (p u ≡ true))
        (λ u. and_decides (pairs t.edges u s.own) (p u)
        (Decides-at (pairs t.edges u s.own) (edge_test g.edges u s.own)
        (ap (λ (q : ℕ → ℕ → Bool). q u s.own) kept.tables.edges) (edge_tells g.edges u s.own))
        (λ h. h, λ h. h)) (range_with_len 0 t.edges.count)

    found : some_passes s p ≡ true → SomeOwner segment Holds
    found h = elim (or_cases (p s.own) _ h) [
      | inl here ↦
          let owns : Owns g s.own segment = record { own = s.own; own_is = is.own; owner = inl refl } in
          record { unit = s.own; owns = owns; holds = (tells s.own owns).0 here }
      | inr rest ↦
          let both = and_parts s.argument _ rest in
          let some = calls_tell.0 both.1 in
          let argument : slice_get g.arguments segment ≡ Some true = is.argument ∙ ap (λ b. Some b) both.0 in
          let owns : Owns g some.0 segment =
          record { own = s.own; own_is = is.own; owner = inr (argument, some.2.0) } in
          record { unit = some.0; owns = owns; holds = (tells some.0 owns).0 some.2.1 }
    ]

    passed : SomeOwner segment Holds → some_passes s p ≡ true
    passed some =
        let u : ℕ = some.unit in
        let holds : p u ≡ true = (tells u some.owns).1 some.holds in
        let own : some.owns.own ≡ s.own = cc (some.owns.own_is, is.own) in
        elim some.owns.owner [
          | inl same ↦ or_left (p s.own) _ (subst (λ w. p w ≡ true) (same ∙ own) holds)
          | inr by ↦
              let e : HasEdge g.edges u s.own = subst (λ w. HasEdge g.edges u w) own by.1 in
              let marked : s.argument ≡ true = cc (by.0, is.argument) in
              let below = (units.edges.within u s.own e).0 in
              let listed = contains_in _ u
              (range_in t.edges.count 0 u (omega arith) (omega (arith, below, kept.tables.edge_count))) in
              rw (marked, calls_tell.1 (u, listed, (e, holds))) (or_right (p s.own) true refl)
        ]

    some_tells : Decides (some_passes s p) (SomeOwner segment Holds)
    some_tells = (found, passed)

  pub conflict_tells : (one two : ℕ) (s w : Owned) → IsOwned g one s → IsOwned g two w
      → Decides (owners_related t s w) (SegmentsConflict g one two)
  conflict_tells one two s w is is' =
      let told =
      some_tells one s is (λ u. owner_related t w u) (λ u. SomeOwner two (λ v. Near v u))
      (λ u owns. some_tells two w is' (λ v. are_related t v u) (λ v. Near v u)
      (λ v owns'. near_tells two v u one owns' owns)) in (
        λ h.
            let some = told.0 h in
            Owners some.unit some.holds.unit some.owns some.holds.owns
            (related_back (joined_graph g) some.holds.unit some.unit some.holds.holds),
        λ h. elim h [
          | FirstPlain plain ↦ absurd (plain (s.own, is.own))
          | SecondPlain plain ↦ absurd (plain (w.own, is'.own))
          | Owners u v owns owns' near ↦ told.1
              (record {
                unit = u;
                owns = owns;
                holds = record { unit = v; owns = owns'; holds = related_back (joined_graph g) u v near };
              })
        ],
      )

-- Pairs joined by a pair of one set and then one of another, and which owners they say are related.
any_more : (p : ℕ → Bool) (n : ℕ) → list_any p (range_with_len 0 (suc n))
    ≡ (list_any p (range_with_len 0 n) || (p n || false))
any_more p n =
    let same : 0 + n ≡ n = omega arith in
    ap (list_any p) (range_suc 0 n) ∙ rw (list_any-append, same) refl

-- what is joined below the bound, where each unit on the way passes the test
pub passed_is : (tests others has : ℕ → ℕ → Bool) (first : Bool) (p : ℕ → Bool) (u v count : ℕ) → has u v ≡ first
    → ((k : ℕ) → k < count → (tests u k && others k v) ≡ p k)
    → (n : ℕ) → n ≤ count → passed_below tests others has n u v ≡ (first || list_any p (range_with_len 0 n))
unfolding passed_below
passed_is tests others has first p u v count is each zero below = is ∙ sym (or-false first)
passed_is tests others has first p u v count is each (suc n) below =
    let before = passed_is tests others has first p u v count is each n (omega (arith, below)) in
    grind (arith, before, each n (omega (arith, below)), any_more p n)

-- the pairs of the tables of a graph
module _ (g : GraphParts) (t : Tables) (are : AreTables g t) where
  abbrev count : ℕ
  count = length g.units

  abbrev Owner : ℕ → Bool → Owned
  Owner own argument = record { own = own; argument = argument }

  edge_is : (u v : ℕ) → edge_test g.edges u v ≡ pairs t.edges u v
  edge_is u v = ap (λ (p : ℕ → ℕ → Bool). p u v) (sym are.edges)

  plain_is : (u v : ℕ) → u < count → v < count → pairs t.owners.plain u v ≡ are_related t v u
  plain_is u v below below' =
      are.owners.plain.each u v below below' ∙ ap (λ (p : ℕ → ℕ → Bool). related_by p t.under.items v u) (sym are.reach)

  none_added : (own u : ℕ) → are_related t own u ≡ owner_related t (Owner own false) u
  none_added own u = sym (or-false (are_related t own u))

  second_is : (u v : ℕ) → u < count → v < count → pairs t.owners.second u v ≡ owner_related t (Owner v true) u
  second_is u v below below' =
      rw are.edge_count (are.owners.second u v below
      ∙ passed_is _ _ _ (are_related t v u) (λ k. pairs t.edges k v && are_related t k u) u v count
      (plain_is u v below below') (λ k inside. grind (arith, plain_is u k below inside, edge_is k v))
      count (omega arith))

  -- an owner of the first segment, which is an argument segment, and then what is known of the second
  any_owner : (has : ℕ → ℕ → Bool) (u v : ℕ) (argument : Bool) → u < count
      → ((k : ℕ) → k < count → has k v ≡ owner_related t (Owner v argument) k)
      → passed_below (flipped (edge_test g.edges)) has has count u v
      ≡ owners_related t (Owner u true) (Owner v argument)
  any_owner has u v argument below is =
      let p : ℕ → Bool = λ k. pairs t.edges k u && owner_related t (Owner v argument) k in
      passed_is (flipped (edge_test g.edges)) has has (owner_related t (Owner v argument) u) p u v count (is u below)
      (λ k inside. grind (arith, edge_is k u, is k inside)) count (omega arith)
      ∙ ap (λ n. owner_related t (Owner v argument) u || list_any p (range_with_len 0 n)) (sym are.edge_count)

  pair_is : (u v : ℕ) (a b : Bool) → u < count → v < count → owner_pair t.owners a b u v
      ≡ owners_related t (Owner u a) (Owner v b)
  pair_is u v false false below below' = plain_is u v below below' ∙ none_added v u
      ∙ sym (or-false (owner_related t (Owner v false) u))
  pair_is u v false true below below' = second_is u v below below' ∙ sym (or-false (owner_related t (Owner v true) u))
  pair_is u v true false below below' =
      are.owners.first u v below
      ∙ any_owner (pairs t.owners.plain) u v false below (λ k inside. plain_is k v inside below' ∙ none_added v k)
  pair_is u v true true below below' =
      are.owners.both u v below
      ∙ any_owner (pairs t.owners.second) u v true below (λ k inside. second_is k v inside below')

  -- the set of pairs gives whether owners of the two are related
  pub owners_are : (one two : Owned) → one.own < count → two.own < count
      → owner_pair t.owners one.argument two.argument one.own two.own ≡ owners_related t one two
  owners_are one two below below' = pair_is one.own two.own one.argument two.argument below below'
