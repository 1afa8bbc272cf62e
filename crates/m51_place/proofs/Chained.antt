-- The heaviest walks, raised along the edges and followed from each root.
use Rattle.m51_place.proofs
use Rattle.m51_place.specs
use proofs.Common.{IsHeaviestFrom, IsNextAmong, LayoutParts, [], append_assoc, cases_order, none_in_empty, weight_along}
use proofs.Common.{AreReached, ComesFirst, IsHeaviest, append-nil, cases_Bool, false≢true, inl, sum_by-cons, sum_by-set}
use proofs.Common.{ChainsAt, HasNoRoot, IsNext, IsRising, IsRootAt, cases_lt, drop_rest, ltb-false, ltb-true, weight_of}
use proofs.Common.{Chain, Edges, HasEdge, IsFront, IsSound, IsWalk, Option, arith, false, get_or, leads, length, nat_lt}
use proofs.Common.{Bool, List, None, Some, drop, inr, map, refl, set, subst, sum, sym, take, tally, true, ℕ, ◌++◌, ◌||◌}
use proofs.Common.{ap, ◌+◌, ◌<◌, ◌∙◌, ◌∷◌, ◌≡◌, ◌≢◌, ◌≤◌, ◌⊎◌}
use Rattle.m51_cells.proofs.ListsAndOptions.{sum_most}
use Rattle.m51_module.proofs.Units.{same_or_not}
use Rattle.std.proofs.lemmas.List.{drop_all, get_or-set_other, get_or-set_same, length-set, take_more}
use Rattle.std.proofs.lemmas.List.Elements.{Contains-append_left, Contains-get_or, Contains-push, Contains-push_cases}
use specs.Heaviest.{AreBest, AreWeights, FollowsHeaviest, HasRoom, HasWalk, LeadsOn, Lifts, Steps, lesser}
use proofs.Weights.{walk_bound}

-- How many units reach a unit: more along each edge.

-- how many units reach a unit
abbrev pub rank : Edges → ℕ → ℕ → ℕ
rank edges n v = tally (λ w. leads edges w v) n

-- The bytes of the heaviest walk from each unit, raised along the edges.

-- the bytes of a unit and of the walk after it
pub along_more : (l : LayoutParts) (u : ℕ) (more : List ℕ) → weight_along l (u ∷ more)
    ≡ weight_of l u + weight_along l more
along_more l u more = sum_by-cons (λ (n : ℕ). n) (weight_of l u) (map (weight_of l) more)

pub along_one : (l : LayoutParts) (u : ℕ) → weight_along l (u ∷ []) ≡ weight_of l u
along_one l u = let none : weight_along l [] ≡ 0 = refl in omega (arith, along_more l u [], none)

pub walk_from : (l : LayoutParts) (u v bytes : ℕ) → HasEdge l.edges u v → HasWalk l v bytes
    → HasWalk l u (weight_of l u + bytes)
walk_from l u v bytes e h = record {
  more = v ∷ h.more;
  walk = (e, h.walk);
  bytes_are = omega (arith, along_more l u (v ∷ h.more), h.bytes_are);
}

pub walk_most : (l : LayoutParts) → IsSound l → (u bytes : ℕ) → HasWalk l u bytes → bytes ≤ 256
walk_most l sound u bytes h = omega (arith, h.bytes_are, walk_bound l sound u h.more h.walk)

pub rising_none : (l : LayoutParts) (best : List ℕ) → AreReached l best → IsRising l [] best best false
rising_none l best h =
    record {
      reached = h;
      top = λ _. record { top = λ u v e. absurd (none_in_empty (u, v) e) };
      not_less =
          omega arith;
      more = λ h. absurd (false≢true h);
    }

-- the next edge: a number rises, or it is high enough
module _ (l : LayoutParts) (i : ℕ) (d : ℕ × ℕ) (old now : List ℕ) (rose : Bool) (sound : IsSound l)
    (below : i < length l.edges) (c : IsRising l (take i l.edges) old now rose) where
  abbrev u : ℕ
  u = (get_or l.edges i d).0

  abbrev v : ℕ
  v = (get_or l.edges i d).1

  pub rising_more : (new : List ℕ) (lifted : Bool) → Lifts l u v now new lifted
      → IsRising l (take (i + 1) l.edges) old new (lifted || rose)
  rising_more new true h =
      let bytes : ℕ = weight_of l u + get_or now v 0 in
      let edge : HasEdge l.edges u v = Contains-get_or l.edges i d below in
      let inside = sound.edges u v edge in
      let in_u : u < length now = omega (arith, inside.0, c.reached.len) in
      let longer : sum (set now u bytes) + get_or now u 0 ≡ sum now + bytes =
      sum_by-set (λ (x : ℕ). x) now u bytes 0 in_u in
      let same : length (set now u bytes) ≡ length now = length-set now u bytes in
      rw h.1 (record {
        reached = record {
          len = same ∙ c.reached.len;
          each = λ w in_w. elim (same_or_not w u) [
            | inl here ↦ rw (here, get_or-set_same now u bytes 0 in_u)
                (walk_from l u v _ edge (c.reached.each v (omega (arith, inside.1, c.reached.len))))
            | inr other ↦ rw (get_or-set_other now u w bytes 0 other) (c.reached.each w (omega (arith, in_w, same)))
          ];
        };
        top = λ e. absurd (false≢true (sym e));
        not_less = omega (arith, longer, c.not_less, h.0);
        more = λ _. omega (arith, longer, c.not_less, h.0);
      })
  rising_more new false h = rw (h.1, take_more l.edges i d below) (record {
    reached = c.reached;
    top = λ e. record {
      top = λ x y edge. elim (Contains-push_cases (take i l.edges) (u, v) (x, y) edge) [
        | inl before ↦ (c.top e).top x y before
        | inr here ↦
            let from : u ≡ x = ap (λ (p : ℕ × ℕ). p.0) here in
            let to : v ≡ y = ap (λ (p : ℕ × ℕ). p.1) here in
            rw (from, to) at h.0
      ];
    };
    not_less = c.not_less;
    more = c.more;
  })

pub best_most : (l : LayoutParts) (best : List ℕ) → IsSound l → AreReached l best → sum best ≤ 256000
best_most l best sound h =
    let most = sum_most 256 best (λ u below. walk_most l sound u (get_or best u 0) (h.each u below)) in
    omega (arith, most, h.len, sound.few_units)

pub room : {l : LayoutParts} {weights best : List ℕ} (from to : ℕ) → IsSound l → AreWeights l weights
    → AreReached l best → HasEdge l.edges from to → HasRoom l weights best from to
room {l} {weights} {best} from to sound w h e =
    let inside = sound.edges from to e in
    let in_weights : from < length weights = omega (arith, inside.0, w.len) in
    let to_in : to < length best = omega (arith, inside.1, h.len) in
    record {
      in_weights = in_weights;
      from_in = omega (arith, inside.0, h.len);
      to_in = to_in;
      weight = w.each from in_weights;
      most = walk_most l sound from _ (walk_from l from to _ e (h.each to to_in));
    }

-- The unit that follows in the heaviest walk, with one more edge.

module _ (l : LayoutParts) (done : Edges) (e : ℕ × ℕ) (weights best : List ℕ) (u : ℕ)
    (weight : get_or weights u 0 ≡ weight_of l u) where
  pushed : (w : ℕ) → HasEdge (done ++ e ∷ []) u w → HasEdge done u w ⊎ ((e.0 ≡ u) × (e.1 ≡ w))
  pushed w edge = elim (Contains-push_cases done e (u, w) edge) [
    | inl before ↦ inl before
    | inr here ↦ inr (ap (λ (p : ℕ × ℕ). p.0) here, ap (λ (p : ℕ × ℕ). p.1) here)
  ]

  leads_by : (w : ℕ) → (e.0 ≡ u) × (e.1 ≡ w) → weight_of l u + get_or best w 0 ≡ get_or best u 0
      → LeadsOn weights best u e
  leads_by w here same = record {
    from = here.0;
    rest = omega (arith, weight, same, ap (λ (v : ℕ). get_or best v 0) here.1);
  }

  abbrev NoneBelow : Edges → ℕ → Type 0
  NoneBelow edges v = (w : ℕ) → w < v → HasEdge edges u w → weight_of l u + get_or best w 0 ≢ get_or best u 0

  leads_less : LeadsOn weights best u e → NoneBelow done e.1 → IsNext l (done ++ e ∷ []) best u e.1
  leads_less on none = record {
    edge = rw (← on.from) (Contains-push done e);
    rest = omega (arith, weight, on.rest);
    least = λ w less edge same. elim (pushed w edge)
        [ inl before ↦ none w less before same | inr here ↦ absurd (omega (arith, less, here.1)) ];
  }

  keeps : (o : ℕ) → (LeadsOn weights best u e → e.1 < o → ⊥) → IsNext l done best u o
      → IsNext l (done ++ e ∷ []) best u o
  keeps o none h = record {
    edge = Contains-append_left done (e ∷ []) (u, o) h.edge;
    rest = h.rest;
    least = λ w less edge same. elim (pushed w edge) [
      | inl before ↦ h.least w less before same
      | inr here ↦ none (leads_by w here same) (omega (arith, less, here.1))
    ];
  }

  pub next_leads : (found : Option ℕ) → LeadsOn weights best u e → IsNextAmong l done best u found
      → IsNextAmong l (done ++ e ∷ []) best u (Some (lesser found e.1))
  next_leads None on h = leads_less on (λ w less. h w)
  next_leads (Some o) on h = elim (cases_Bool (nat_lt o e.1)) [
    | inl less ↦ rw less (keeps o (λ _ below. omega (arith, below, ltb-true o e.1 less)) h)
    | inr more ↦ rw more (leads_less on (λ w less. h.least w (omega (arith, less, ltb-false o e.1 more))))
  ]

  pub next_stays : (found : Option ℕ) → (LeadsOn weights best u e → ⊥) → IsNextAmong l done best u found
      → IsNextAmong l (done ++ e ∷ []) best u found
  next_stays (Some o) fails h = keeps o (λ on _. fails on) h
  next_stays None fails h = λ w edge same. elim (pushed w edge) [
    | inl before ↦ h w before same
    | inr here ↦ fails (leads_by w here same)
  ]

-- the first units of a walk, with one more
pub front_more : (l : LayoutParts) (best : List ℕ) (root unit v : ℕ) (units : List ℕ) → IsSound l
    → IsFront l best root unit units → (get_or best unit 0 ≢ weight_of l unit) × IsNext l l.edges best unit v
    → IsFront l best root v (units ++ v ∷ [])
front_more l best root unit v units sound h next =
    let is : IsNext l l.edges best unit v = next.1 in
    record {
      front = h.front ++ v ∷ [];
      are = ap (λ (us : List ℕ). us ++ v ∷ []) h.are;
      goes = λ more on. rw append_assoc (h.goes (v ∷ more) (next.0, is, on));
      below = (sound.edges unit v is.edge).1;
    }

-- The walk that is extended as long as that adds bytes is the heaviest, and the first of those.

module _ (l : LayoutParts) (sound : IsSound l) (weights best : List ℕ) (w : AreWeights l weights)
    (b : AreBest l best) where
  in_best : (u : ℕ) → u < length l.units → u < length best
  in_best u below = omega (arith, below, b.reached.len)

  pub on_room : (u v : ℕ) → u < length l.units → v < length l.units → get_or weights u 0 + get_or best v 0 ≤ 65535
  on_room u v below below' =
      let one : weight_of l u ≤ 256 = omega (arith, walk_bound l sound u [] tt, along_one l u) in
      omega (
        arith,
        one,
        w.each u (omega (arith, below, w.len)),
        walk_most l sound v (get_or best v 0)
            (b.reached.each v (in_best v below')),
      )

  -- no walk from a unit has more bytes than its number
  weight_most : (u : ℕ) → u < length l.units → weight_of l u ≤ get_or best u 0
  weight_most u below =
      let h = b.reached.each u (in_best u below) in
      omega (arith, h.bytes_are, along_more l u h.more)

  pub walk_top : (u : ℕ) (other : List ℕ) → u < length l.units → IsWalk l.edges u other
      → weight_along l (u ∷ other) ≤ get_or best u 0
  walk_top u [] below walk = omega (arith, along_one l u, weight_most u below)
  walk_top u (v ∷ other) below walk =
      omega (
        arith,
        along_more l u (v ∷ other),
        b.top.top u v walk.0,
        walk_top v other
            (sound.edges u v walk.0).1 walk.1,
      )

  -- where a unit has more bytes than its own, an edge leads on
  leads_somewhere : (u : ℕ) (more : List ℕ) → u < length l.units → IsWalk l.edges u more → get_or best u 0
      ≡ weight_along l (u ∷ more) → get_or best u 0 ≢ weight_of l u
      → (v : ℕ) × HasEdge l.edges u v × (weight_of l u + get_or best v 0 ≡ get_or best u 0)
  leads_somewhere u [] below walk is ne = absurd (ne (is ∙ along_one l u))
  leads_somewhere u (v ∷ more) below walk is ne = (
    v,
    walk.0,
    omega
        (arith, is, along_more l u (v ∷ more), walk_top v more (sound.edges u v walk.0).1 walk.1, b.top.top u v walk.0),
  )

  same_weight : (u : ℕ) → u < length l.units → get_or weights u 0 ≡ weight_of l u
  same_weight u below = w.each u (omega (arith, below, w.len))

  pub step_is : (u : ℕ) (found : Option ℕ) → u < length l.units → get_or best u 0 ≢ get_or weights u 0
      → IsNextAmong l l.edges best u found → Steps l best u found
  step_is u None below ne h =
      let at = b.reached.each u (in_best u below) in
      let on = leads_somewhere u at.more below at.walk at.bytes_are (λ e. ne (e ∙ sym (same_weight u below))) in
      absurd (h on.0 on.1 on.2)
  step_is u (Some v) below ne h = (λ e. ne (e ∙ sym (same_weight u below)), h)

  -- the walk, its bytes and that no other comes before it
  pub record IsTop (u : ℕ) (more : List ℕ) : Type 0 where
    pub walk : IsWalk l.edges u more
    pub bytes : get_or best u 0 ≡ weight_along l (u ∷ more)
    pub first : (other : List ℕ) → IsWalk l.edges u other → weight_along l (u ∷ other) ≡ get_or best u 0
        → ComesFirst more other

  first_sort_key : (u v : ℕ) (more other : List ℕ) → u < length l.units → get_or best u 0 ≢ weight_of l u
      → IsNext l l.edges best u v → IsTop v more → IsWalk l.edges u other → weight_along l (u ∷ other) ≡ get_or best u 0
      → ComesFirst (v ∷ more) other
  first_sort_key u v more [] below ne next top walk same = absurd (ne (sym same ∙ along_one l u))
  first_sort_key u v more (x ∷ other) below ne next top walk same =
      let in_x = (sound.edges u x walk.0).1 in
      let most = walk_top x other in_x walk.1 in
      let rest : weight_of l u + get_or best x 0 ≡ get_or best u 0 =
      omega (arith, same, along_more l u (x ∷ other), most, b.top.top u x walk.0) in
      elim (cases_order v x) [
        | inl e ↦
            let walk' = subst (λ y. IsWalk l.edges y other) (sym e) walk.1 in
            let bytes : weight_along l (v ∷ other) ≡ get_or best v 0 =
            omega (arith, same, along_more l u (x ∷ other), ap (λ (y : ℕ). weight_along l (y ∷ other)) e, next.rest) in
            inr (e, top.first other walk' bytes)
        | inr apart ↦ elim apart [ inl less ↦ inl less | inr less ↦ absurd (next.least x less walk.0 rest) ]
      ]

  pub top_is : (u : ℕ) (more : List ℕ) → u < length l.units → FollowsHeaviest l best u more → IsTop u more
  top_is u [] below h = record { walk = tt; bytes = h ∙ sym (along_one l u); first = λ other walk same. tt }
  top_is u (v ∷ more) below h =
      let next : IsNext l l.edges best u v = h.1 in
      let rest = top_is v more (sound.edges u v next.edge).1 h.2 in
      record {
        walk = (next.edge, rest.walk);
        bytes = omega (arith, along_more l u (v ∷ more), next.rest, rest.bytes);
        first = λ other walk same. first_sort_key u v more other below h.0 next rest walk same;
      }

  -- the chain of a root
  pub heaviest_is : (root bytes : ℕ) (units : List ℕ) → root < length l.units → IsHeaviestFrom l best root units → bytes
      ≡ get_or best root 0
      → IsHeaviest l (record { root = root; bytes = bytes; units = units })
  heaviest_is root bytes units below h is =
      let top = top_is root h.more below h.goes in
      record {
        more = h.more;
        units = h.are;
        walk = top.walk;
        bytes = is ∙ top.bytes;
        most = λ other walk. elim (cases_lt (weight_along l (root ∷ other)) bytes) [
          | inl less ↦ inl less
          | inr from ↦
              let same : weight_along l (root ∷ other) ≡ get_or best root 0 =
              omega (arith, from, is, walk_top root other below walk) in
              inr (same ∙ sym is, top.first other walk same)
        ];
      }

-- chains by the addresses of their roots
no_root : (l : LayoutParts) (address : ℕ) (more : List ℕ) (chains : List Chain) → HasNoRoot l address
    → ChainsAt l more chains → ChainsAt l (address ∷ more) chains
no_root l address more [] none h = (none, h)
no_root l address more (chain ∷ chains) none h = inl (none, h)

-- chains of the first addresses, with which those of the others are all
pub record AreFirst (l : LayoutParts) (addresses : List ℕ) (i : ℕ) (chains : List Chain) : Type 0 where
  pub all : (rest : List Chain) → ChainsAt l (drop i addresses) rest → ChainsAt l addresses (chains ++ rest)

pub first_without : (l : LayoutParts) (addresses : List ℕ) (i d : ℕ) (chains : List Chain) → i < length addresses
    → HasNoRoot l (get_or addresses i d) → AreFirst l addresses i chains → AreFirst l addresses (i + 1) chains
first_without l addresses i d chains below none h = record {
  all = λ rest on. h.all rest (rw (drop_rest addresses i d below)
      (no_root l (get_or addresses i d) (drop (i + 1) addresses) rest none on));
}

pub first_with : (l : LayoutParts) (addresses : List ℕ) (i d : ℕ) (chains : List Chain) (chain : Chain)
    → i < length addresses → IsRootAt l (get_or addresses i d) chain.root → IsHeaviest l chain
    → AreFirst l addresses i chains → AreFirst l addresses (i + 1) (chains ++ chain ∷ [])
first_with l addresses i d chains chain below root heavy h = record {
  all = λ rest on. rw append_assoc
      (h.all (chain ∷ rest) (rw (drop_rest addresses i d below) (inr (root, heavy, on))));
}

pub first_all : (l : LayoutParts) (addresses : List ℕ) (i : ℕ) (chains : List Chain) → length addresses ≤ i
    → AreFirst l addresses i chains → ChainsAt l addresses chains
first_all l addresses i chains past h = rw append-nil at (h.all [] (rw (drop_all i addresses past) tt))

-- an edge that a loop reads
pub edge_at : (edges items : Edges) (i : ℕ) → items ≡ edges → i < length items
    → HasEdge edges (get_or items i (0, 0)).0 (get_or items i (0, 0)).1
edge_at edges items i same below =
    subst (λ (es : Edges). HasEdge es (get_or items i (0, 0)).0 (get_or items i (0, 0)).1) same
    (Contains-get_or items i (0, 0) below)
