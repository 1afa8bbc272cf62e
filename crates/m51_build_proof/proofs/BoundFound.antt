-- Each sound layout with a root at 0000H, with its image, has an answer of the stack bound: its points, settled depths,
-- tables and lists, and where a rule is broken first.
use Rattle.m51_build_proof.proofs
use proofs.Common.{cases_Bool, cases_lt, false≢true, Contains-get_or, Contains, list_any, cells_in, MOST_POINTS, leads}
use proofs.Common.{LayoutParts, StackBound, StackError, IsRootAt, IsUnitAt, IsSound, Edges, HasEdge, IsWalk, Reaches}
use proofs.Common.{last_of}
use proofs.Weights.{Some_in, element, seek, some_in}
use Rattle.std.proofs.Common.{◌≡◌, ◌≢◌, ◌<◌, ◌≤◌, ◌+◌, ◌⊎◌, inl, inr, ℕ, zero, suc, nat_lt, Bool, true, false, List, []}
use Rattle.std.proofs.Common.{◌∷◌, length, get_or, set, take, take_all, replicate, sum, Option, Some, None, Result, Ok}
use Rattle.std.proofs.Common.{Err, refl, sym, subst, ◌∙◌, arith, flat_map}
use Rattle.std.proofs.lemmas.List.{get_or-set_other, get_or-set_same, length-set}
use Rattle.std.proofs.lemmas.List.Sums.{sum_by-set}
use Rattle.m51_cells.proofs.Members.{In, contains_in, every_in, flat_in, in_contains, in_flat}
use Rattle.m51_cells.proofs.Small.{contains_after, contains_first}
use Rattle.m51_graph.proofs.Deciding.{leads_tells}
use Rattle.m51_module.proofs.Reach.{reach_edge, reach_on}
use Rattle.m51_module.specs.Cells.{code_cell}
use Rattle.m51_module.specs.declared.stack_bound.Proc.{Proc}
use Rattle.m51_module.specs.declared.stack_bound.RootDepth.{RootDepth}
use Rattle.m51_module.specs.declared.stack_bound.StackError.TheVariants.{K1, K2, K3, K4, K5, K6, Limit}
use Rattle.m51_module.specs.declared.start.Start.{Start}
use Rattle.m51_module.specs.declared.start.Start.TheVariants.{At, Reset}
use Rattle.m51_sim.proofs.TakenTypes.{taken_by}
use Rattle.m51_stackbound.proofs.Adding.{greatest_more, greatest_none}
use Rattle.m51_stackbound.proofs.CallRows.{calls_all, calls_only}
use Rattle.m51_stackbound.proofs.Covering.{handler_root, handlers_rise, start_covered}
use Rattle.m51_stackbound.proofs.Deciding.{all_low, bound_is, covered_noted, depth_above, first_is, lists, none_is}
use Rattle.m51_stackbound.proofs.Deciding.{falls, total_above}
use Rattle.m51_stackbound.proofs.Leasts.{least_more, least_same}
use Rattle.m51_stackbound.proofs.Noting.{notes_key}
use Rattle.m51_stackbound.proofs.Procs.{listed_more, listed_none, listed_same, starts_more, starts_none}
use Rattle.m51_stackbound.proofs.Raised.{blank, raised_next, raised_none, rank_same, sum_few, taken_first}
use Rattle.m51_stackbound.proofs.Reaching.{IsSearching, finds_noted, noted_differ, search_done, search_first}
use Rattle.m51_stackbound.proofs.Reaching.{search_step, search_stops}
use Rattle.m51_stackbound.proofs.Ways.{nexts_more, nexts_none}
use Rattle.m51_stackbound.specs.Above.{AreLow, IsAbove}
use Rattle.m51_stackbound.specs.Bounds.{Answers, AreEach, AreFew, Breaks, HasFirstCyclic, HasTwoHeights, IsCyclic}
use Rattle.m51_stackbound.specs.Bounds.{Keeps, KeepsApart, KeepsHeights, KeepsRules}
use Rattle.m51_stackbound.specs.Callers.{calls_of}
use Rattle.m51_stackbound.specs.Climb.{AreSettled, AreTaken, TakesDepth, cap, depth_by, depth_in}
use Rattle.m51_stackbound.specs.declared.point.Point.{Point}
use Rattle.m51_stackbound.specs.Depths.{Calls, CallsThrough, Direct, Own, Through}
use Rattle.m51_stackbound.specs.Laws.{IsTied}
use Rattle.m51_stackbound.specs.Listing.{AreListed, AreStarts, is_noted, with_start}
use Rattle.m51_stackbound.specs.Nexts.{AreNexts, AreRootRows, Go, IsRowAt, Leads, Stop, called_next, next_called}
use Rattle.m51_stackbound.specs.Nexts.{next_in}
use Rattle.m51_stackbound.specs.Points.{IsPoint, first_points, instruction, point_at, successors}
use Rattle.m51_stackbound.specs.Rules.{IsLeast, breaks_by, lesser, no_later, rank, reached_address}
use Rattle.m51_stackbound.specs.Search.{ArePoints, Finds, Notes, NotesAll}
use Rattle.m51_stackbound.specs.Totals.{AreGreatest, IsSum, added, with_bytes}
use Rattle.m51_stackbound.specs.Units.{handlers}

true_or_not : (b : Bool) → (b ≡ true) ⊎ (b ≡ true → ⊥)
true_or_not b = grind arith

-- ---- the search

note : (old : List Point) (p : Point) → (new : List Point) × Notes old p new
note old p = (_, notes_key old p)

noted : (ps old : List Point) → (new : List Point) × NotesAll old ps new
noted [] old = (old, refl)
noted (p ∷ ps) old =
    let one = note old p in let rest = noted ps one.0 in (rest.0, (one.0, one.1, rest.1))

module _ (l : LayoutParts) (image : List ℕ) where
  -- each step looks at one more point, and there are at most MOST_POINTS steps
  search_on : (firsts : List Point) (fuel : ℕ) (points : List Point) (next : ℕ)
      → IsSearching l image firsts points next → MOST_POINTS < next + fuel
      → (found : Option (List Point)) × Finds l image firsts found
  search_on firsts zero points next s enough = absurd (omega (arith, s.next_few))
  search_on firsts (suc fuel) points next s enough = elim (cases_lt next (length points)) [
    | inr done ↦ (Some points, search_done l image firsts points next s done)
    | inl below ↦ elim (cases_lt MOST_POINTS (length points)) [
      | inl many ↦ (None, search_stops l image firsts points next s many)
      | inr few ↦
          let e : Point = point_at Reset 0 0 in
          let n = noted (successors l image (get_or points next e)) points in
          search_on firsts fuel n.0 (next + 1) (search_step l image firsts points n.0 next e s below few n.1)
          (omega arith)
    ]
  ]

  points_found : (most : ℕ) → MOST_POINTS < most
      → (found : Option (List Point)) × Finds l image (first_points l) found
  points_found most enough =
      let firsts = first_points l in
      let n = noted firsts [] in
      let s = search_on n.0 most n.0 0 (search_first l image n.0 (noted_differ l image firsts n.0 n.1)) (omega arith) in
      (s.0, finds_noted l image firsts n.0 n.1 s.0 s.1)

-- ---- the first place

-- a start and an address
abbrev Place : Type 0
Place = taken_by no_later

record HasLeast (Is : Place → Type 0) : Type 0 where
  least : Option Place
  is : IsLeast Is least

module _ (P : Point → Type 0) (tells : (p : Point) → P p ⊎ (P p → ⊥)) where
  -- one of these points meets the test, and has the place
  abbrev Meets : Place → Point → Type 0
  Meets at p = P p × (reached_address p ≡ at)

  abbrev Met : List Point → Place → Type 0
  Met ps at = Some_in (Meets at) ps

  least_met : (ps : List Point) → HasLeast (Met ps)
  least_met [] = record { least = None; is = λ at m. m }
  least_met (p ∷ ps) =
      let rest = least_met ps in
      elim (tells p) [
        | inl met ↦ record {
          least = Some (lesser rest.least (reached_address p));
          is = least_more (Met ps) (Met (p ∷ ps)) rest.least (reached_address p) rest.is
              (λ at m. elim m [ inl here ↦ inr here.1 | inr later ↦ inl later ]) (λ at m. inr m) (inl (met, refl));
        }
        | inr fails ↦ record {
          least = rest.least;
          is = least_same (Met ps) (Met (p ∷ ps)) rest.least rest.is
              (λ at m. elim m [ inl here ↦ absurd (fails here.0) | inr later ↦ later ]) (λ at m. inr m);
        }
      ]

module _ (l : LayoutParts) (image : List ℕ) (points : List Point) (are : ArePoints l image points) where
  -- some point of the list is so, if one of the image is
  some_point : (P : Point → Type 0) (p : Point) → IsPoint l image p → P p → Some_in P points
  some_point P p is h = some_in P points p (in_contains points p (are.all p is)) h

  point_of : (P : Point → Type 0) → Some_in P points → (p : Point) × IsPoint l image p × P p
  point_of P s = let e = element P points s in (e.0, are.only e.0 (contains_in points e.0 e.1), e.2)

  -- the first place where some point is so
  least_found : (P : Point → Type 0) → ((p : Point) → P p ⊎ (P p → ⊥)) → (Is : Place → Type 0)
      → ((at : Place) → Is at → (p : Point) × IsPoint l image p × P p × (reached_address p ≡ at))
      → ((p : Point) → IsPoint l image p → P p → Is (reached_address p)) → HasLeast Is
  least_found P tells Is of to =
      let m = least_met P tells points in
      record {
        least = m.least;
        is = least_same (Met P tells points) Is m.least m.is
            (λ at h. let o = of at h in some_point (Meets P tells at) o.0 o.1 (o.2, o.3))
            (λ at k. let e = point_of (Meets P tells at) k in subst Is e.2.1 (to e.0 e.1 e.2.0));
      }

  -- where a rule is broken first
  first_broken : (rule : _) → HasLeast (Breaks l image rule)
  first_broken rule =
      least_found (λ p. breaks_by rule p (instruction l image p.address) ≡ true)
      (λ p. true_or_not (breaks_by rule p (instruction l image p.address))) (Breaks l image rule)
      (λ at b. (b.point, b.is_point, b.breaks, b.place_is))
      (λ p is h. record { point = p; is_point = is; breaks = h; place_is = refl })

  -- the second point is at the place of the first, with another height
  abbrev IsOther : Point → Point → Type 0
  IsOther p q = (reached_address q ≡ reached_address p) × (p.height ≢ q.height)

  other_or_not : (p q : Point) → IsOther p q ⊎ (IsOther p q → ⊥)
  other_or_not p q = grind (arith, rank_same q.start p.start)

  abbrev HasOther : Point → Type 0
  HasOther p = Some_in (IsOther p) points

  has_other : (p : Point) → HasOther p ⊎ (HasOther p → ⊥)
  has_other p = elim (seek (IsOther p) (λ q. IsOther p q → ⊥) (other_or_not p) points) [
    | inl some ↦ inl some
    | inr none ↦ inr (λ s. let e = element (IsOther p) points s in
        every_in (λ q. IsOther p q → ⊥) points e.0 none e.1 e.2)
  ]

  -- where two points have two heights first
  first_doubled : HasLeast (HasTwoHeights l image)
  first_doubled =
      least_found HasOther has_other (HasTwoHeights l image)
      (λ at h. (
        h.one,
        h.one_is,
        some_point (IsOther h.one) h.two h.two_is (h.place_two ∙ sym h.place_one, h.heights),
        h.place_one,
      ))
      (λ p is k. let two = point_of (IsOther p) k in record {
        one = p;
        two = two.0;
        one_is = is;
        two_is = two.1;
        place_one = refl;
        place_two = two.2.0;
        heights = two.2.1;
      })

-- ---- depths that are settled

-- a call from a start to another
abbrev StartCall : Type 0
StartCall = taken_by (depth_by [])

-- a unit lies in program memory
below_end : (l : LayoutParts) → IsSound l → (a unit : ℕ) → IsUnitAt l a unit → a < 65536
below_end l sound a unit at =
    let inside = (sound.fit at.unit_is.segment at.is at.unit_is.placed).inside (code_cell a) at.covers in
    subst (λ s. a < cells_in s) (sym at.covers.space) inside

module _ (l : LayoutParts) (image : List ℕ) where
  -- a depth that is raised is taken too
  lifted : (old : List ℕ) (start : Start) (depth : ℕ) → rank start < length old → depth ≤ 256 → AreTaken l image old
      → TakesDepth l image start depth → AreTaken l image (set old (rank start) depth)
  lifted old start depth below few are taken =
      grind (arith, length-set, rank_same, get_or-set_same, get_or-set_other, rank)

  height_taken : (p : Point) → IsPoint l image p → TakesDepth l image p.start (cap p.height)
  height_taken p is = record {
    path = [];
    bytes = p.height;
    takes = Own p.start p.height (record { point = p; is_point = is; start_is = refl; height_is = refl });
    depth_is = refl;
  }

module _ (l : LayoutParts) (image : List ℕ) (sound : IsSound l) (points : List Point)
    (are : ArePoints l image points) where
  -- a start of a point has an index in the tables
  start_few : (p : Point) (start : Start) → IsPoint l image p → p.start ≡ start → rank start < 65537
  start_few p Reset is e = omega arith
  start_few p (At a) is e =
      let u = start_covered l sound image a
      (p.height, record { point = p; is_point = is; start_is = e; height_is = refl }) in
      omega (arith, below_end l sound a u.0 u.1)

  abbrev calls : List StartCall
  calls = calls_of l image points

  -- a depth that is too low is raised
  settle : (fuel : ℕ) (depths : List ℕ) → AreTaken l image depths → 16777472 < sum depths + fuel
      → (new : List ℕ) × AreSettled l image points new
  settle zero depths taken enough = absurd (omega (arith, sum_few l image depths taken))
  settle (suc fuel) depths taken enough =
      let Low : Point → Type 0 = λ p. depth_in depths p.start < cap p.height in
      let High : Point → Type 0 = λ p. cap p.height ≤ depth_in depths p.start in
      let LowCall : StartCall → Type 0 = λ c. depth_in depths c.from < depth_by depths c in
      let HighCall : StartCall → Type 0 = λ c. depth_by depths c ≤ depth_in depths c.from in
      elim (seek Low High (λ p. cases_lt (depth_in depths p.start) (cap p.height)) points) [
        | inl s ↦
            let e = point_of l image points are Low s in
            let p = e.0 in
            let below : rank p.start < length depths = omega (arith, start_few p p.start e.1 refl, taken.len) in
            let more : sum (set depths (rank p.start) (cap p.height)) + depth_in depths p.start
            ≡ sum depths + cap p.height =
            sum_by-set (λ (x : ℕ). x) depths (rank p.start) (cap p.height) 0 below in
            settle fuel (set depths (rank p.start) (cap p.height))
            (lifted l image depths p.start (cap p.height) below (omega arith) taken (height_taken l image p e.1))
            (omega (arith, more, e.2))
        | inr own ↦ elim (seek LowCall HighCall (λ c. cases_lt (depth_in depths c.from) (depth_by depths c)) calls) [
          | inl s ↦
              let e = element LowCall calls s in
              let c = e.0 in
              let call = calls_only l image points are.only c (contains_in calls c e.1) in
              let below : rank c.from < length depths =
              omega (arith, start_few call.point c.from call.is_point call.start_is, taken.len) in
              let new = set depths (rank c.from) (depth_by depths c) in
              let r = raised_next l image (c ∷ []) 0 c depths depths new false true (omega arith) below call
              (raised_none l image depths taken) (e.2, refl) in
              settle fuel new r.are (omega (arith, r.more refl))
          | inr high ↦ (
            depths,
            record {
              are = taken;
              own = λ p h. every_in High points p own (in_contains points p h);
              calls = λ c h. every_in HighCall calls c high (in_contains calls c h);
            },
          )
        ]
      ]

  settled_found : (count fuel : ℕ) → count ≡ 65537 → 16777472 < fuel
      → (depths : List ℕ) × AreSettled l image points depths
  settled_found count fuel is enough =
      settle fuel (replicate count 0)
      (taken_first l image (replicate count 0) (blank count (replicate count 0) is refl)) (omega arith)

-- ---- starts that call themselves

-- calls of starts other than the reset, as edges
abbrev edge_from : Start → ℕ → Edges
edge_from Reset to = []
edge_from (At from) to = (from, to) ∷ []

abbrev edges_from : StartCall → Edges
edges_from c = edge_from c.from c.to

edge_is : (start : Start) (to a b : ℕ) → In (a, b) (edge_from start to) → (start ≡ At a) × (to ≡ b)
edge_is start to a b h = grind arith

module _ (l : LayoutParts) (image : List ℕ) (points : List Point) (are : ArePoints l image points) where
  abbrev listed_calls : List StartCall
  listed_calls = calls_of l image points

  abbrev edges : Edges
  edges = flat_map edges_from listed_calls

  calls_edge : (a b : ℕ) → Calls l image (At a) b → HasEdge edges a b
  calls_edge a b (height, c) =
      let call : StartCall = record { from = c.point.start; height = c.point.height; to = b } in
      let listed = calls_all l image points c.point b (are.all c.point c.is_point) c.calls in
      contains_in edges (a, b)
      (flat_in edges_from listed_calls call (a, b) (in_contains listed_calls call listed) (rw c.start_is (inl refl)))

  edge_calls : (a b : ℕ) → HasEdge edges a b → Calls l image (At a) b
  edge_calls a b k =
      let f = in_flat edges_from listed_calls (a, b) (in_contains edges (a, b) k) in
      let is = edge_is f.0.from f.0.to a b f.2 in
      (f.0.height, rw (is.0, is.1) at (calls_only l image points are.only f.0 (contains_in listed_calls f.0 f.1)))

  through_reaches : (a b : ℕ) → CallsThrough l image (At a) b → Reaches edges a b
  through_reaches a _ (Direct to h) = reach_edge edges a to (calls_edge a to h)
  through_reaches a _ (Through via to h k) =
      reach_on edges a via to (through_reaches a via h) (calls_edge via to k)

  walk_through : (a b : ℕ) (more : List ℕ) → CallsThrough l image (At a) b → IsWalk edges b more
      → CallsThrough l image (At a) (last_of b more)
  walk_through a b [] h walk = h
  walk_through a b (c ∷ more) h walk = walk_through a c more (Through b c h (edge_calls b c walk.0)) walk.1

  cyclic_or_not : (a : ℕ) → IsCyclic l image (At a) ⊎ (IsCyclic l image (At a) → ⊥)
  cyclic_or_not a = elim (cases_Bool (leads edges a a)) [
    | inl leads_back ↦
        let r = (leads_tells edges a a).0 leads_back in
        inl (rw r.ends at (walk_through a r.next r.more (Direct r.next (edge_calls a r.next r.walk.0)) r.walk.1))
    | inr apart ↦ inr (λ h. false≢true (sym apart ∙ (leads_tells edges a a).1 (through_reaches a a h)))
  ]

  abbrev NoneBelow : ℕ → Type 0
  NoneBelow n = (a : ℕ) → a < n → IsCyclic l image (At a) → ⊥

  cyclic_below : (n : ℕ) → NoneBelow n ⊎ ((at : ℕ) × IsCyclic l image (At at) × NoneBelow at)
  cyclic_below zero = inl (λ a below. absurd (omega (arith, below)))
  cyclic_below (suc n) = elim (cyclic_below n) [
    | inr found ↦ inr found
    | inl none ↦ elim (cyclic_or_not n) [
      | inl cyclic ↦ inr (n, cyclic, none)
      | inr free ↦ inl (λ a below h. elim (cases_lt a n) [
        | inl less ↦ none a less h
        | inr more ↦ let same : a ≡ n = omega (arith, below, more) in free (rw same at h)
      ])
    ]
  ]

  cyclic_found : (count : ℕ) → count ≡ 65536 → (depths : List ℕ) → AreSettled l image points depths
      → (first : Option Start) × HasFirstCyclic l image first
  cyclic_found count is depths s = elim (cyclic_below count) [
    | inl none ↦ (None, none_is l image points depths are s (λ a below. none a (omega (arith, below))))
    | inr c ↦ (Some (At c.0), first_is l image c.0 c.1 c.2)
  ]

-- ---- tables and lists

-- how a path continues, and the two greatest numbers
abbrev Way : Type 0
Way = taken_by called_next

abbrev TwoNumbers : Type 0
TwoNumbers = taken_by with_bytes

-- a list from its first element on, one by one
module _ {X : Type 0} (xs : List X) (Is : List X → Type 0) (start : Is [])
    (step : (i : ℕ) → i < length xs → Is (take i xs) → Is (take (i + 1) xs)) where
  front : (i : ℕ) → i ≤ length xs → Is (take i xs)
  front zero fits = start
  front (suc i) fits =
      let one_more : i + 1 ≡ suc i = omega arith in
      subst (λ k. Is (take k xs)) one_more (step i (omega (arith, fits)) (front i (omega (arith, fits))))

  whole : Is xs
  whole = subst Is (take_all (length xs) xs (omega arith)) (front (length xs) (omega arith))

module _ (l : LayoutParts) (image : List ℕ) (sound : IsSound l) (points : List Point)
    (are : ArePoints l image points) where
  abbrev none : Point
  none = point_at Reset 0 0

  at_point : (i : ℕ) → i < length points → rank (get_or points i none).start < 65537
  at_point i below =
      start_few l image sound points are _ _ (are.only (get_or points i none) (Contains-get_or points i none below))
      refl

  nexts_found : (count : ℕ) → count ≡ 65537 → (depths : List ℕ)
      → (nexts : List Way) × AreNexts l image points depths nexts
  nexts_found count is depths =
      whole points (λ ps. (nexts : List Way) × AreNexts l image ps depths nexts)
      (replicate count (next_called [] none None), nexts_none l image points depths count _ is refl)
      (λ i below h.
      let inside : rank (get_or points i none).start < length h.0 = omega (arith, at_point i below, h.1.len) in
      (_, nexts_more l image points depths i none below h.0 _ inside refl h.1))

  starts_found : (count : ℕ) → count ≡ 65536 → (starts : List Bool) × AreStarts points starts
  starts_found count is =
      whole points (λ ps. (starts : List Bool) × AreStarts ps starts)
      (replicate count false, starts_none count (replicate count false) is refl)
      (λ i below h.
      let start : Start = (get_or points i none).start in (
        with_start h.0 start,
        starts_more points i none below h.0 start refl
            (λ at e. let few : rank (At at) < 65537 = rw e at (at_point i below) in omega (arith, few)) h.1,
      ))

  module _ (depths : List ℕ) (nexts : List Way) (s : AreSettled l image points depths) (low : AreLow depths)
      (n : AreNexts l image points depths nexts) where
    procs_found : (end : ℕ) (starts : List Bool) → AreStarts points starts
        → (procs : List Proc) × AreListed l starts depths end procs
    procs_found zero starts ss = ([], listed_none l starts depths)
    procs_found (suc end) starts ss =
        let h = procs_found end starts ss in
        let one_more : end + 1 ≡ suc end = omega arith in
        rw (← one_more) (elim (cases_Bool (is_noted starts end)) [
          | inr e ↦ (h.0, listed_same l starts depths end h.0 e h.1)
          | inl e ↦
              let u = covered_noted l image points depths nexts are s low n sound starts ss end e in
              let p : Proc = record { at = end; unit = u.0; depth = depth_in depths (At end) } in
              (_, listed_more l starts depths end h.0 p refl (record { noted = e; unit = u.1; depth = refl }) h.1)
        ])

    path_by : (fuel : ℕ) (start : Start) → depth_in depths start < fuel → (more : List Start) × Leads nexts start more
    path_by zero start below = absurd (omega (arith, below))
    path_by (suc fuel) start below =
        by (called_next (next_in nexts start)) refl (λ to less. path_by fuel (At to) (omega (arith, less, below)))
      where
        by : (o : Option ℕ) → called_next (next_in nexts start) ≡ o
            → ((to : ℕ) → depth_in depths (At to) < depth_in depths start
            → (more : List Start) × Leads nexts (At to) more)
            → (more : List Start) × Leads nexts start more
        by None e rest = ([], Stop start e)
        by (Some to) e rest =
            let on = rest to (falls l image points depths nexts are s low n start to e) in
            (At to ∷ on.0, Go start to on.0 e on.1)

    row_of : (start : Start) (vector root : ℕ) → IsRootAt l vector root
        → (row : RootDepth) × IsRowAt l depths nexts start vector row
    row_of start vector root is =
        let path = path_by (suc (depth_in depths start)) start (omega arith) in (
          record { root = root; depth = depth_in depths start; path = start ∷ path.0 },
          record {
            root = root;
            is_root = is;
            row = record { root_is = refl; depth = refl; more = path.0; path_is = refl; leads = path.1 };
          },
        )

    rows_of : (vectors : List ℕ) → ((v : ℕ) → Contains vectors v → (unit : ℕ) × IsRootAt l v unit)
        → (rows : List RootDepth) × AreEach (λ vector. IsRowAt l depths nexts (At vector) vector) vectors rows
    rows_of [] roots = ([], tt)
    rows_of (v ∷ vectors) roots =
        let root = roots v (contains_first v vectors) in
        let first = row_of (At v) v root.0 root.1 in
        let more = rows_of vectors (λ w k. roots w (contains_after v vectors w k)) in
        (first.0 ∷ more.0, (first.1, more.1))

    roots_found : (unit : ℕ) × IsRootAt l 0 unit
        → (roots : List RootDepth) × AreRootRows l depths nexts (handlers l) roots
    roots_found root =
        let reset = row_of Reset 0 root.0 root.1 in
        let more = rows_of (handlers l) (handler_root l sound) in (
          reset.0 ∷ more.0,
          record {
            reset = reset.0;
            interrupts = more.0;
            roots_are = refl;
            reset_is = reset.1;
            interrupts_are = more.1;
          },
        )

total_found : (l : LayoutParts) (depths : List ℕ) → (total : ℕ) × IsSum depths (handlers l) total
total_found l depths =
    let g = whole (handlers l) (λ vectors. (greatest : TwoNumbers) × AreGreatest depths vectors greatest)
    (record { first = 0; second = 0 }, greatest_none depths)
    (λ i below h. (
      with_bytes h.0 (added depths (get_or (handlers l) i 0)),
      greatest_more depths (handlers l) i below (handlers_rise l) h.0 h.1,
    )) in
    (depth_in depths Reset + g.0.first + g.0.second, record { greatest = g.0; are = g.1; total_is = refl })

-- ---- the answer

-- the answer of the bound, which is not out of memory
pub record HasBound (l : LayoutParts) (image : List ℕ) : Type 0 where
  pub answer : Result StackBound StackError
  pub tied : IsTied answer
  pub answers : Answers l image answer

module _ (l : LayoutParts) (image : List ℕ) (sound : IsSound l) (root : (unit : ℕ) × IsRootAt l 0 unit) where
  refuses : (why : StackError) → IsTied (Err why) → Answers l image (Err why) → HasBound l image
  refuses why tied h = record { answer = Err why; tied = tied; answers = h }

  -- there is a first place, or none
  by_least : (Is : Place → Type 0) (o : Option Place) → IsLeast Is o
      → ((at : Place) → IsLeast Is (Some at) → HasBound l image)
      → (((at : Place) → Is at → ⊥) → HasBound l image) → HasBound l image
  by_least Is None h broken kept = kept h
  by_least Is (Some at) h broken kept = broken at h

  module _ (points : List Point) (are : ArePoints l image points) where
    -- a rule is broken, and where it is first, or it is kept
    by_rule : (rule : _) → ((at : Place) → IsLeast (Breaks l image rule) (Some at) → HasBound l image)
        → (Keeps l image rule → HasBound l image) → HasBound l image
    by_rule rule broken kept =
        let first = first_broken l image points are rule in
        by_least (Breaks l image rule) first.least first.is broken kept

    few_points : AreFew l image
    few_points = (points, are)

    module _ (depths : List ℕ) (s : AreSettled l image points depths) (heights : KeepsHeights l image) where
      -- the lists, where neither a depth nor the total is above 255
      by_lists : IsAbove l image depths false → (total : ℕ) → IsSum depths (handlers l) total → total < 256
          → HasBound l image
      by_lists (no_push, low) total sum few =
          let n = nexts_found l image sound points are 65537 refl depths in
          let ss = starts_found l image sound points are 65536 refl in
          let ps = procs_found l image sound points are depths n.0 s low n.1 65536 ss.0 ss.1 in
          let rs = roots_found l image sound points are depths n.0 s low n.1 root in
          let b : StackBound = record { procs = ps.0; roots = rs.0; total = total } in
          record {
            answer = Ok b;
            tied = omega (arith, few);
            answers = bound_is l image points depths are s low total b sum heights no_push
                (lists l image points depths n.0 are s low n.1 ss.0 ps.0 rs.0 total b ss.1 ps.1 rs.1 refl refl refl);
          }

      by_heights : HasBound l image
      by_heights =
          by_rule _ (λ at h. refuses K6 tt (heights, inl (at, h.0)))
          (λ no_push. elim (cases_Bool (list_any (λ depth. nat_lt 255 depth) depths)) [
            | inl above ↦ refuses K6 tt (heights, depth_above l image points depths s above)
            | inr none ↦
                let low = all_low depths none in
                let t = total_found l depths in
                elim (cases_lt 255 t.0) [
                  | inl high ↦ refuses K6 tt (heights, total_above l image points depths are s low t.0 t.1 high)
                  | inr few ↦ by_lists (no_push, low) t.0 t.1 (omega (arith, few))
                ]
          ])

    by_cyclic : (depths : List ℕ) → AreSettled l image points depths → KeepsRules l image → (first : Option Start)
        → HasFirstCyclic l image first → HasBound l image
    by_cyclic depths s rules (Some start) h = refuses (K4 start) tt (rules, h)
    by_cyclic depths s rules None h =
        let apart : KeepsApart l image = record { rules = rules; no_cycle = h } in
        let d = first_doubled l image points are in
        by_least (HasTwoHeights l image) d.least d.is (λ at h. refuses (K5 at.start at.address) tt (apart, h))
        (λ none. by_heights depths s (record { apart = apart; one_height = none }))

    judged : HasBound l image
    judged =
        by_rule _ (λ at h. refuses (K1 at.start at.address) tt (few_points, h))
        (λ writes. by_rule _ (λ at h. refuses (K2 at.start at.address) tt (few_points, writes, h))
        (λ computed. by_rule _ (λ at h. refuses (K3 at.start at.address) tt (few_points, writes, computed, h))
        (λ pops.
        let s = settled_found l image sound points are 65537 16777473 refl (omega arith) in
        let c = cyclic_found l image points are 65536 refl s.0 s.1 in
        by_cyclic s.0 s.1 (record { few = few_points; writes = writes; computed = computed; pops = pops }) c.0 c.1)))

  by_points : (found : Option (List Point)) → Finds l image (first_points l) found → HasBound l image
  by_points (Some points) f = judged points f
  by_points None f = refuses Limit tt f

  pub has_bound : HasBound l image
  has_bound = let p = points_found l image (suc MOST_POINTS) (omega arith) in by_points p.0 p.1
