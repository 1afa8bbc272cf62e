-- From the tables to the answers of the bound: depths, paths, lists and the total.
use Rattle.m51_stackbound.proofs.Common.{cases_lt, ◌≡◌, ◌≢◌, ◌<◌, ◌≤◌, ◌+◌, ℕ, List, [], ◌∷◌, ◌++◌, refl, arith, Some}
use Rattle.m51_stackbound.proofs.Common.{None, Contains, LayoutParts, Start, At, Next, Point, depth_in, AreSettled}
use Rattle.m51_stackbound.proofs.Common.{CallsAt, HasHeight, IsDepth, Takes, Own, next_in, AreNexts, call_of, ArePoints}
use Rattle.m51_stackbound.proofs.Common.{zero, suc, Bool, true, false, sym, ◌∙◌, inl, inr, nat_lt, contains_after}
use Rattle.m51_stackbound.proofs.Common.{list_any, common_steps, Proc, RootDepth, StackBound, Reset, IsUnitAt, IsSound}
use Rattle.m51_stackbound.proofs.Common.{IsCyclic, Keeps, CallsThrough, is_noted, AreStarts, AreListed, AreRootRows}
use Rattle.m51_stackbound.proofs.Common.{rank, IsSum, handlers, ComesTo, Nothing, One}
use Rattle.std.proofs.Common.{append_assoc}
use Rattle.std.proofs.lemmas.List.{append-nil}
use Rattle.m51_stackbound.specs.declared.paths.Next.TheVariants.{Unknown, Ends, Calls}
use Rattle.m51_stackbound.specs.Above.{AreLow, HasLists, IsAbove}
use Rattle.m51_stackbound.specs.Depths.{IsPath, Call, ComesFirst}
use Rattle.m51_stackbound.specs.Nexts.{next_by, IsNoLater, Gives, AreTables, called_next, IsPassed, Leads, Stop, Go}
use Rattle.m51_stackbound.specs.Nexts.{IsRowAt}
use Rattle.m51_stackbound.proofs.Raised.{entered, settled_call, settled_says, takes_most, low_not_cyclic}
use Rattle.m51_stackbound.proofs.Ways.{calls_from, ends_from, says}
use Rattle.std.proofs.lemmas.List.Folds.{Any-from_list_any}
use Rattle.m51_stackbound.specs.Bounds.{AreEach, IsFirstCyclic, IsRootDepth, IsStart, IsTooDeep, KeepsHeights, Adds}
use Rattle.m51_stackbound.specs.Bounds.{IsBound, Two}
use Rattle.m51_stackbound.specs.declared.judging.Rule.TheVariants.{PushesAbove}
use Rattle.m51_stackbound.specs.Climb.{TakesDepth}
use Rattle.m51_stackbound.proofs.Covering.{start_covered}
use Rattle.m51_stackbound.proofs.Rooted.{handler_height, reset_height, taken_above}

calls_of_next : (n : Next) (to : ℕ) → called_next n ≡ Some to → n ≡ Calls to
calls_of_next n to h = grind arith

module _ (nexts : List Next) (first : Start) where
  -- the path continues
  pub passed_more : (last : Start) (path new : List Start) (to : ℕ) → IsPassed nexts first last path
      → called_next (next_in nexts last) ≡ Some to → new ≡ path ++ At to ∷ [] → IsPassed nexts first (At to) new
  passed_more last path new to h is new_is = record {
    done = h.done ++ At to ∷ [];
    path_is = cc;
    leads = λ more rest. rw (append_assoc h.done (At to ∷ []) more) (h.leads (At to ∷ more) (Go last to more is rest));
  }

  -- the path ends
  pub passed_all : (last : Start) (path : List Start) (h : IsPassed nexts first last path)
      → called_next (next_in nexts last) ≡ None → Leads nexts first h.done
  passed_all last path h none = rw (append-nil h.done) at (h.leads [] (Stop last none))

-- the start with this index in a table
start_of : (k : ℕ) → (start : Start) × (rank start ≡ k)
start_of zero = (Reset, refl)
start_of (suc k) = (At k, omega arith)

-- no depth is above 255 where the test finds none
pub all_low : (depths : List ℕ) → list_any (λ depth. nat_lt 255 depth) depths ≡ false → AreLow depths
all_low depths none start = grind (arith, common_steps)

module _ (l : LayoutParts) (image : List ℕ) where
  -- a depth above 255 in the table is one of a start that takes as much, so SP may get a value above 255
  pub depth_above : (points : List Point) (depths : List ℕ) (s : AreSettled l image points depths)
      → list_any (λ depth. nat_lt 255 depth) depths ≡ true → IsTooDeep l image
  depth_above points depths s some =
      let a = Any-from_list_any _ depths some in
      let start = start_of a.0 in
      let high : 255 < depth_in depths start.0 = grind (arith, common_steps, a.2, a.3, a.4, start.1) in
      let t : TakesDepth l image start.0 (depth_in depths start.0) = grind (arith, high, s.are.taken start.0) in
      let above = taken_above l image start.0 t.path t.bytes t.takes in
      grind arith

  pub above_by : (points : List Point) (depths : List ℕ) (s : AreSettled l image points depths) (r : Bool)
      → r ≡ list_any (λ depth. nat_lt 255 depth) depths → Keeps l image PushesAbove → IsAbove l image depths r
  above_by points depths s true e none = depth_above points depths s (sym e)
  above_by points depths s false e none = (none, all_low depths (sym e))

  -- the first start that calls itself
  pub first_is : (a : ℕ) → CallsThrough l image (At a) a → ((b : ℕ) → b < a → IsCyclic l image (At b) → ⊥)
      → IsFirstCyclic l image (At a)
  first_is a h before = record { cyclic = h; first = λ other k. grind arith }

each_push : (Is : ℕ → RootDepth → Type 0) (vs : List ℕ) (v : ℕ) (rs : List RootDepth) (r : RootDepth) → AreEach Is vs rs
    → Is v r → AreEach Is (vs ++ v ∷ []) (rs ++ r ∷ [])
each_push Is [] v [] r h k = (k, tt)
each_push Is (w ∷ vs) v (q ∷ rs) r h k = (h.0, each_push Is vs v rs r h.1 k)
each_push Is vs v rs r h k = absurd h

-- where no address has a start that calls itself there is none
pub none_is : (l : LayoutParts) (image : List ℕ) (points : List Point) (depths : List ℕ) → ArePoints l image points
    → AreSettled l image points depths → ((a : ℕ) → a < 65536 → IsCyclic l image (At a) → ⊥)
    → (start : Start) → IsCyclic l image start → ⊥
none_is l image points depths are s none start h =
    grind (arith, common_steps, low_not_cyclic l image points depths are s)

-- one more root
pub rows_more : (l : LayoutParts) (depths : List ℕ) (nexts : List Next) (vs : List ℕ) (v : ℕ) (roots : List RootDepth)
    (r : RootDepth) → AreRootRows l depths nexts vs roots → IsRowAt l depths nexts (At v) v r
    → AreRootRows l depths nexts (vs ++ v ∷ []) (roots ++ r ∷ [])
rows_more l depths nexts vs v roots r h row = grind (arith, each_push)

-- each of a list by another fact
pub each_more : (Is New : ℕ → RootDepth → Type 0) (vs : List ℕ) (rs : List RootDepth)
    → ((v : ℕ) (r : RootDepth) → Contains vs v → Is v r → New v r) → AreEach Is vs rs → AreEach New vs rs
each_more Is New [] [] on h = h
each_more Is New (v ∷ vs) (r ∷ rs) on h =
    (on v r (0, omega arith, refl) h.0, each_more Is New vs rs (λ w q k. on w q (contains_after v vs w k)) h.1)
each_more Is New vs rs on h = absurd h

module _ (l : LayoutParts) (image : List ℕ) (points : List Point) (depths : List ℕ) (nexts : List Next)
    (are : ArePoints l image points) (s : AreSettled l image points depths) (low : AreLow depths)
    (n : AreNexts l image points depths nexts) where
  -- the depth in the table is the depth of the start
  pub depth_is : (start : Start) (height : ℕ) → HasHeight l image start height
      → IsDepth l image start (depth_in depths start)
  depth_is start height h = grind (arith, settled_says _ _ _ _ are s start height h)

  given_by : (start : Start) (next : Next) → next_in nexts start ≡ next → next ≢ Unknown
      → Gives l image points depths start next
  given_by start next e other = grind arith

  earliest_by : (start : Start) (next : Next) (p : Point) (way : Next) → next_in nexts start ≡ next → Contains points p
      → p.start ≡ start → next_by depths p (call_of l image p) ≡ way → IsNoLater next way
  earliest_by start next p way e listed is w = rw (e, w) at ((n.each start).earliest p listed is)

  -- the start continues no later than a path that gives its depth, and what that path calls has its depth too
  abbrev NoLaterThan : Next → List Start → Type 0
  NoLaterThan next [] = IsNoLater next Ends
  NoLaterThan next (Reset ∷ more) = ⊥
  NoLaterThan next (At to ∷ more) = IsNoLater next (Calls to) × Takes l image (At to) more (depth_in depths (At to))

  best : (start : Start) (path : List Start) (bytes : ℕ) → Takes l image start path bytes
      → bytes ≡ depth_in depths start → (next : Next) → next_in nexts start ≡ next → NoLaterThan next path
  best start _ bytes (Own _ _ h) e next is =
      earliest_by _ _ _ Ends is (are.all h.point h.is_point) h.start_is
      (ends_from depths h.point (call_of l image h.point) (cc))
  best start _ _ (Call _ height to more bytes c rest) e next is =
      let most = takes_most _ _ _ _ are s _ _ _ rest in
      let high = settled_call _ _ _ _ are s _ _ _ (depth_in depths (At to)) c (omega arith) in
      let same : bytes ≡ depth_in depths (At to) = omega (arith, e, low start, low (At to), most, high) in
      let sum : height + 2 + depth_in depths (At to) ≡ depth_in depths start = omega (arith, e, same) in (
        earliest_by _ _ _ (Calls to) is (are.all c.point c.is_point) c.start_is
            (calls_from depths c.point (call_of l image c.point) to c.calls (cc)),
        rw same at rest,
      )

  -- a call of a path, with its point
  record IsCall (start : Start) (to : ℕ) : Type 0 where
    pub height : ℕ
    pub calls : CallsAt l image start height to
    pub sum : height + 2 + depth_in depths (At to) ≡ depth_in depths start

  call_of_next : (start : Start) (to : ℕ) → called_next (next_in nexts start) ≡ Some to → IsCall start to
  call_of_next start to e =
      let g = given_by _ _ (calls_of_next (next_in nexts start) to e) (λ k. absurd (cc k)) in
      let giving = says depths g.point (call_of l image g.point) (Calls to) g.next_is in
      grind arith

  -- depths fall along a path
  pub falls : (start : Start) (to : ℕ) → called_next (next_in nexts start) ≡ Some to
      → depth_in depths (At to) < depth_in depths start
  falls start to h = omega (arith, call_of_next start to h)

  pub tables : AreTables depths nexts
  tables = grind (arith, falls)

  -- where the path ends a point has the depth
  ended : (start : Start) (next : Next) (path : List Start) → next_in nexts start ≡ next → called_next next ≡ None
      → NoLaterThan next path → Takes l image start [] (depth_in depths start)
  ended start Ends path is none b =
      let g = given_by _ _ is (λ k. absurd (cc k)) in
      let same = says depths g.point (call_of l image g.point) Ends g.next_is in
      Own start (depth_in depths start) (grind arith)
  ended start Unknown path is none b = grind arith
  ended start (Calls t) path is none b = absurd (cc none)

  pub leads_takes : (start : Start) (more : List Start) (height : ℕ) → Leads nexts start more
      → HasHeight l image start height → Takes l image start more (depth_in depths start)
  leads_takes start _ height (Stop _ none) h =
      let d = depth_is _ _ h in
      ended start (next_in nexts start) d.path refl none (best _ _ _ d.takes refl _ refl)
  leads_takes start _ height (Go _ to more is rest) h =
      let c = call_of_next start to is in
      let call = c.calls in
      let inside = entered l image call.point to call.is_point call.calls in
      rw c.sum at (Call start c.height to more (depth_in depths (At to)) call (leads_takes _ _ _ rest inside))

  first_by : (to : ℕ) (more other : List Start)
      → ((path : List Start) → Takes l image (At to) path (depth_in depths (At to)) → ComesFirst more path)
      → NoLaterThan (Calls to) other → ComesFirst (At to ∷ more) other
  first_by to more [] on b = b
  first_by to more (Reset ∷ path) on b = absurd b
  first_by to more (At o ∷ path) on b = grind (arith, cases_lt to o, on path)

  pub leads_first : (start : Start) (more : List Start) → Leads nexts start more → (other : List Start)
      → Takes l image start other (depth_in depths start) → ComesFirst more other
  leads_first start _ (Stop _ none) other t = tt
  leads_first start _ (Go _ to more is rest) other t =
      first_by to more other (leads_first (At to) more rest)
      (best start other _ t refl (Calls to) (calls_of_next (next_in nexts start) to is))

  pub path_is : (start : Start) (height : ℕ) (path more : List Start) → HasHeight l image start height
      → path ≡ start ∷ more → Leads nexts start more → IsPath l image start path
  path_is start height path more h is leads =
      grind (arith, depth_is _ _ h, leads_takes _ _ _ leads h, leads_first _ _ leads)

  row_is : (start : Start) (vector height : ℕ) (r : RootDepth) → HasHeight l image start height
      → IsRowAt l depths nexts start vector r → IsRootDepth l image start vector r
  row_is start vector height r h row =
      grind (arith, depth_is start height h, path_is start height r.path row.row.more h)

  -- a noted start is one of the program
  noted_start : (starts : List Bool) → AreStarts points starts → (at : ℕ) → is_noted starts at ≡ true
      → IsStart l image (At at)
  noted_start starts ss at h =
      let k = ss.only at h in (k.point.height, grind arith)

  pub covered_noted : IsSound l → (starts : List Bool) → AreStarts points starts → (at : ℕ) → is_noted starts at ≡ true
      → (unit : ℕ) × IsUnitAt l at unit
  covered_noted sound starts ss at h = start_covered _ sound _ _ (noted_start starts ss at h)

  pub lists : (starts : List Bool) (procs : List Proc) (roots : List RootDepth) (total : ℕ) (b : StackBound)
      → AreStarts points starts → AreListed l starts depths 65536 procs
      → AreRootRows l depths nexts (handlers l) roots → b.total ≡ total → b.procs ≡ procs → b.roots ≡ roots
      → HasLists l image total b
  lists starts procs roots total b ss listed rows total_is procs_are roots_are = record {
    total_is = total_is;
    rising = rw procs_are listed.rising;
    procs = λ p k.
        let is = listed.each p (rw procs_are at k) in
        let start = noted_start starts ss p.at is.noted in
        grind (arith, depth_is (At p.at) start.0 start.1);
    all = λ at k.
        let noted = ss.all at (grind (arith, k.1)) in
        rw procs_are (listed.all at (grind (arith, common_steps, noted)) noted);
    reset = rows.reset;
    interrupts = rows.interrupts;
    roots = roots_are ∙ rows.roots_are;
    reset_is = row_is Reset 0 7 rows.reset (reset_height l image) rows.reset_is;
    interrupts_are = each_more (λ vector. IsRowAt l depths nexts (At vector) vector)
        (λ vector. IsRootDepth l image (At vector) vector) (handlers l) rows.interrupts
        (λ v r k row. row_is (At v) v 0 r (handler_height l image v k) row) rows.interrupts_are;
  }

-- the bound of a program whose depths are not above 255
module _ (l : LayoutParts) (image : List ℕ) (points : List Point) (depths : List ℕ) (are : ArePoints l image points)
    (s : AreSettled l image points depths) (low : AreLow depths) where
  deep : (start : Start) (height : ℕ) → HasHeight l image start height → IsDepth l image start (depth_in depths start)
  deep start height h = grind (arith, settled_says _ _ _ _ are s start height h)

  reset_depth : IsDepth l image Reset (depth_in depths Reset)
  reset_depth = deep Reset 7 (reset_height l image)

  handler_depth : (v : ℕ) → Contains (handlers l) v → IsDepth l image (At v) (depth_in depths (At v))
  handler_depth v h = deep (At v) 0 (handler_height l image v h)

  module _ (total : ℕ) (found : IsSum depths (handlers l) total) where
    abbrev first : ℕ
    first = found.greatest.first

    abbrev second : ℕ
    second = found.greatest.second

    both_add : Adds l image (first + second)
    both_add = elim found.are.two [
      | inr t ↦
          let d = handler_depth t.first.vector t.first.listed in
          let e = handler_depth t.second.vector t.second.listed in
          grind (arith, Two _ _ _ _ d.path e.path t.first.listed t.second.listed t.different d.takes e.takes)
      | inl none ↦ elim found.are.one [
        | inl nothing ↦ let sum : first + second ≡ 0 = omega (arith, none, nothing) in rw sum Nothing
        | inr o ↦ let d = handler_depth o.vector o.listed in grind (arith, One)
      ]
    ]

    comes_total : ComesTo l image total
    comes_total = grind (arith, reset_depth.path, reset_depth.takes, both_add)

    adds_most : (bytes : ℕ) → Adds l image bytes → bytes ≤ first + second
    adds_most _ Nothing = omega arith
    adds_most _ (One v d path h t) =
        let deepest = (handler_depth v h).most path d t in
        omega arith
    adds_most _ (Two v w d e path other h k ne t u) =
        let one = (handler_depth v h).most path d t in
        let two = (handler_depth w k).most other e u in
        omega (arith, found.are.sum v w h k ne)

  pub total_above : (total : ℕ) → IsSum depths (handlers l) total → 255 < total → IsTooDeep l image
  total_above total sum high = inr (total, comes_total total sum, high)

  pub bound_is : (total : ℕ) (b : StackBound) → IsSum depths (handlers l) total → KeepsHeights l image
      → Keeps l image PushesAbove → HasLists l image total b → IsBound l image b
  bound_is total b sum kept no_push h =
      grind (arith, comes_total total sum, reset_depth.most, adds_most total sum)
