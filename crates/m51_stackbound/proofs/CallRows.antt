-- The calls of points, the rows of them, what walks over rows find, and which starts do not call themselves.
use Rattle.m51_stackbound.proofs.Common.{◌≡◌, ◌<◌, ◌+◌, ℕ, List, [], ◌∷◌, ◌++◌, length, get_or, set, take, refl, ◌∙◌}
use Rattle.m51_stackbound.proofs.Common.{arith, ◌⊎◌, inl, inr, Option, Some, None, Contains, get_or-set_same}
use Rattle.m51_stackbound.proofs.Common.{get_or-set_other, length-set, take_more, Contains-push, Contains-push_cases}
use Rattle.m51_stackbound.proofs.Common.{Contains-append_left, contains_after, first_or_after, none_in_empty}
use Rattle.m51_stackbound.proofs.Common.{LayoutParts, Start, Reset, At, same_or_not, Call, Point, AreCallRows, calls_of}
use Rattle.m51_stackbound.proofs.Common.{callee_row, call_of, IsPoint, ArePoints, ◌≤◌, ◌-◌, Bool, true, false}
use Rattle.m51_stackbound.proofs.Common.{replicate, common_steps, Contains-get_or, AreCleared, GoesOn, IsClosed}
use Rattle.m51_stackbound.proofs.Common.{CallsThrough, take_all}
use Rattle.std.specs.List.{cons_option}
use Rattle.std.proofs.lemmas.List.Elements.{filter_map-append, Contains-append_cases}
use Rattle.std.proofs.lemmas.List.Sorted.{Contains-permutation, IsPermutation-sym}
use Rattle.m51_module.specs.Kept.{AreEmptyRows}
use Rattle.m51_stackbound.specs.Callers.{AreCallsOf, AreRowsOf, call_from, IsCalled, with_call, AreMarked, HasCallees}
use Rattle.m51_stackbound.specs.Callers.{Leads, Once, one_unmarked, Over, Walks, with_clear}
use Rattle.m51_stackbound.specs.Climb.{AreCalls}
use Rattle.std.proofs.Common.{◌↔◌, append_assoc, length-append}
use Rattle.std.proofs.lemmas.List.{take-append-le}
use Rattle.std.proofs.lemmas.List.Sums.{sum_by-set}
use Rattle.m51_stackbound.specs.Depths.{Direct, Through}

-- of a list that begins with a value if there is one
cons_cases : {X : Type 0} (o : Option X) (xs : List X) (x : X) → Contains (cons_option o xs) x
    → (o ≡ Some x) ⊎ Contains xs x
cons_cases o xs x k = grind arith

cons_later : {X : Type 0} (o : Option X) (xs : List X) (x : X) → Contains xs x → Contains (cons_option o xs) x
cons_later None xs x k = k
cons_later (Some y) xs x k = contains_after y xs x k

module _ (l : LayoutParts) (image : List ℕ) where
  -- the calls of points of the program are calls of the program
  pub calls_only : (points : List Point) → ((p : Point) → Contains points p → IsPoint l image p)
      → AreCalls l image (calls_of l image points)
  calls_only [] only c k = absurd (none_in_empty c k)
  calls_only (q ∷ ps) only c k = grind (
    arith,
    cons_cases (call_from q (call_of l image q)) (calls_of l image ps) c k,
    calls_only ps (λ p m. only p (contains_after q ps p m)) c,
  )

  -- and all calls of these points are listed
  pub calls_all : (points : List Point) (p : Point) (to : ℕ) → Contains points p → call_of l image p ≡ Some to
      → Contains (calls_of l image points) (record { from = p.start; height = p.height; to = to })
  calls_all [] p to k calls = absurd (none_in_empty p k)
  calls_all (q ∷ ps) p to k calls = elim (first_or_after q ps p k) [
    | inl here ↦ grind arith
    | inr after ↦ cons_later (call_from q (call_of l image q)) (calls_of l image ps) _ (calls_all ps p to after calls)
  ]

  -- the calls of one more point
  pub calls_more : (points : List Point) (i : ℕ) (d : Point) → i < length points
      → calls_of l image (take (i + 1) points) ≡ calls_of l image (take i points)
      ++ cons_option (call_from (get_or points i d) (call_of l image (get_or points i d))) []
  calls_more points i d below =
      rw (take_more points i d below, filter_map-append (λ p. call_from p (call_of l image p)) (take i points)) refl

  -- the list has these calls
  pub calls_in : (points : List Point) (calls : List Call) (c : Call) → AreCallsOf l image points calls
      → Contains (calls_of l image points) c → Contains calls c
  calls_in points calls c is k = Contains-permutation (calls_of l image points) calls c is k

  pub are_calls : (points : List Point) (calls : List Call) → AreCallsOf l image points calls
      → ((p : Point) → Contains points p → IsPoint l image p) → AreCalls l image calls
  are_calls points calls is only c k =
      calls_only points only c
      (Contains-permutation calls (calls_of l image points) c (IsPermutation-sym (calls_of l image points) calls is) k)

  -- the rows of the calls of all points
  pub rows_are : (points : List Point) (calls : List Call) (rows : List (List ℕ)) → ArePoints l image points
      → AreCallsOf l image points calls → AreRowsOf calls rows → AreCallRows l image rows
  rows_are points calls rows are is r = record {
    only = λ from to k.
        let d = r.only from to k in
        grind (arith, are_calls points calls is are.only d.call d.listed);
    all = λ from to k.
        let g = k.1 in
        r.all from to
        (grind (
          arith,
          calls_in points calls (record { from = g.point.start; height = g.point.height; to = to })
              is (grind (arith, calls_all)),
        ));
  }

pub rows_none : (count : ℕ) (rows : List (List ℕ)) → count ≡ 65536 → AreEmptyRows count rows → AreRowsOf [] rows
rows_none count rows is h = grind arith

one_more : (calls : List Call) (c : Call) (from to : ℕ) → IsCalled calls from to → IsCalled (calls ++ c ∷ []) from to
one_more calls c from to k = grind (arith, common_steps)

-- one more call
pub rows_more : (calls : List Call) (c : Call) (rows : List (List ℕ)) → ((from : ℕ) → c.from ≡ At from → from < 65536)
    → AreRowsOf calls rows → AreRowsOf (calls ++ c ∷ []) (with_call rows c.from c.to)
rows_more calls c rows few h = by c.from refl
  where
    by : (s : Start) → c.from ≡ s → AreRowsOf (calls ++ c ∷ []) (with_call rows s c.to)
    by Reset e = grind (arith, common_steps, one_more)
    by (At a) e = record {
      len = length-set rows a row ∙ h.len;
      only = λ from to k. elim (same_or_not from a) [
        | inl same ↦
            let early = rw same at (h.only from to) in
            let cases = Contains-push_cases (callee_row rows a) c.to to (grind (arith, set_row)) in
            grind (arith, cases, early, one_more, Contains-push)
        | inr ne ↦ grind (arith, common_steps, h.only from to, one_more)
      ];
      all = λ from to k. elim (same_or_not from a) [
        | inl same ↦ rw (same, set_row) (grind (
          arith,
          Contains-push_cases calls c k.call k.listed,
          Contains-append_left (callee_row rows a) (c.to ∷ []) to,
          rw same at (h.all from to),
          Contains-push (callee_row rows a) c.to,
        ))
        | inr ne ↦ grind (arith, common_steps, h.all from to)
      ];
    }
      where
        row : List ℕ
        row = callee_row rows a ++ c.to ∷ []

        new : List (List ℕ)
        new = set rows a row

        set_row : callee_row new a ≡ row
        set_row = grind (arith, get_or-set_same)

pub marked_none : (count : ℕ) (marks : List Bool) → count ≡ 65536 → marks ≡ replicate count false → AreMarked [] marks
marked_none count marks is e = grind (arith, common_steps)

-- a start that is found already
pub goes_nowhere : (old : List ℕ) (a : ℕ) → Contains old a → GoesOn old (a ∷ []) old
goes_nowhere old a there = grind (arith, common_steps)

-- a new one
pub goes_one : (old : List ℕ) (a : ℕ) → GoesOn old (a ∷ []) (old ++ a ∷ [])
goes_one old a = grind (arith, Contains-push old a)

pub marked_more : (starts : List ℕ) (marks : List Bool) (a : ℕ) → a < 65536 → (Contains starts a → ⊥)
    → AreMarked starts marks → AreMarked (starts ++ a ∷ []) (set marks a true)
marked_more starts marks a few absent h =
    let inside : a < length marks = omega (arith, few, h.len) in
    let none : get_or marks a false ≡ false = grind arith in
    let sums = rw none at (sum_by-set one_unmarked marks a true false inside) in
    record {
      len = length-set marks a true ∙ h.len;
      count = omega (arith, length-append starts (a ∷ []));
      only = λ b k. grind (
        arith,
        same_or_not b a,
        Contains-push starts a,
        Contains-append_left starts (a ∷ []) b,
        h.only b,
        get_or-set_other marks a b true false,
      );
      all = λ b k. grind (
        arith,
        common_steps,
        same_or_not b a,
        get_or-set_other marks a b true false,
        Contains-push_cases starts a b k,
        h.all b,
      );
    }

-- one start more
pub goes_more : (old now new xs : List ℕ) (x : ℕ) → GoesOn old xs now → GoesOn now (x ∷ []) new
    → GoesOn old (xs ++ x ∷ []) new
goes_more old now new xs x g h = record {
  more = g.more ++ h.more;
  is = cc (append_assoc old g.more h.more);
  from = λ b k. grind (
    arith,
    Contains-append_cases g.more h.more b k,
    Contains-append_left xs (x ∷ []) b,
    g.from b,
    h.from b,
    first_or_after x [] b,
    Contains-push xs x,
  );
  all = λ b k. rw h.is
      (grind (arith, Contains-push_cases xs x b k, Contains-append_left now h.more b, g.all b, rw h.is at h.all b));
}

went_kept : (old starts new : List ℕ) → GoesOn old starts new → (a : ℕ) → Contains old a → Contains new a
went_kept old starts new g a k = rw g.is (Contains-append_left old g.more a k)

-- an element that was added
added : (old more now : List ℕ) (n : ℕ) → now ≡ old ++ more → length old ≤ n → n < length now
    → Contains more (get_or now n 0)
added old more now n is high below =
    grind (arith, common_steps, Contains-get_or more (n - length old) 0, length-append old more)

-- the walk: what it adds is led to, and whom the starts that were looked at call is found
pub record IsWalking (rows : List (List ℕ)) (from : ℕ) (old starts : List ℕ) (next : ℕ) : Type 0 where
  pub more : List ℕ
  pub is : starts ≡ old ++ more
  pub only : (a : ℕ) → Contains more a → Leads rows from a
  pub begun : HasCallees rows starts from
  pub looked : (a : ℕ) → Contains (take next starts) a → Contains old a ⊎ HasCallees rows starts a

module _ (rows : List (List ℕ)) (from : ℕ) (old : List ℕ) where
  pub walk_first : (starts : List ℕ) → GoesOn old (callee_row rows from) starts
      → IsWalking rows from old starts (length old)
  walk_first starts g = record {
    more = g.more;
    is = g.is;
    only = λ a k. Once a (g.from a k);
    begun = g.all;
    looked = λ a k.
        let same : take (length old) starts ≡ old =
        rw (g.is, take-append-le (length old) old g.more (omega arith), take_all (length old) old (omega arith)) refl in
        inl (rw same at k);
  }

  pub walk_step : (now new : List ℕ) (next : ℕ) → length old ≤ next → next < length now
      → IsWalking rows from old now next → GoesOn now (callee_row rows (get_or now next 0)) new
      → IsWalking rows from old new (next + 1)
  walk_step now new next high below w g =
      let via : ℕ = get_or now next 0 in
      let front : take (next + 1) new ≡ take next now ++ via ∷ [] =
      rw (g.is, take-append-le (next + 1) now g.more (omega (arith, below)), take_more now next 0 below) refl in
      record {
        more = w.more ++ g.more;
        is = cc (append_assoc old w.more g.more);
        only = λ a k.
            let before = w.only via (added old w.more now next w.is high below) in
            grind (arith, Contains-append_cases w.more g.more a k, w.only a, Over via a before, g.from a);
        begun = λ a k. went_kept now (callee_row rows via) new g a (w.begun a k);
        looked = λ a k. elim (Contains-push_cases (take next now) via a (rw front at k)) [
          | inl early ↦ elim (w.looked a early) [
            | inl before ↦ inl before
            | inr all ↦ inr (λ b m. went_kept _ _ _ g b (all b m))
          ]
          | inr here ↦ inr (rw (← here) g.all)
        ];
      }

  pub walk_done : (starts : List ℕ) (next : ℕ) → length starts ≤ next → IsWalking rows from old starts next
      → Walks rows from old starts
  walk_done starts next done w = record {
    more = w.more;
    is = w.is;
    only = w.only;
    begun = w.begun;
    closed = λ a k. w.looked a (rw (take_all next starts done) k);
  }

  module _ (new : List ℕ) (w : Walks rows from old new) where
    -- what the rows lead to is found, where what was found before is closed
    pub led_found : IsClosed rows old → (a : ℕ) → Leads rows from a → Contains new a
    led_found closed _ (Once a called) = w.begun a called
    led_found closed _ (Over via a before called) =
        elim (w.closed via (led_found closed via before)) [
          | inl early ↦ rw w.is (Contains-append_left old w.more a (closed via early a called))
          | inr here ↦ here a called
        ]

    -- where nothing is added, a start that is new does not call itself
    pub alone : IsClosed rows old → (Contains old from → ⊥) → length new ≡ length old → Leads rows from from → ⊥
    alone closed fresh same h =
        grind (
          arith,
          common_steps,
          Contains-append_cases old w.more from
              (rw w.is at (led_found closed from h)),
        )

    -- and with the start itself it is closed again
    pub closed_again : (after : List ℕ) → IsClosed rows old → GoesOn new (from ∷ []) after → IsClosed rows after
    closed_again after closed g a k b called =
        went_kept _ _ _ g b (elim (Contains-append_cases new g.more a (rw g.is at k)) [
          | inl before ↦
              let early = rw (← w.is) at (Contains-append_left old w.more b) in
              grind (arith, w.closed a before, early, closed a)
          | inr last ↦ grind (arith, none_in_empty, g.from a last)
        ])

-- a walk from nothing finds what the rows lead to
pub walk_finds : (rows : List (List ℕ)) (from : ℕ) (new : List ℕ) → Walks rows from [] new → (a : ℕ)
    → Contains new a ↔ Leads rows from a
walk_finds rows from new w a = (
  λ k. w.only a (rw w.is at k),
  λ h. led_found rows from [] new w (λ b k. absurd (none_in_empty b k)) a h,
)

-- one more start, which is marked if it is clear
pub cleared_more : (rows : List (List ℕ)) (cleared : List Bool) (start : ℕ) (is_clear : Bool) → start < 65536
    → (is_clear ≡ true → Leads rows start start → ⊥) → AreCleared rows cleared
    → AreCleared rows (with_clear cleared start is_clear)
cleared_more rows cleared start is_clear few apart h = grind (arith, common_steps)

pub cleared_none : (rows : List (List ℕ)) (count : ℕ) (cleared : List Bool) → count ≡ 65536
    → cleared ≡ replicate count false → AreCleared rows cleared
cleared_none rows count cleared is e = grind (arith, common_steps)

-- the rows of a program lead from a start to those that it calls, directly or through others
module _ (l : LayoutParts) (image : List ℕ) (rows : List (List ℕ)) (are : AreCallRows l image rows) where
  pub leads_from : (from to : ℕ) → CallsThrough l image (At from) to → Leads rows from to
  leads_from from _ (Direct to h) = Once to (are.all from to h)
  leads_from from _ (Through via to h k) = Over via to (leads_from from via h) (are.all via to k)

  pub through_from : (from to : ℕ) → Leads rows from to → CallsThrough l image (At from) to
  through_from from _ (Once to h) = Direct to (are.only from to h)
  through_from from _ (Over via to h k) = Through via to (through_from from via h) (are.only via to k)
