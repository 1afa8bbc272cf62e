-- Depths that are raised until no call gives more.
use Rattle.m51_stackbound.proofs.Common.{◌≡◌, ◌<◌, ◌≤◌, ◌+◌, ℕ, Bool, true, false, List, [], length, get_or, take}
use Rattle.m51_stackbound.proofs.Common.{replicate, arith, inl, inr, Option, Some, Contains, common_steps}
use Rattle.m51_stackbound.proofs.Common.{get_or-set_same, get_or-set_other, length-set, Instr, LayoutParts, Point}
use Rattle.m51_stackbound.proofs.Common.{Start, At, IsCyclic, cap, depth_in, IsClimbing, Raises, IsRaised, AreSettled}
use Rattle.m51_stackbound.proofs.Common.{CallsAt, CallsThrough, HasHeight, Takes, Own, call_of, entry_at, IsPoint}
use Rattle.m51_stackbound.proofs.Common.{After, rank, ArePoints}
use Rattle.std.proofs.Common.{◌||◌, sum}
use Rattle.m51_cells.proofs.ListsAndOptions.{sum_most}
use Rattle.m51_stackbound.specs.declared.calls.Call.{Call as StartCall}
use Rattle.m51_stackbound.specs.Callers.{AreCallsOf}
use Rattle.m51_stackbound.specs.Climb.{depth_by, TakesDepth, AreTaken, IsBlank, SaysDepth}
use Rattle.m51_stackbound.specs.Depths.{Calls, Direct, Through, Call}
use Rattle.m51_stackbound.specs.Instructions.{is_call}
use Rattle.m51_stackbound.specs.Points.{call_by, ends_at, follow_by, instruction, pops_below, pushes_above, sets_stack}
use Rattle.m51_stackbound.proofs.CallRows.{calls_all, calls_in}
use Rattle.m51_stackbound.proofs.Leasts.{front_cases}

pub blank : (count : ℕ) (depths : List ℕ) → count ≡ 65537 → depths ≡ replicate count 0 → IsBlank depths
blank count depths is e = grind (arith, common_steps)

-- a call does not end its point
pub call_goes : (p : Point) (instr : Instr) → is_call instr ≡ true → ends_at p instr ≡ false
unfolding ends_at sets_stack pops_below pushes_above
call_goes p instr h = grind arith

-- the successors of a call whose target counts begin with the start that it enters
pub call_enters : (l : LayoutParts) (p : Point) (to : ℕ) (o : Option Instr) → call_by l p o ≡ Some to
    → Contains (follow_by l p o) (entry_at to)
unfolding call_by follow_by
call_enters l p to o h = grind (arith, call_goes)

pub rank_same : (s t : Start) → rank s ≡ rank t → s ≡ t
rank_same s t e = grind arith

at_most : (depth n : ℕ) → depth ≤ 255 → cap n ≤ depth → n ≤ depth
at_most depth n few h = grind (arith, few, h)

at_zero : (n depth : ℕ) → cap n ≤ depth → depth ≡ 0 → n ≡ 0
at_zero n depth h none = grind (arith, h, none)

module _ (l : LayoutParts) (image : List ℕ) where
  pub taken_first : (depths : List ℕ) → IsBlank depths → AreTaken l image depths
  taken_first depths b = grind (arith, common_steps)

  pub sum_few : (depths : List ℕ) → AreTaken l image depths → sum depths ≤ 16777472
  sum_few depths h = omega (arith, sum_most 256 depths h.most)

  -- the start that a point calls has a point of height 0
  pub entered : (p : Point) (to : ℕ) → IsPoint l image p → call_of l image p ≡ Some to → HasHeight l image (At to) 0
  entered p to is h = grind (arith, After p (entry_at to) is (call_enters l p to (instruction l image p.address) h))

  height_taken : (p : Point) → IsPoint l image p → p.height ≤ 255 → TakesDepth l image p.start p.height
  height_taken p is few = record {
    path = [];
    bytes = p.height;
    takes = Own p.start p.height (grind arith);
    depth_is = omega (arith, few);
  }

  -- what a start takes by a call
  call_taken : (depths : List ℕ) (c : StartCall) → CallsAt l image c.from c.height c.to → AreTaken l image depths
      → TakesDepth l image c.from (depth_by depths c)
  call_taken depths c call are =
      elim (are.taken (At c.to)) [
        | inl none ↦ grind (
          arith,
          Call c.from c.height c.to [] 0 call
              (Own (At c.to) 0 (entered call.point c.to call.is_point call.calls)),
        )
        | inr t ↦ grind (arith, Call c.from c.height c.to t.path t.bytes call t.takes)
      ]

  -- one depth is raised
  raised : (old new : List ℕ) (start : Start) (depth : ℕ) (rose : Bool) → rank start < length old → depth ≤ 256
      → AreTaken l image old → TakesDepth l image start depth → Raises start depth old new rose → AreTaken l image new
  raised old new start depth rose below few are taken h =
      grind (arith, length-set, rank_same, get_or-set_same, get_or-set_other, rank)

  -- no depth is less then, and that of the start is as much as this
  record HasRisen (old new : List ℕ) (start : Start) (depth : ℕ) (rose : Bool) : Type 0 where
    pub are : AreTaken l image new
    pub each : (s : Start) → depth_in old s ≤ depth_in new s
    pub own : depth ≤ depth_in new start
    pub more : rose ≡ true → sum old < sum new

  has_risen : (old new : List ℕ) (start : Start) (depth : ℕ) (rose : Bool) → rank start < length old → depth ≤ 256
      → AreTaken l image old → TakesDepth l image start depth → Raises start depth old new rose
      → HasRisen old new start depth rose
  has_risen old new start depth false below few are taken h = grind arith
  has_risen old new start depth true below few are taken h =
      grind (arith, common_steps, raised old new start depth true below few are taken h)

  pub climbing_none : (depths : List ℕ) → AreTaken l image depths → IsClimbing l image [] depths
  climbing_none depths are = grind arith

  -- the next point
  pub climbing_next : (points : List Point) (i : ℕ) (d : Point) (now new : List ℕ) (up : Bool) → i < length points
      → rank (get_or points i d).start < length now
      → IsPoint l image (get_or points i d) → (get_or points i d).height ≤ 255 → IsClimbing l image (take i points) now
      → Raises (get_or points i d).start (get_or points i d).height now new up
      → IsClimbing l image (take (i + 1) points) new
  climbing_next points i d now new up below inside is few h raises =
      let p = get_or points i d in
      let r = has_risen now new p.start p.height up inside (omega (arith, few)) h.are (height_taken p is few) raises in
      record {
        are = r.are;
        own = λ q k. grind (arith, front_cases points i d q below k);
      }

  -- by no calls
  pub raised_none : (depths : List ℕ) → AreTaken l image depths → IsRaised l image [] depths depths false
  raised_none depths are = grind arith

  -- the next call
  pub raised_next : (calls : List StartCall) (i : ℕ) (d : StartCall) (old now new : List ℕ) (rose up : Bool)
      → i < length calls → rank (get_or calls i d).from < length now
      → CallsAt l image (get_or calls i d).from (get_or calls i d).height (get_or calls i d).to
      → IsRaised l image (take i calls) old now rose
      → Raises (get_or calls i d).from (depth_by now (get_or calls i d)) now new up
      → IsRaised l image (take (i + 1) calls) old new (up || rose)
  raised_next calls i d old now new rose true below inside is h up =
      let c = get_or calls i d in
      let r = has_risen now new c.from (depth_by now c) true inside (omega arith) h.are (call_taken now c is h.are)
      up in
      grind arith
  raised_next calls i d old now new rose false below inside is h up =
      rw up.1 (record {
        are = h.are;
        grown = h.grown;
        high = λ e q k. grind (arith, front_cases calls i d q below k);
        not_less = h.not_less;
        more = h.more;
      })

  -- where no call raises a depth, the table is settled
  pub climbed : (points : List Point) (calls : List StartCall) (old new : List ℕ) → AreCallsOf l image points calls
      → IsClimbing l image points old → IsRaised l image calls old new false
      → AreSettled l image points new
  climbed points calls old new is h r = grind (arith, calls_in l image points calls)

  module _ (points : List Point) (depths : List ℕ) (are : ArePoints l image points)
      (s : AreSettled l image points depths) where
    pub settled_own : (start : Start) (height : ℕ) → HasHeight l image start height → cap height ≤ depth_in depths start
    settled_own start height h = grind arith

    -- so it is of a call of the program, which is in the list of calls
    of_call : (start : Start) (height to : ℕ) → CallsAt l image start height to
        → depth_by depths (record { from = start; height = height; to = to }) ≤ depth_in depths start
    of_call start height to c =
        let listed = calls_all l image points c.point to (are.all c.point c.is_point) c.calls in
        grind (arith, s.calls (record { from = c.point.start; height = c.point.height; to = to }) listed)

    pub settled_call : (start : Start) (height to bytes : ℕ) → CallsAt l image start height to
        → cap bytes ≤ depth_in depths (At to) → cap (height + 2 + bytes) ≤ depth_in depths start
    settled_call start height to bytes c below =
        omega (arith, below, of_call start height to c)

    -- what a start takes is no more than its depth in a settled table, where that is at most 255
    pub takes_most : (start : Start) (path : List Start) (bytes : ℕ) → Takes l image start path bytes
        → cap bytes ≤ depth_in depths start
    takes_most start _ bytes (Own _ _ h) = settled_own _ _ h
    takes_most start _ _ (Call _ height to more bytes c rest) =
        settled_call _ _ _ _ c (takes_most (At to) more bytes rest)

    -- a settled table says the depth of each start, or that it is above 255
    pub settled_says : (start : Start) (height : ℕ) → HasHeight l image start height
        → SaysDepth l image start (depth_in depths start)
    settled_says start height h = grind (arith, s.are.taken start, at_zero, Own, at_most, depth_in, takes_most)

    -- a start whose depth is not above 255 is deeper than each that it calls, directly or through others
    calls_less : (start : Start) (to : ℕ) → depth_in depths start ≤ 255 → Calls l image start to
        → depth_in depths (At to) < depth_in depths start
    calls_less start to low (height, c) = omega (arith, low, of_call start height to c)

    through_less : (start : Start) (to : ℕ) → depth_in depths start ≤ 255 → CallsThrough l image start to
        → depth_in depths (At to) < depth_in depths start
    through_less start _ low (Direct to h) = calls_less start _ low h
    through_less start _ low (Through via to h k) =
        let before = through_less start via low h in
        omega (arith, calls_less (At via) _ (omega (arith, low, before)) k)

    -- so it does not call itself
    pub low_not_cyclic : (start : Start) → depth_in depths start ≤ 255 → IsCyclic l image start → ⊥
    low_not_cyclic start low h = grind (arith, through_less)
