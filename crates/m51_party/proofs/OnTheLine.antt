-- All boards on the line: what one passes to another, what is written, and what is still to be written.
use Rattle.std.proofs.lemmas.Grind.{common_steps}
use Rattle.m51_party.proofs.Common.{◌≡◌, ℕ, zero, suc, ◌+◌, ◌≤◌, ◌<◌, ◌⊎◌, inl, inr, Bool, List, [], ◌∷◌, ◌++◌, length}
use Rattle.m51_party.proofs.Common.{Some, None, refl, sym, ◌∙◌, arith, append_assoc, zero-add, flat_map, option_to_list}
use Rattle.m51_party.proofs.Common.{slice_get, slice_set, if◌then◌else◌, ne_eqb, none-some, same_Some, Timed, Told}
use Rattle.m51_party.proofs.Common.{frames_in, inputs_of, Record, separate_of, Separate, NextStep, Seat, Family}
use Rattle.m51_party.proofs.Common.{frames_for, frames_sent, IsSeatStep, kept_for, next_from, start_of, told_text}
use Rattle.m51_party.proofs.Common.{StepTold, greatest_cycle, last_lines, Every}
use Rattle.std.proofs.Common.{take}
use Rattle.std.proofs.lemmas.Bool.{eq-eqb}
use Rattle.std.specs.Prelude.{slice_index_or}
use Rattle.m51_cells.proofs.Members.{every_both, every_in, got_in}
use Rattle.m51_sim.specs.Cycles.{AreFew}
use Rattle.m51_party.specs.Report.{boards_of}
use Rattle.m51_party.specs.Seats.{IsStepAt, is_going, kept_from, sent_to}
use Rattle.m51_party.proofs.Cycles.{joined_same}
use Rattle.m51_party.proofs.Merging.{AllFrom, From, Takes, before, first_taken, takes_here, takes_later}
use Rattle.m51_party.proofs.NextBoard.{AllStartFrom, IsNextAt, StartsFrom, next_found}
use Rattle.m51_party.proofs.One.{step_within}
use Rattle.m51_party.proofs.UnderWay.{IsStepped, IsUnderWay, TakesFirst, TakesNone, cycle_few, last_later, rest_late}
use Rattle.m51_party.proofs.UnderWay.{rest_of, sent_agrees, start_in, starting, step_text, stepped}

-- each board has performed some steps of its record, where the first has this index
abbrev pub AllUnderWay : ℕ → ℕ → Family → Family → List Seat → Type 0
AllUnderWay at n family [] [] = Unit {0}
AllUnderWay at n family [] (s ∷ ss) = ⊥
AllUnderWay at n family (r ∷ rs) [] = ⊥
AllUnderWay at n family (r ∷ rs) (s ∷ ss) = IsUnderWay (frames_for at family) n r s
    × AllUnderWay (suc at) n family rs ss

-- none has come further than four cycles after this one, and none starts a step before it
abbrev pub IsClose : ℕ → ℕ → Seat → Type 0
IsClose n least s = (s.board.chip.cycle ≤ least + 4) × StartsFrom least (start_of n s)

abbrev pub AllClose : ℕ → ℕ → List Seat → Type 0
AllClose n least ss = Every (IsClose n least) ss

-- what was sent last is what arrives from these records in a cycle
module _ (n : ℕ) (few : n ≤ 10000000) (family : Family) (least now : ℕ) (after : least < now) (below : now ≤ least + 4)
  where
    others_agree : (at index : ℕ) (rs : Family) (ss : List Seat) → index < at → AllUnderWay at n family rs ss
        → AllClose n least ss → frames_in now (kept_from at index ss) ≡ frames_in now (flat_map frames_sent rs)
    others_agree at index [] [] less h c = refl
    others_agree at index (r ∷ rs) (s ∷ ss) less h c = joined_same now (option_to_list (sent_to at index s)) _ _ _
        (cc (
          ne_eqb at index (λ e. omega (arith, e, less)),
          sent_agrees n few (frames_for at family) r s h.0 least now after below c.0.0 c.0.1,
        ))
        (others_agree (suc at) index rs ss (omega (arith, less)) h.1 c.1)
    others_agree at index rs ss less h c = absurd h

    kept_agree : (at index more : ℕ) (rs : Family) (ss : List Seat) → index ≡ at + more → AllUnderWay at n family rs ss
        → AllClose n least ss → frames_in now (kept_from at index ss) ≡ frames_in now (frames_for more rs)
    kept_agree at index more [] [] is h c = refl
    kept_agree at index zero (r ∷ rs) (s ∷ ss) is h c =
        cc (eq-eqb at index (omega (arith, is)), others_agree (suc at) index rs ss (omega (arith, is)) h.1 c.1)
    kept_agree at index (suc more) (r ∷ rs) (s ∷ ss) is h c =
        joined_same now (option_to_list (sent_to at index s)) _ _ _
        (cc (
          ne_eqb at index (λ e. omega (arith, e, is)),
          sent_agrees n few (frames_for at family) r s h.0 least now after below c.0.0 c.0.1,
        ))
        (kept_agree (suc at) index more rs ss (omega (arith, is)) h.1 c.1)
    kept_agree at index more rs ss is h c = absurd h

-- it is few
length_frames : (now : ℕ) (ts : List Timed) → length (frames_in now ts) ≤ length ts
length_frames now [] = omega arith
length_frames now (t ∷ ts) = grind (arith, common_steps, length_frames now ts)

length_kept : (at index : ℕ) (ss : List Seat) → length (kept_from at index ss) ≤ length ss
length_kept at index [] = omega arith
length_kept at index (s ∷ ss) = grind (arith, common_steps, length_kept (suc at) index ss)

length_fewer : (at index more : ℕ) (ss : List Seat) → index ≡ at + more → more < length ss
    → suc (length (kept_from at index ss)) ≤ length ss
length_fewer at index more [] is below = absurd (omega (arith, below))
length_fewer at index zero (s ∷ ss) is below =
    rw (eq-eqb at index (omega (arith, is))) (omega (arith, length_kept (suc at) index ss))
length_fewer at index (suc more) (s ∷ ss) is below = grind (
  arith,
  common_steps,
  length_fewer (suc at) index more ss (omega (arith, is)) (omega (arith, below)),
)

pub kept_are_few : (index : ℕ) (ss : List Seat) → index < length ss → length ss ≤ 8 → AreFew (kept_for index ss)
kept_are_few index ss below few = record {
  each = λ cycle. omega (
    arith,
    length_fewer 0 index index ss (sym (zero-add index)) below,
    length_frames cycle (kept_for index ss),
  );
}

-- the steps that are still to come of each, their lines, and the last lines
abbrev pub rests_from : ℕ → ℕ → Family → List Seat → List (List StepTold)
rests_from at n family [] = []
rests_from at n family (s ∷ ss) = rest_of n (frames_for at family) s ∷ rests_from (suc at) n family ss

abbrev pub lines_to_come : ℕ → Family → List Seat → List ℕ
lines_to_come n family ss = before start_in step_text (greatest_cycle family + 1) (rests_from 0 n family ss)

abbrev pub text_to_come : ℕ → Family → List Seat → List ℕ
text_to_come n family ss = lines_to_come n family ss ++ last_lines 0 (boards_of ss) family

all_late : (at n least : ℕ) (family rs : Family) (ss : List Seat) → n ≤ 10000000 → AllUnderWay at n family rs ss
    → AllStartFrom n least ss → AllFrom start_in step_text least (rests_from at n family ss)
all_late at n least family [] [] few h c = tt
all_late at n least family (r ∷ rs) (s ∷ ss) few h c =
    (rest_late n few (frames_for at family) r s h.0 least c.0, all_late (suc at) n least family rs ss few h.1 c.1)
all_late at n least family rs ss few h c = absurd h

-- One board of them, and the others with another state of it: they are under way too, the last lines stay, and of the
-- steps to come the first is taken off, or they stay.
pub record HasBoard (at n : ℕ) (family rs : Family) (index number : ℕ) (ss : List Seat) (s : Seat) : Type 0 where
  pub record_is : Record Separate
  pub way : IsUnderWay (frames_for number family) n record_is s
  pub within : record_is.last.cycle ≤ greatest_cycle rs
  pub set : (new : Seat) → IsUnderWay (frames_for number family) n record_is new
      → AllUnderWay at n family rs (slice_set ss index new)
  pub ends : (new : Seat) → new.board.monitor.layout ≡ s.board.monitor.layout
      → last_lines at (boards_of ss) rs ≡ last_lines at (boards_of (slice_set ss index new)) rs
  pub takes : (new : Seat) (cycle : ℕ) (step : StepTold)
      → rest_of n (frames_for number family) s ≡ step ∷ rest_of n (frames_for number family) new
      → step.start ≡ cycle → From start_in step_text cycle (rest_of n (frames_for number family) new)
      → AllStartFrom n (suc cycle) (take index ss) → AllStartFrom n cycle ss
      → Takes start_in step_text at number cycle step (rests_from at n family ss)
      (rests_from at n family (slice_set ss index new))
  pub stay : (new : Seat) → rest_of n (frames_for number family) s ≡ rest_of n (frames_for number family) new
      → rests_from at n family ss ≡ rests_from at n family (slice_set ss index new)

board_at : (at n : ℕ) (family rs : Family) (index number : ℕ) (ss : List Seat) (s : Seat) → n ≤ 10000000
    → number ≡ at + index → slice_get ss index ≡ Some s → AllUnderWay at n family rs ss
    → HasBoard at n family rs index number ss s
board_at at n family rs index number [] s few is e h = absurd (none-some s e)
board_at at n family [] index number (x ∷ xs) s few is e h = absurd h
board_at at n family (r ∷ rs) zero number (x ∷ xs) s few is e h =
    let here : number ≡ at = omega (arith, is) in
    rw (here, ← same_Some x s e) (record {
      record_is = r;
      way = h.0;
      within = omega arith;
      set = λ new way. (way, h.1);
      ends = λ new same. cc;
      takes = λ new cycle step first start from earlier all. rw first (takes_here start_in step_text at cycle step
          (rest_of n (frames_for at family) new) (rests_from (suc at) n family xs) start from
          (all_late (suc at) n cycle family rs xs few h.1 all.1));
      stay = λ new same. cc;
    })
board_at at n family (r ∷ rs) (suc index) number (x ∷ xs) s few is e h =
    let b = board_at (suc at) n family rs index number xs s few (omega (arith, is)) e h.1 in
    record {
      record_is = b.record_is;
      way = b.way;
      within = omega (arith, b.within);
      set = λ new way. (h.0, b.set new way);
      ends = λ new same. cc (b.ends new same);
      takes = λ new cycle step first start from earlier all. takes_later start_in step_text at number cycle step
          (rest_of n (frames_for at family) x) _ _
          (rest_late n few (frames_for at family) r x h.0 (suc cycle) earlier.0)
          (b.takes new cycle step first start from earlier.1 all.1);
      stay = λ new same. cc (b.stay new same);
    }

every_set : (P : Seat → Type 0) (index : ℕ) (ss : List Seat) (new : Seat) → Every P ss → P new
    → Every P (slice_set ss index new)
every_set P index [] new h p = tt
every_set P zero (s ∷ ss) new h p = (p, h.1)
every_set P (suc index) (s ∷ ss) new h p = (h.0, every_set P index ss new h.1 p)

start_by : (b : Bool) (least cycle : ℕ) → least ≤ cycle → StartsFrom least (if b then Some cycle else None)
start_by b least cycle h = grind (arith, common_steps)

-- a board starts no step before the cycle that it has reached
pub start_late : (n least : ℕ) (s : Seat) → least ≤ s.board.chip.cycle → StartsFrom least (start_of n s)
start_late n least s h = start_by (is_going n s) least s.board.chip.cycle h

-- each has performed some steps of its record, and none is more than four cycles ahead of one that continues
pub record AreGoing (n : ℕ) (family : Family) (ss : List Seat) : Type 0 where
  pub all : AllUnderWay 0 n family family ss
  pub least : ℕ
  pub close : AllClose n least ss

-- after a step they are under way as before, and its lines are no longer to come
pub record Advances (n : ℕ) (family : Family) (index : ℕ) (told : Told) (olds news : List Seat) : Type 0 where
  pub going : AreGoing n family news
  pub text : text_to_come n family olds ≡ told_text index told ++ text_to_come n family news

module _ (n : ℕ) (family : Family) (seats : List Seat) (few : n ≤ 10000000) (going : AreGoing n family seats)
    (c : NextStep) (chosen : next_from n 0 seats ≡ Some c) (told : Told) (old new : Seat)
    (found : slice_get seats c.index ≡ Some old) (step : IsSeatStep (kept_for c.index seats) told old new) where
  next : IsNextAt n c.index c.cycle seats
  next = next_found n c seats chosen

  starts : start_of n old ≡ Some c.cycle
  starts = rw (same_Some next.seat old (sym next.found ∙ found)) at next.starts

  -- the next board starts no earlier than those that were stepped before
  close : AllClose n c.cycle seats
  close =
      let one = every_in (IsClose n going.least) seats old going.close (got_in seats c.index old found) in
      let least : going.least ≤ c.cycle = rw starts at one.1 in
      every_both (IsClose n going.least) (λ s. StartsFrom c.cycle (start_of n s)) (IsClose n c.cycle) seats
      (λ s h k. (omega (arith, h.0, least), k)) going.close next.all

  board : HasBoard 0 n family family c.index c.index seats old
  board = board_at 0 n family family c.index c.index seats old few (sym (zero-add c.index)) found going.all

  moved : IsStepped c.index n (frames_for c.index family) board.record_is told old new
  moved =
      let at = starting n c.cycle old starts in
      stepped c.index n (frames_for c.index family) (kept_for c.index seats) board.record_is told old new board.way
      few step at.below
      (step_within old.board.monitor.layout old.board.chip.image (inputs_of old.board.chip.script)
      (kept_for c.index seats) (frames_for c.index family) (separate_of old.board)
      (cycle_few n few (frames_for c.index family) board.record_is old board.way)
      (λ now h k. kept_agree n few family c.cycle now (omega (arith, h, at.cycle_is)) (omega (arith, k, at.cycle_is)) 0
      c.index c.index family seats (sym (zero-add c.index)) going.all close))

  lines_by : TakesFirst c.index old.board.chip.cycle (told_text c.index told)
      (rest_of n (frames_for c.index family) old) (rest_of n (frames_for c.index family) new)
      ⊎ TakesNone (told_text c.index told) (rest_of n (frames_for c.index family) old)
      (rest_of n (frames_for c.index family) new)
      → lines_to_come n family seats ≡ told_text c.index told ++ lines_to_come n family (slice_set seats c.index new)
  lines_by (inl t) =
      let at = (starting n c.cycle old starts).cycle_is in
      let last = last_later n few (frames_for c.index family) board.record_is old board.way in
      let late = start_late n c.cycle new (omega (arith, moved.later, at)) in
      cc (
        t.lines,
        first_taken start_in step_text c.index c.cycle (greatest_cycle family + 1) t.step
            (rests_from 0 n family seats) (rests_from 0 n family (slice_set seats c.index new)) (board.takes new c.cycle
            t.step t.first (t.start ∙ at) (rest_late n few (frames_for c.index family) board.record_is new moved.way
            c.cycle late) next.earlier next.all) (omega (arith, at, last, board.within)),
      )
  lines_by (inr t) = cc (t.lines, board.stay new t.same)

  advances_one : Advances n family c.index told seats (slice_set seats c.index new)
  advances_one =
      let at = (starting n c.cycle old starts).cycle_is in
      let near : IsClose n c.cycle new =
      (omega (arith, moved.most, at), start_late n c.cycle new (omega (arith, moved.later, at))) in
      record {
        going = record {
          all = board.set new moved.way;
          least = c.cycle;
          close = every_set (IsClose n c.cycle) c.index seats new close near;
        };
        text = cc (
          lines_by moved.lines,
          board.ends new step.layout,
          append_assoc (told_text c.index told) (lines_to_come n family (slice_set seats c.index new))
              (last_lines 0 (boards_of (slice_set seats c.index new)) family),
        );
      }

pub advances : (n : ℕ) (family : Family) (seats news : List Seat) (c : NextStep) (told : Told) → n ≤ 10000000
    → AreGoing n family seats → next_from n 0 seats ≡ Some c → IsStepAt c.index told seats news
    → Advances n family c.index told seats news
advances n family seats news c told few going chosen h =
    rw h.others (advances_one n family seats few going c chosen told h.old h.new h.found h.step)

-- the board that is read at an index
pub seat_read : (ss : List Seat) (index : ℕ) (d : Seat) → index < length ss
    → slice_get ss index ≡ Some (slice_index_or ss index d)
seat_read [] index d below = absurd (omega (arith, below))
seat_read (s ∷ ss) index d below = grind (arith, common_steps, seat_read ss)
