-- The run of the boards on a line: its start, each step of its loop, and its end.
use Rattle.std.proofs.lemmas.Grind.{common_steps}
use Rattle.m51_party.proofs.Common.{◌≡◌, ℕ, zero, suc, ◌+◌, ◌-◌, ◌≤◌, ◌<◌, List, [], ◌∷◌, ◌++◌, length, Option, Some}
use Rattle.m51_party.proofs.Common.{None, OnErr, Result, refl, sym, subst, ◌∙◌, arith, append_assoc, All, nat_lt}
use Rattle.m51_party.proofs.Common.{slice_get, slice_set, if◌then◌else◌, Appends, none-some, same_Some, AppendsFront}
use Rattle.m51_party.proofs.Common.{Event, Told, BoardState, Record, Separate, NextStep, Seat, Family, IsFamily}
use Rattle.m51_party.proofs.Common.{IsFresh, frames_for, records_from, HasEventText, ends_text, new_seat, next_from}
use Rattle.m51_party.proofs.Common.{told_text, head_text, greatest_cycle, last_lines, front_at_end, Every}
use Rattle.std.proofs.Common.{map}
use Rattle.std.specs.List.{list_any}
use Rattle.std.specs.Prelude.{is_none, is_some, ◌&&◌}
use Rattle.std.proofs.KnownBytes.{Appends-nil, Appends-trans}
use Rattle.std.proofs.lemmas.List.{length-map}
use Rattle.std.proofs.lemmas.Option.{slice_get_within}
use Rattle.m51_cells.proofs.Fronts.{front_more}
use Rattle.m51_cells.proofs.Members.{all_every, every_all, every_map, every_weaker, total}
use Rattle.m51_sim.specs.declared.runs.Step.{Step}
use Rattle.m51_sim.specs.Run.{stopped_by}
use Rattle.m51_party.specs.Report.{IsPartyOf, boards_of}
use Rattle.m51_party.specs.Seats.{IsStepAt, count_of}
use Rattle.m51_party.specs.Steps.{AllCut, AllFront, AllStepped}
use Rattle.m51_party.specs.Text.{lines_at, lines_before, party_text}
use Rattle.m51_party.proofs.Merging.{AllEmpty, at_cycle, all_over, before}
use Rattle.m51_party.proofs.Fronts.{on_error}
use Rattle.m51_party.proofs.NextBoard.{NoneStarts, next_found, none_found}
use Rattle.m51_party.proofs.One.{exactly_one}
use Rattle.m51_party.proofs.OnTheLine.{AllUnderWay, AreGoing, IsClose, advances, rests_from, start_late, text_to_come}
use Rattle.m51_party.proofs.SameBoards.{seats_boards}
use Rattle.m51_party.proofs.UnderWay.{at_end, start_in, starting, step_text, under_way_first}

-- ---- boards that were not stepped are at the start of their records

all_start : (at n : ℕ) (family : Family) (bs : List BoardState) → Every IsFresh bs
    → AllUnderWay at n family (records_from at bs n family) (map new_seat bs)
all_start at n family [] fresh = tt
all_start at n family (b ∷ bs) fresh =
    (under_way_first n (frames_for at family) b fresh.0, all_start (suc at) n family bs fresh.1)

close_start : (n : ℕ) (b : BoardState) → IsFresh b → IsClose n 0 (new_seat b)
close_start n b fresh =
    let is : b.chip.cycle ≡ 0 = λ i. (fresh.state i).cycle in
    (omega (arith, is), start_late n 0 (new_seat b) (omega arith))

going_start : (n : ℕ) (family : Family) (bs : List BoardState) → All IsFresh bs → IsFamily bs n family
    → AreGoing n family (map new_seat bs)
going_start n family bs fresh is =
    let each = all_every IsFresh bs fresh in
    record {
      all = subst (λ (rs : Family). AllUnderWay 0 n family rs (map new_seat bs)) (sym is)
          (all_start 0 n family bs each);
      least = 0;
      close = every_map new_seat (IsClose n 0) bs (every_weaker IsFresh _ bs (close_start n) each);
    }

lines_same : (cycle at n : ℕ) (family : Family) (bs : List BoardState)
    → lines_at cycle at bs n family ≡ at_cycle start_in step_text cycle at (rests_from at n family (map new_seat bs))
lines_same cycle at n family [] = refl
lines_same cycle at n family (b ∷ bs) = grind (arith, common_steps, lines_same cycle (suc at) n family bs)

before_same : (cycle n : ℕ) (family : Family) (bs : List BoardState)
    → lines_before cycle bs n family ≡ before start_in step_text cycle (rests_from 0 n family (map new_seat bs))
before_same zero n family bs = refl
before_same (suc cycle) n family bs = cc (before_same cycle n family bs, lines_same cycle 0 n family bs)

-- their text is the first line, and what is to come
text_of : (olds : List Seat) (n : ℕ) (boards : List BoardState) (family : Family) → IsPartyOf boards olds
    → party_text boards n family ≡ head_text (length boards) ++ text_to_come n family olds
unfolding party_text
text_of olds n boards family party = rw (
  party.seats,
  seats_boards boards,
  ← before_same (greatest_cycle family + 1) n
      family boards,
) (append_assoc (head_text (length boards)) _ _)

-- ---- at the end only the last lines are to come, and a record has an event where its board was stopped

record AreEnded (at n : ℕ) (family rs : Family) (ss : List Seat) : Type 0 where
  rests : AllEmpty start_in step_text (rests_from at n family ss)
  lines : last_lines at (boards_of ss) rs ≡ ends_text at ss
  events : list_any (λ (r : Record Separate). is_some r.event) rs ≡ list_any (λ (s : Seat). is_some s.event) ss

ended : (at n : ℕ) (family rs : Family) (ss : List Seat) → n ≤ 10000000 → AllUnderWay at n family rs ss
    → NoneStarts n ss → AreEnded at n family rs ss
ended at n family [] [] few h none = record { rests = tt; lines = refl; events = refl }
ended at n family (r ∷ rs) (s ∷ ss) few h none =
    let end = at_end n few (frames_for at family) r s h.0 none.0 in
    let steps : s.steps + 0 ≡ s.steps = omega arith in
    let more = ended (suc at) n family rs ss few h.1 none.1 in
    let event : r.event ≡ s.event = cc (h.0.is, end.record_is) in
    record {
      rests = (end.rest, more.rests);
      lines = cc (h.0.is, end.record_is, steps, more.lines);
      events = cc (event, more.events);
    }
ended at n family rs ss few h none = absurd h

texts_of : (at n : ℕ) (family rs : Family) (ss : List Seat) → AllUnderWay at n family rs ss → Every HasEventText ss
texts_of at n family [] [] h = tt
texts_of at n family (r ∷ rs) (s ∷ ss) h = (h.0.text, texts_of (suc at) n family rs ss h.1)
texts_of at n family rs ss h = absurd h

-- ---- in between: the lines so far are written, and the others are to come

pub record InProgress (n : ℕ) (family : Family) (olds : List Seat) (before now : Option (List ℕ))
    (seats : List Seat) : Type 0 where
  pub going : AreGoing n family seats
  pub lines : List ℕ
  pub written : Appends before now lines
  pub text : text_to_come n family olds ≡ lines ++ text_to_come n family seats

abbrev pub AllInProgress : List Seat → ℕ → Option (List ℕ) → Option (List ℕ) → List Seat → Type 0
AllInProgress olds n before now seats =
    (boards : List BoardState) (family : Family) → IsPartyOf boards olds → IsFamily boards n family
    → InProgress n family olds before now seats

pub progress_start : (olds : List Seat) (n : ℕ) (text : Option (List ℕ)) → AllInProgress olds n text text olds
progress_start olds n text boards family party is = record {
  going = rw party.seats (going_start n family boards party.fresh is);
  lines = [];
  written = Appends-nil text;
  text = refl;
}

module _ (olds seats news : List Seat) (n : ℕ) (before now later : Option (List ℕ)) (c : NextStep) (told : Told)
    (few : n ≤ 10000000) (so_far : AllInProgress olds n before now seats) (chosen : next_from n 0 seats ≡ Some c)
    (step : IsStepAt c.index told seats news) where
  pub progress_on : Appends now later (told_text c.index told) → AllInProgress olds n before later news
  progress_on written boards family party is =
      let p = so_far boards family party is in
      let a = advances n family seats news c told few p.going chosen step in
      record {
        going = a.going;
        lines = p.lines ++ told_text c.index told;
        written = Appends-trans before now later p.lines (told_text c.index told) p.written written;
        text = cc (
          p.text,
          a.text,
          append_assoc p.lines (told_text c.index told) (text_to_come n family news),
        );
      }

  -- the lines of a step are cut
  pub progress_cut : AppendsFront now later (told_text c.index told) → AllCut olds n before later
  progress_cut front boards family party is =
      let p = so_far boards family party is in
      let a = advances n family seats news c told few p.going chosen step in
      record {
        lines = p.lines ++ (told_text c.index told ++ text_to_come n family news);
        front = front_at_end before now later p.lines _ p.written (front_more now later (told_text c.index told) _
            front);
        text = cc (text_of olds n boards family party, p.text, a.text);
      }

-- no board makes one more step
pub progress_end : (olds seats : List Seat) (n : ℕ) (before now : Option (List ℕ)) → n ≤ 10000000
    → AllInProgress olds n before now seats → next_from n 0 seats ≡ None → AllStepped olds n before now seats
progress_end olds seats n before now few so_far none boards family party is =
    let p = so_far boards family party is in
    let end = ended 0 n family family seats few p.going.all (none_found n seats none) in
    let over = all_over start_in step_text (rests_from 0 n family seats) end.rests (greatest_cycle family + 1) in
    record {
      lines = p.lines;
      written = p.written;
      text = cc (text_of olds n boards family party, p.text, over, end.lines);
      events = end.events;
    }

pub progress_texts : (olds seats : List Seat) (n : ℕ) (before now : Option (List ℕ))
    → (boards : List BoardState) × IsPartyOf boards olds → AllInProgress olds n before now seats
    → All HasEventText seats
progress_texts olds seats n before now party so_far =
    let one = exactly_one party.0 n party.1.fresh in
    every_all HasEventText seats (texts_of 0 n one.0 one.0 seats (so_far party.0 one.0 party.1 one.1.is).going.all)

-- ---- the board that is stepped, and how many steps are left

pub chosen_within : (n : ℕ) (c : NextStep) (ss : List Seat) → next_from n 0 ss ≡ Some c → c.index < length ss
chosen_within n c ss e = let next = next_found n c ss e in slice_get_within ss c.index next.seat next.found

chosen_start : (n : ℕ) (c : NextStep) (ss : List Seat) (s : Seat) → next_from n 0 ss ≡ Some c
    → slice_get ss c.index ≡ Some s → (s.steps < n) × (s.event ≡ None)
chosen_start n c ss s e found =
    let next = next_found n c ss e in
    let is : next.seat ≡ s = same_Some next.seat s (sym next.found ∙ found) in
    let start = starting n c.cycle s (rw is at next.starts) in
    (start.below, start.event)

pub chosen_below : (n : ℕ) (c : NextStep) (ss : List Seat) (s : Seat) → next_from n 0 ss ≡ Some c
    → slice_get ss c.index ≡ Some s → s.steps < n
chosen_below n c ss s e found = (chosen_start n c ss s e found).0

abbrev pub left_by : ℕ → ℕ → Option Event → ℕ
left_by n steps event = if nat_lt steps n && is_none event then n - steps else 0

abbrev pub steps_left : ℕ → List Seat → ℕ
steps_left n ss = total (λ s. left_by n s.steps s.event) ss

left_falls : (n steps : ℕ) (step : Step) → steps < n
    → left_by n (steps + count_of step) (stopped_by step) < left_by n steps None
left_falls n steps step below = grind (arith, common_steps)

set_falls : (n index : ℕ) (ss : List Seat) (old new : Seat) → slice_get ss index ≡ Some old
    → left_by n new.steps new.event < left_by n old.steps old.event
    → steps_left n (slice_set ss index new) < steps_left n ss
set_falls n index [] old new found less = absurd (none-some old found)
set_falls n zero (s ∷ ss) old new found less =
    let is : s ≡ old = same_Some s old found in
    rw is (omega (arith, less))
set_falls n (suc index) (s ∷ ss) old new found less = omega (arith, set_falls n index ss old new found less)

-- a step leaves fewer
pub fewer_left : (n : ℕ) (c : NextStep) (told : Told) (ss news : List Seat) → next_from n 0 ss ≡ Some c
    → IsStepAt c.index told ss news → steps_left n news < steps_left n ss
fewer_left n c told ss news e h =
    let start = chosen_start n c ss h.old e h.found in
    rw h.others (set_falls n c.index ss h.old h.new h.found
    (rw (h.step.after, start.1) (left_falls n h.old.steps told.step start.0)))

-- ---- the whole text is cut: in its first line, in the lines of a step, or in the last lines

boards_count : (olds : List Seat) (boards : List BoardState) → IsPartyOf boards olds → length olds ≡ length boards
boards_count olds boards party = cc (length-map boards new_seat)

pub party_few : (olds : List Seat) → (boards : List BoardState) × IsPartyOf boards olds → length olds ≤ 8
party_few olds party = rw (boards_count olds party.0 party.1) party.1.most

pub front_at_head : (olds : List Seat) (n : ℕ) (before after : Option (List ℕ))
    → AppendsFront before after (head_text (length olds)) → AllFront olds n before after
front_at_head olds n before after front boards family party is =
    rw (text_of olds n boards family party, ← boards_count olds boards party)
    (front_more before after (head_text (length olds)) (text_to_come n family olds) front)

pub front_at_steps : (olds : List Seat) (n : ℕ) (before middle after : Option (List ℕ))
    → Appends before middle (head_text (length olds)) → AllCut olds n middle after → AllFront olds n before after
front_at_steps olds n before middle after head cut boards family party is =
    let x = cut boards family party is in
    rw (x.text, ← boards_count olds boards party) (front_at_end before middle after _ x.lines head x.front)

front_last : (olds news : List Seat) (n : ℕ) (before middle later after : Option (List ℕ))
    → Appends before middle (head_text (length olds)) → AllStepped olds n middle later news
    → AppendsFront later after (ends_text 0 news) → AllFront olds n before after
front_last olds news n before middle later after head steps front boards family party is =
    let x = steps boards family party is in
    rw (x.text, ← boards_count olds boards party)
    (front_at_end before middle after _ (x.lines ++ ends_text 0 news) head
    (front_at_end middle later after x.lines (ends_text 0 news) x.written front))

pub front_at_ends : {T E : Type 0} (r : Result T E) (olds : List Seat) (n : ℕ)
    (before middle later after : Option (List ℕ)) (news : List Seat) → Appends before middle (head_text (length olds))
    → AllStepped olds n middle later news → OnErr r (AppendsFront later after (ends_text 0 news))
    → OnErr r (AllFront olds n before after)
front_at_ends r olds n before middle later after news head steps front =
    on_error r (front_last olds news n before middle later after head steps) front
