-- A run with notes that is under way, and how it ends.
use Rattle.std.proofs.Common.{◌≡◌, ℕ, suc, ◌+◌, ◌-◌, ◌<◌, List, [], ◌++◌, Option, Some, None, Result, Ok, Err, refl}
use Rattle.std.proofs.Common.{sym, ◌∙◌, arith, append_assoc}
use Rattle.std.specs.Prelude.{flat_map}
use Rattle.std.specs.Io.KnownBytes.{Appends}
use Rattle.std.proofs.KnownBytes.{Appends-nil, Appends-trans}
use Rattle.m51_cells.proofs.Fronts.{front_after, front_at_end, front_more}
use Rattle.m51_cells.specs.Outside.{AppendsFront}
use Rattle.m51_cells.specs.declared.event.Event.{Event}
use Rattle.m51_print.specs.Lines.{entry_line, last_line}
use Rattle.m51_shelf.specs.declared.sink.Failed.{Failed}
use Rattle.m51_sim.specs.declared.runs.Told.{Told}
use Rattle.m51_sim.specs.declared.runs.Step.TheVariants.{Done}
use Rattle.m51_sim.specs.Run.{IsToldStep}
use Rattle.m51_sim.specs.Runs.{Machine, Performed, State, entries_of, record_from, record_of}
use Rattle.m51_steps.specs.Noted.{IsStepWritten, IsWholeNoted, Notes, after_note, follows, noted, told_lines}

-- some steps are done, and what is written and what is to come are the whole text
pub record IsUnderWay {M : Type 0} (before now : Option (List ℕ)) (titles : List (List ℕ)) (machine : Machine M)
    (note : Notes M) (n : ℕ) (first : State M) (done : ℕ) (p s : State M) : Type 0 where
  pub sofar : List ℕ
  pub text : Appends before now sofar
  pub rest : noted titles machine note n first
      ≡ sofar ++ (note done p s ++ follows titles machine note (n - done) done s)
  pub event : (record_of machine n first).event ≡ (record_of machine (n - done) s).event
  pub last : (record_of machine n first).last ≡ (record_of machine (n - done) s).last

pub start : {M : Type 0} (titles : List (List ℕ)) (machine : Machine M) (note : Notes M) (before : Option (List ℕ))
    (n : ℕ) (first : State M) → IsUnderWay before before titles machine note n first 0 first first
start titles machine note before n first = let none : n - 0 ≡ n = omega arith in
    record { sofar = []; text = Appends-nil before; rest = rw none refl; event = rw none refl; last = rw none refl }

module _ {M : Type 0} {before now : Option (List ℕ)} {titles : List (List ℕ)} {machine : Machine M} {note : Notes M}
    {n : ℕ} {first : State M} {done : ℕ} {p s : State M}
    (under : IsUnderWay before now titles machine note n first done p s) where
  -- a write has failed in a note
  pub cut_in_note : (after : Option (List ℕ)) → AppendsFront now after (note done p s)
      → AppendsFront before after (noted titles machine note n first)
  cut_in_note after cut = rw under.rest (front_after before now after under.sofar (note done p s) _ under.text cut)

  -- what an event leaves, and the last step: the last line
  pub record IsStopped (event : Option Event) : Type 0 where
    pub text : follows titles machine note (n - done) done s ≡ last_line titles event done s.cycle
    pub event_is : (record_of machine (n - done) s).event ≡ event
    pub last : (record_of machine (n - done) s).last ≡ s

  pub at_last : done ≡ n → IsStopped None
  unfolding follows record_of
  at_last all =
      let none : n - done ≡ 0 = omega arith in
      record { text = rw none refl; event_is = rw none refl; last = rw none refl }

  -- the next step
  module _ (below : done < n) where
    abbrev k : ℕ
    k = n - suc done

    more : n - done ≡ suc k
    more = omega arith

    to_come : (r : Result (Performed M) Event) → machine s ≡ r → follows titles machine note (n - done) done s
        ≡ after_note titles done s (λ t. note (suc done) s t ++ follows titles machine note k (suc done) t) r
    unfolding follows
    to_come r e = rw (more, e) refl

    record_to_come : (r : Result (Performed M) Event) → machine s ≡ r
        → record_of machine (n - done) s ≡ record_from s (record_of machine k) r
    unfolding record_of
    record_to_come r e = rw (more, e) refl

    pub at_event : (a b : Option (List ℕ)) (next : State M) (event : Event) (r : Result (Performed M) Event)
        → machine s ≡ r → IsStepWritten r a b (Ok (Some event)) s next → IsStopped (Some event)
    at_event a b next event (Ok step) e h = absurd h
    at_event a b next event (Err told) e h = record {
      text = rw (to_come (Err told) e, h.0) refl;
      event_is = rw (record_to_come (Err told) e, h.0) refl;
      last = rw (record_to_come (Err told) e) refl;
    }

    module _ (noted_at : Option (List ℕ)) (written : Appends now noted_at (note done p s)) where
      pub on : (after : Option (List ℕ)) (next : State M) (r : Result (Performed M) Event) → machine s ≡ r
          → IsStepWritten r noted_at after (Ok None) s next
          → IsUnderWay before after titles machine note n first (done + 1) s next
      on after next (Ok step) e h =
          let lines = flat_map entry_line (entries_of step.told) in
          let one : done + 1 ≡ suc done = omega arith in
          rw (one, h.1) (record {
            sofar = under.sofar ++ (note done p s ++ lines);
            text = Appends-trans before now after under.sofar (note done p s ++ lines) under.text
                (Appends-trans now noted_at after (note done p s) lines written h.0);
            rest = under.rest ∙ rw (
              to_come (Ok step) e,
              ← append_assoc (note done p s) lines,
              ← append_assoc under.sofar (note done p s ++ lines),
            ) refl;
            event = under.event ∙ rw (record_to_come (Ok step) e) refl;
            last = under.last ∙ rw (record_to_come (Ok step) e) refl;
          })
      on after next (Err event) e h = absurd h

      pub cut_in_step : (after : Option (List ℕ)) (next : State M) (f : Failed) (r : Result (Performed M) Event)
          → machine s ≡ r → IsStepWritten r noted_at after (Err f) s next
          → AppendsFront before after (noted titles machine note n first)
      cut_in_step after next f (Ok step) e h =
          let lines = flat_map entry_line (entries_of step.told) in
          rw (under.rest, to_come (Ok step) e)
          (front_at_end before now after under.sofar _ under.text
          (front_at_end now noted_at after (note done p s) _ written (front_more noted_at after lines _ h)))
      cut_in_step after next f (Err event) e h = absurd h

  -- the last line is written, or a write has failed in it
  module _ (noted_at after : Option (List ℕ)) (written : Appends now noted_at (note done p s)) (event : Option Event)
      (stop : IsStopped event) where
    pub ended : Appends noted_at after (last_line titles event done s.cycle)
        → IsWholeNoted before after (noted titles machine note n first) (record_of machine n first) s event
    ended line = record {
      event_is = under.event ∙ stop.event_is;
      last = sym (under.last ∙ stop.last);
      text_is = rw (under.rest, stop.text) (Appends-trans before now after under.sofar _ under.text
          (Appends-trans now noted_at after (note done p s) _ written line));
    }

    pub cut_at_end : AppendsFront noted_at after (last_line titles event done s.cycle)
        → AppendsFront before after (noted titles machine note n first)
    cut_at_end cut = rw (under.rest, stop.text) (front_at_end before now after under.sofar _ under.text
        (front_at_end now noted_at after (note done p s) _ written cut))

-- an event changes nothing, and nothing is written for it
pub still : {M : Type 0} (a b : Option (List ℕ)) (s next : State M) (event : Event) (r : Result (Performed M) Event)
    → IsStepWritten r a b (Ok (Some event)) s next → (next ≡ s) × (b ≡ a)
still a b s next event (Ok step) h = absurd h
still a b s next event (Err told) h = (h.1, h.2)

-- a step whose lines are written
pub done_written : {M : Type 0} (r : Result (Performed M) Event) (told : Told) (a b : Option (List ℕ))
    (old new : State M) → IsToldStep r told old new → told.step ≡ Done
    → Appends a b (told_lines told.port told.sent) → IsStepWritten r a b (Ok None) old new
done_written (Ok step) told a b old new h e written = (rw h.0 at written, h.1)
done_written (Err event) told a b old new h e written = absurd (cc (h.0, e))
