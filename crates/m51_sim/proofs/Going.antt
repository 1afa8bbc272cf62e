-- A run that is under way, how it ends, and one that is counted.
use Rattle.m51_sim.proofs.Common.{◌≡◌, ℕ, suc, ◌+◌, ◌-◌, ◌<◌, List, ◌++◌, length, Option, Some, None, Ok, Err, refl}
use Rattle.m51_sim.proofs.Common.{sym, ap, ◌∙◌, arith, append-nil, length-append, Event, Entries, State, Machine}
use Rattle.m51_sim.proofs.Common.{Record, entries_of, no_step, with_step, IsAdvance, ◌≤◌}
use Rattle.std.proofs.Common.{append_assoc, ◌*◌}
use Rattle.std.proofs.Math.Logic.{inl, inr}
use Rattle.std.proofs.lemmas.Grind.{flat_map-append}
use Rattle.std.specs.Prelude.{flat_map}
use Rattle.std.specs.Io.KnownBytes.{Appends}
use Rattle.std.proofs.KnownBytes.{Appends-nil, Appends-trans}
use Rattle.m51_shelf.specs.Writing.{StopsWithin}
use Rattle.m51_print.specs.Lines.{entry_line, last_line}
use Rattle.m51_sim.specs.Runs.{record_of}
use Rattle.m51_sim.specs.Run.{IsRecordCut, IsWholeRecord, lines_after, record_text, tally_of}
use Rattle.m51_sim.proofs.Sums.{appended, record_sum, record_goes, record_stops}
use Rattle.m51_sim.proofs.Tellings.{cut_after, cut_before}

-- the first steps are performed, and the lines of their entries are written
pub record IsGoing {M : Type 0} (before now : Option (List ℕ)) (machine : Machine M) (first : State M) (done : ℕ)
    (s : State M) : Type 0 where
  pub event : (record_of machine done first).event ≡ None
  pub steps : (record_of machine done first).steps ≡ done
  pub last : s ≡ (record_of machine done first).last
  pub text : Appends before now (lines_after machine first done)

-- the steps done are all
pub record IsOver {M : Type 0} (before now : Option (List ℕ)) (machine : Machine M) (all : ℕ) (first : State M)
    (done : ℕ) (s : State M) (event : Option Event) : Type 0 where
  pub going : IsGoing before now machine first done s
  pub event_is : (record_of machine all first).event ≡ event
  pub entries : (record_of machine all first).entries ≡ (record_of machine done first).entries
  pub steps : (record_of machine all first).steps ≡ done
  pub last : s ≡ (record_of machine all first).last

-- the lines of what a step reports
abbrev lines_of : Entries → List ℕ
lines_of told = flat_map entry_line (entries_of told)

pub going_start : {M : Type 0} (machine : Machine M) (before : Option (List ℕ)) (first : State M)
    → IsGoing before before machine first 0 first
unfolding record_of
going_start machine before first = record { event = refl; steps = refl; last = refl; text = Appends-nil before }

module _ {M : Type 0} {machine : Machine M} {before m : Option (List ℕ)} {first : State M} {done : ℕ} {old : State M}
    (going : IsGoing before m machine first done old) where
  abbrev so_far : Record M
  so_far = record_of machine done first

  -- the steps done, and the record of the others
  rest_is : (rest all : ℕ) → all ≡ done + rest
      → record_of machine all first ≡ appended so_far (record_of machine rest old)
  rest_is rest all e = rw (e, going.last) (record_sum machine done rest first going.event)

  pub over_at_last : (all : ℕ) → done ≡ all → IsOver before m machine all first done old None
  over_at_last all e = rw (← e) (record {
    going = going;
    event_is = going.event;
    entries = refl;
    steps = going.steps;
    last = going.last;
  })

  pub over_at_event : (all : ℕ) (new : State M) (event : Event) → done < all
      → IsAdvance (machine old) (Err event) old new
      → IsOver before m machine all first done new (Some event)
  over_at_event all new event more h =
      let k = all - (done + 1) in
      let stops = record_stops machine k event old new h in
      let whole : record_of machine all first ≡ appended so_far (no_step (Some event) old) =
      rest_is (suc k) all (omega arith) ∙ ap (appended so_far) stops.1 in
      rw (stops.0) (record {
        going = going;
        event_is = rw whole refl;
        entries = rw whole (append-nil so_far.entries);
        steps = omega (arith, ap (λ (r : Record M). r.steps) whole, going.steps);
        last = rw whole refl;
      })

  module _ (new : State M) (told : Entries) (h : IsAdvance (machine old) (Ok told) old new) where
    -- a step more
    next_is : record_of machine (done + 1) first ≡ appended so_far (with_step told (no_step None new))
    unfolding record_of
    next_is = rest_is 1 (done + 1) refl ∙ ap (appended so_far) (record_goes machine 0 told old new h)

    pub entries_next : (record_of machine (done + 1) first).entries ≡ so_far.entries ++ entries_of told
    entries_next = rw (next_is, append-nil (entries_of told)) refl

    lines_next : lines_after machine first (done + 1) ≡ lines_after machine first done ++ lines_of told
    lines_next = rw (entries_next) (flat_map-append entry_line so_far.entries (entries_of told))

    pub going_on : (n : Option (List ℕ)) → Appends m n (lines_of told) → IsGoing before n machine first (done + 1) new
    going_on n line = record {
      event = rw (next_is) refl;
      steps = omega (arith, ap (λ (r : Record M). r.steps) next_is, going.steps);
      last = rw (next_is) refl;
      text = rw (lines_next) (Appends-trans before m n _ _ going.text line);
    }

    -- a write failed in the line of a step
    pub cut_in_entry : (titles : List (List ℕ)) (all : ℕ) (n : Option (List ℕ)) → done < all
        → StopsWithin m n (lines_of told) → IsRecordCut before n titles machine all first new
    cut_in_entry titles all n more cut =
        let k = all - (done + 1) in
        let rest = record_of machine k new in
        let all_of = record_of machine all first in
        let whole : all_of ≡ appended so_far (with_step told rest) =
        rest_is (suc k) all (omega arith) ∙ ap (appended so_far) (record_goes machine k told old new h) in
        let tail = flat_map entry_line rest.entries
        ++ last_line titles all_of.event all_of.steps all_of.last.cycle in
        let entries : all_of.entries ≡ so_far.entries ++ (entries_of told ++ rest.entries) = rw whole refl in
        let text : record_text titles all_of ≡ lines_after machine first done ++ (lines_of told ++ tail) =
        rw (
          entries,
          flat_map-append entry_line so_far.entries (entries_of told ++ rest.entries),
          flat_map-append entry_line (entries_of told) rest.entries,
          append_assoc,
          append_assoc,
        ) refl in
        let front = cut_after before m n (lines_after machine first done) (lines_of told ++ tail) going.text
        (cut_before m n (lines_of told) tail cut) in
        let back : done + 1 - 1 ≡ done = omega arith in
        record {
          front = (front.0, rw text (omega (arith, front.1)), rw text front.2);
          stands = record {
            steps = done + 1;
            state = rw (next_is) refl;
            cut = inl (record {
              some = omega arith;
              within = omega (arith, ap (λ (r : Record M). r.steps) whole, going.steps);
              begun = rw back (omega arith);
              unfinished = omega (
                arith,
                ap length lines_next,
                length-append (lines_after machine first done) (lines_of told),
                cut.1,
              );
            });
          };
        }

module _ {M : Type 0} {machine : Machine M} {before m : Option (List ℕ)} {all : ℕ} {first : State M} {done : ℕ}
    {s : State M} {event : Option Event} (over : IsOver before m machine all first done s event)
    (titles : List (List ℕ)) (n : Option (List ℕ)) where
  -- the text of a run that is over
  text_over : record_text titles (record_of machine all first)
      ≡ lines_after machine first done ++ last_line titles event done s.cycle
  text_over = rw (over.entries, over.event_is, over.steps, ← over.last) refl

  -- its last line is written
  pub whole_at_end : Appends m n (last_line titles event done s.cycle)
      → IsWholeRecord before n titles (record_of machine all first) s event
  whole_at_end line = record {
    event_is = over.event_is;
    last = over.last;
    text = rw (text_over) (Appends-trans before m n _ _ over.going.text line);
  }

  -- a write failed in its last line
  pub cut_at_end : StopsWithin m n (last_line titles event done s.cycle)
      → IsRecordCut before n titles machine all first s
  cut_at_end cut =
      let line = last_line titles event done s.cycle in
      let front = cut_after before m n (lines_after machine first done) line over.going.text cut in
      record {
        front = (front.0, rw (text_over) (omega (arith, front.1)), rw (text_over) front.2);
        stands = record {
          steps = done;
          state = over.going.last;
          cut = inr (record {
            all = sym over.steps;
            begun = omega arith;
            unfinished = rw (text_over) front.1;
          });
        };
      }

-- the first steps are performed, and their entries are counted; no text is written
pub record IsCounting {M : Type 0} (machine : Machine M) (first : State M) (done : ℕ) (s : State M) (entries : ℕ) : Type
    0 where
  pub going : IsGoing None None machine first done s
  pub count : entries ≡ length (record_of machine done first).entries
  pub few : entries ≤ 2 * done

pub counting_start : {M : Type 0} (machine : Machine M) (first : State M) → IsCounting machine first 0 first 0
unfolding record_of
counting_start machine first = record { going = going_start machine None first; count = refl; few = omega arith }

module _ {M : Type 0} {machine : Machine M} {first : State M} {done : ℕ} {old : State M} {entries : ℕ}
    (h : IsCounting machine first done old entries) where
  pub counting_on : (new : State M) (told : Entries) (more : ℕ) → IsAdvance (machine old) (Ok told) old new
      → more ≡ length (entries_of told) → more ≤ 2 → IsCounting machine first (done + 1) new (entries + more)
  counting_on new told more k is few = record {
    going = going_on h.going new told k None tt;
    count = omega (
      arith,
      h.count,
      is,
      ap length (entries_next h.going new told k),
      length-append (record_of machine done first).entries (entries_of told),
    );
    few = omega (arith, h.few, few);
  }

  -- a tally of these numbers, where the run is over
  pub tally_over : {all : ℕ} {s : State M} {event : Option Event} → IsOver None None machine all first done s event
      → record { entries = entries; steps = done; cycle = s.cycle; event = event }
      ≡ tally_of (record_of machine all first)
  tally_over over = rw (over.event_is, over.entries, over.steps, ← over.last, h.count) refl
