-- A run with notes that are empty is the record of the run.
use Rattle.std.proofs.Common.{◌≡◌, ℕ, zero, suc, ◌+◌, List, [], ◌++◌, Result, Ok, Err, refl, append_assoc, zero-add}
use Rattle.std.proofs.Common.{add-zero, arith}
use Rattle.std.specs.Prelude.{flat_map}
use Rattle.std.proofs.lemmas.Grind.{flat_map-append}
use Rattle.m51_cells.specs.declared.event.Event.{Event}
use Rattle.m51_print.specs.Lines.{entry_line, last_line}
use Rattle.m51_sim.specs.Run.{entry_lines, record_text}
use Rattle.m51_sim.specs.Runs.{Machine, Performed, Record, State, entries_of, record_from, record_of}
use Rattle.m51_steps.specs.Noted.{Notes, after_note, follows, noted}

-- the text of a record that begins after some steps
abbrev pub text_after : {M : Type 0} → List (List ℕ) → ℕ → Record M → List ℕ
text_after titles done r = entry_lines r ++ last_line titles r.event (done + r.steps) r.last.cycle

module _ {M : Type 0} (titles : List (List ℕ)) (machine : Machine M) where
  abbrev none : Notes M
  none done before s = []

  by_step : (left done : ℕ) (s : State M) (r : Result (Performed M) Event)
      → ((t : State M) → follows titles machine none left (suc done) t
      ≡ text_after titles (suc done) (record_of machine left t))
      → after_note titles done s (λ t. follows titles machine none left (suc done) t) r
      ≡ text_after titles done (record_from s (record_of machine left) r)
  by_step left done s (Ok step) rest =
      let r = record_of machine left step.state in
      let count : suc done + r.steps ≡ done + suc r.steps = omega arith in
      cc (
        rest step.state,
        append_assoc (flat_map entry_line (entries_of step.told)) (entry_lines r)
            (last_line titles r.event (suc done + r.steps) r.last.cycle),
        flat_map-append entry_line (entries_of step.told) r.entries,
      )
  by_step left done s (Err event) rest = rw add-zero refl

  follows_alone : (left done : ℕ) (s : State M)
      → follows titles machine none left done s ≡ text_after titles done (record_of machine left s)
  unfolding follows record_of
  follows_alone zero done s = rw add-zero refl
  follows_alone (suc left) done s = by_step left done s (machine s) (follows_alone left (suc done))

  pub alone : (n : ℕ) (first : State M)
      → noted titles machine none n first ≡ record_text titles (record_of machine n first)
  alone n first = rw zero-add at (follows_alone n 0 first)
