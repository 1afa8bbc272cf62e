-- The run of a board with its notes that is under way, by the boards at the start and now, and how it ends.
use Rattle.std.proofs.Common.{◌≡◌, ℕ, ◌+◌, ◌-◌, ◌<◌, ◌≤◌, List, Option, Some, None, Result, Ok, Err, refl, ◌∙◌, subst}
use Rattle.std.specs.Prelude.{◌^◌}
use Rattle.std.specs.Io.KnownBytes.{Appends}
use Rattle.m51_cells.specs.Outside.{AppendsFront}
use Rattle.m51_cells.specs.declared.event.Event.{Event}
use Rattle.m51_module.specs.declared.parts.LayoutParts.{LayoutParts}
use Rattle.m51_print.specs.Lines.{last_line, titles_of}
use Rattle.m51_shelf.specs.declared.sink.Failed.{Failed}
use Rattle.m51_sim.specs.Boards.{BoardState, separate_of}
use Rattle.m51_sim.specs.Cycles.{inputs_of}
use Rattle.m51_sim.specs.Effects.{attempt_of}
use Rattle.m51_sim.specs.Runs.{Machine, Performed, State, record_of}
use Rattle.m51_sim.specs.SeparateMachine.{Separate, separate_machine}
use Rattle.m51_sim.specs.StepLaws.{StepsAreShort}
use Rattle.m51_steps.specs.declared.shape.Shape.{Shape}
use Rattle.m51_steps.specs.Counts.{IsAdded, IsBlank, Kept, place_of}
use Rattle.m51_steps.specs.Noted.{IsStepWritten, IsWholeNoted}
use Rattle.m51_steps.specs.Ram.{nothing_shown}
use Rattle.m51_steps.specs.Shapes.{IsShown, note_by, note_of}
use Rattle.m51_steps.specs.Totals.{AddsUp}
use Rattle.m51_steps.specs.Traced.{machine_of, noted_run, run_table}
use Rattle.m51_steps.proofs.Counted.{AllCounted, IsCounting, counted_at_event, counted_at_last, counting_on}
use Rattle.m51_steps.proofs.Counted.{counting_start, short_by}
use Rattle.m51_steps.proofs.Shown.{WasShown, note_is, nothing_was_shown, was_shown}
use Rattle.m51_steps.proofs.Totals.{adds_up}
use Rattle.m51_steps.proofs.UnderWay.{IsUnderWay, at_event, at_last, cut_at_end, cut_in_note, cut_in_step, ended, on}
use Rattle.m51_steps.proofs.UnderWay.{start, still}

-- layout, image and script stay; some steps are done, written and counted
pub record IsRunning (before now : Option (List ℕ)) (shape : Shape) (n : ℕ) (first : BoardState) (done : ℕ)
    (at : BoardState) (shown : ℕ → ℕ) (counts : Kept) : Type 0 where
  pub layout : at.monitor.layout ≡ first.monitor.layout
  pub image : at.chip.image ≡ first.chip.image
  pub script : at.chip.script ≡ first.chip.script
  pub last : State Separate
  pub under : IsUnderWay before now (titles_of first.monitor.layout.placed) (machine_of first)
      (note_of shape first.monitor.layout first.chip.image) n (separate_of first) done last (separate_of at)
  pub was : WasShown shape first.monitor.layout done last shown
  pub counting : IsCounting (machine_of first) first.chip.image counts n (separate_of first) done (separate_of at)

pub run_start : (before : Option (List ℕ)) (shape : Shape) (n : ℕ) (first : BoardState) (shown : ℕ → ℕ) (counts : Kept)
    → ((a : ℕ) → a < 256 → shown a ≡ nothing_shown) → IsBlank counts
    → IsRunning before before shape n first 0 first shown counts
run_start before shape n first shown counts nothing blank = record {
  layout = refl;
  image = refl;
  script = refl;
  last = separate_of first;
  under = start _ _ _ before n (separate_of first);
  was = nothing_was_shown shape first.monitor.layout (separate_of first) shown nothing;
  counting = counting_start (machine_of first) first.chip.image counts n (separate_of first) blank;
}

short_next : (first : BoardState) (a b : Option (List ℕ)) (s next : State Separate)
    (r : Result (Performed Separate) Event) → StepsAreShort → machine_of first s ≡ r
    → IsStepWritten r a b (Ok None) s next → next.cycle - s.cycle ≤ 4
short_next first a b s next (Ok step) short e h = rw h.1 (short_by first.chip.image s step.state
    (short first.monitor.layout first.chip.image (inputs_of first.chip.script) s step e))
short_next first a b s next (Err event) short e h = absurd h

-- what was counted adds up
counts_add_up : (first : BoardState) (counts : Kept) (n : ℕ) → StepsAreShort
    → AllCounted (machine_of first) first.chip.image counts n (separate_of first)
    → AddsUp (run_table first n) (separate_of first) (record_of (machine_of first) n (separate_of first))
counts_add_up first counts n short all =
    adds_up first.monitor.layout first.chip.image (inputs_of first.chip.script) short n (separate_of first) all.held

module _ {before now : Option (List ℕ)} {shape : Shape} {n : ℕ} {first : BoardState} {done : ℕ} {at : BoardState}
    {shown : ℕ → ℕ} {counts : Kept} (running : IsRunning before now shape n first done at shown counts) where
  -- the note by the board now and by what is shown
  abbrev note_now : List ℕ
  note_now = note_by shape at.monitor.layout at.chip.image shown done (separate_of at)

  -- is a text of the run
  note_as : note_now ≡ note_of shape first.monitor.layout first.chip.image done running.last (separate_of at)
  note_as =
      let same : note_now ≡ note_by shape first.monitor.layout first.chip.image shown done (separate_of at) =
      λ i. note_by shape (running.layout i) (running.image i) shown done (separate_of at) in
      same ∙ note_is shape first.monitor.layout first.chip.image done running.last (separate_of at) shown running.was

  -- what is said of the step of the board now is said of the machine of the first
  step_as : (a b : Option (List ℕ)) (r : Result (Option Event) Failed) (next : State Separate)
      → IsStepWritten (machine_of at (separate_of at)) a b r (separate_of at) next
      → IsStepWritten (machine_of first (separate_of at)) a b r (separate_of at) next
  step_as a b r next h =
      let same : machine_of at ≡ machine_of first =
      λ i. separate_machine (running.layout i) (running.image i) (inputs_of (running.script i)) in
      subst (λ (m : Machine Separate). IsStepWritten (m (separate_of at)) a b r (separate_of at) next) same h

  pub run_cut_in_note : (after : Option (List ℕ)) → AppendsFront now after note_now
      → AppendsFront before after (noted_run shape first n)
  run_cut_in_note after h = cut_in_note running.under after (rw note_as at h)

  -- all steps are done
  module _ (all : done ≡ n) where
    pub run_counted : AllCounted (machine_of first) first.chip.image counts n (separate_of first)
    run_counted = counted_at_last running.counting all

    pub run_adds_up : StepsAreShort
        → AddsUp (run_table first n) (separate_of first) (record_of (machine_of first) n (separate_of first))
    run_adds_up short = counts_add_up first counts n short run_counted

    module _ (noted_at after : Option (List ℕ)) (note : Appends now noted_at note_now) where
      pub run_end : Appends noted_at after (last_line (titles_of at.monitor.layout.placed) None done at.chip.cycle)
          → IsWholeNoted before after (noted_run shape first n) (record_of (machine_of first) n (separate_of first))
          (separate_of at) None
      run_end line = ended running.under noted_at after (rw note_as at note) None (at_last running.under all)
          line

      pub run_end_cut : AppendsFront noted_at after
          (last_line (titles_of at.monitor.layout.placed) None done at.chip.cycle)
          → AppendsFront before after (noted_run shape first n)
      run_end_cut line = cut_at_end running.under noted_at after (rw note_as at note) None (at_last running.under all)
          line

  -- a step is made after the note
  module _ (below : done < n) (noted_at : Option (List ℕ)) (note : Appends now noted_at note_now) where
    pub run_on : (after : Option (List ℕ)) (next : BoardState) (more_shown : ℕ → ℕ) (more : Kept) → n ≤ 10000000
        → StepsAreShort → next.monitor.layout ≡ at.monitor.layout → next.chip.image ≡ at.chip.image
        → next.chip.script ≡ at.chip.script
        → IsShown shape at.monitor.layout done (separate_of at) shown more_shown
        → IsStepWritten (machine_of at (separate_of at)) noted_at after (Ok None) (separate_of at) (separate_of next)
        → IsAdded counts more (place_of (attempt_of at.chip.image at.chip.cpu) at.chip.cpu.pc)
        (next.chip.cycle - at.chip.cycle)
        → place_of (attempt_of at.chip.image at.chip.cpu) at.chip.cpu.pc < 65543 → at.chip.cycle ≤ 2 ^ 64 - 1
        → IsRunning before after shape n first (done + 1) next more_shown more
    run_on after next more_shown more most short layout image script shows step added place cycle =
        let as_first = step_as _ _ _ _ step in
        record {
          layout = layout ∙ running.layout;
          image = image ∙ running.image;
          script = script ∙ running.script;
          last = separate_of at;
          under = on running.under below noted_at (rw note_as at note) after (separate_of next) _ refl as_first;
          was = was_shown shape first.monitor.layout done running.last (separate_of at) shown more_shown running.was
              (subst (λ (k : LayoutParts). IsShown shape k done (separate_of at) shown more_shown) running.layout
              shows);
          counting = counting_on running.counting below noted_at after more (separate_of next) most
              (short_next first noted_at after (separate_of at) (separate_of next) (machine_of first (separate_of at))
              short refl as_first) as_first (rw running.image at added) (rw running.image at place) cycle;
        }

    pub run_cut_in_step : (after : Option (List ℕ)) (next : BoardState) (f : Failed)
        → IsStepWritten (machine_of at (separate_of at)) noted_at after (Err f) (separate_of at) (separate_of next)
        → AppendsFront before after (noted_run shape first n)
    run_cut_in_step after next f step =
        cut_in_step running.under below noted_at (rw note_as at note) after (separate_of next) f _ refl
        (step_as _ _ _ _ step)

    -- an event stops the step
    module _ (stepped : Option (List ℕ)) (next : BoardState) (event : Event)
        (layout : next.monitor.layout ≡ at.monitor.layout)
        (step : IsStepWritten (machine_of at (separate_of at)) noted_at stepped (Ok (Some event)) (separate_of at)
        (separate_of next)) where
      abbrev line_now : List ℕ
      line_now = last_line (titles_of next.monitor.layout.placed) (Some event) done next.chip.cycle

      same : (separate_of next ≡ separate_of at) × (stepped ≡ noted_at)
      same = still noted_at stepped (separate_of at) (separate_of next) event _ step

      line_as : line_now ≡ last_line (titles_of first.monitor.layout.placed) (Some event) done at.chip.cycle
      line_as = rw (layout, running.layout) (λ i. last_line (titles_of first.monitor.layout.placed) (Some event) done
          (same.0 i).cycle)

      pub run_event_end : (after : Option (List ℕ)) → Appends stepped after line_now
          → IsWholeNoted before after (noted_run shape first n) (record_of (machine_of first) n (separate_of first))
          (separate_of next) (Some event)
      run_event_end after line = rw same.0 (ended running.under noted_at after (rw note_as at note) (Some event)
          (at_event running.under below noted_at stepped (separate_of next) event _ refl (step_as _ _ _ _ step))
          (rw (same.1, line_as) at line))

      pub run_event_cut : (after : Option (List ℕ)) → AppendsFront stepped after line_now
          → AppendsFront before after (noted_run shape first n)
      run_event_cut after line = cut_at_end running.under noted_at after (rw note_as at note) (Some event)
          (at_event running.under below noted_at stepped (separate_of next) event _ refl (step_as _ _ _ _ step))
          (rw (same.1, line_as) at line)

      pub run_event_counted : AllCounted (machine_of first) first.chip.image counts n (separate_of first)
      run_event_counted =
          counted_at_event running.counting below noted_at stepped (separate_of next) event (step_as _ _ _ _ step)

      pub run_event_adds_up : StepsAreShort
          → AddsUp (run_table first n) (separate_of first) (record_of (machine_of first) n (separate_of first))
      run_event_adds_up short = counts_add_up first counts n short run_event_counted
