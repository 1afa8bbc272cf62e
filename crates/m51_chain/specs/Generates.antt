-- What gen makes: its source is assembled and linked, and the run of the program is counted.
use Rattle.std.specs.Prelude.{◌≡◌, ℕ, List, [], length, map, sum, None}
use Rattle.m51_module.specs.declared.parts.LayoutParts.{LayoutParts}
use Rattle.m51_module.specs.declared.placed.Mark.{Mark}
use Rattle.m51_module.specs.declared.placed.Mark.TheVariants.{Overlaid}
use Rattle.m51_module.specs.declared.placed.Placed.{Placed}
use Rattle.m51_module.specs.declared.tally.Tally.{Tally}
use Rattle.m51_print.specs.Map.{overlaid_below}
use Rattle.m51_print.specs.Summary.{summary_of}
use Rattle.m51_script.specs.Reading.{plain_script}
use Rattle.m51_sim.specs.Cycles.{inputs_of}
use Rattle.m51_sim.specs.FlatMachine.{reset_with}
use Rattle.m51_sim.specs.Run.{tally_of}
use Rattle.m51_sim.specs.Runs.{record_of}
use Rattle.m51_sim.specs.SeparateMachine.{separate_machine, separate_start}
use Rattle.m51_chain.specs.Outcome.{Outcome, refused, status_by}
use Rattle.m51_asm.specs.Answer as answer
use Rattle.m51_asm.specs.Answer.{AnswerTree, IsAnswer}
use Rattle.m51_generator.specs.Lines.{generated}
use Rattle.m51_linker.specs.declared.linked.Linked.{Linked}
use Rattle.m51_module.specs.declared.source.SourceFile.{SourceFile}
use Rattle.m51_jobs.specs.declared.job.GenJob.{GenJob}
use Rattle.m51_chain.specs.Linking.{IsProgramOutcome, sole_program}
use Rattle.m51_chain.specs.declared.work.Reason.TheVariants as reason
use Rattle.m51_chain.specs.FaultLines.{fault_lines}

-- the size of an overlaid segment, and the sizes of all
abbrev pub overlaid_size : Mark → ℕ → ℕ
overlaid_size Overlaid size = size
overlaid_size mark size = 0

abbrev pub overlaid_sizes : List Placed → ℕ
overlaid_sizes placed = sum (map (λ p. overlaid_size p.mark p.size) placed)

-- the numbers of at most `steps` steps of an image with its layout, after a reset
abbrev pub run_tally : LayoutParts → List ℕ → ℕ → Tally
run_tally layout image steps =
    let inputs = inputs_of plain_script in
    tally_of (record_of (separate_machine layout image inputs) steps
    (reset_with inputs (separate_start layout 0)))

-- the summary of a run
abbrev pub summary_outcome : LayoutParts → List ℕ → ℕ → Outcome
summary_outcome layout image steps = record {
  status = status_by (run_tally layout image steps).event;
  text = summary_of (length layout.units) (overlaid_below layout.placed 256)
      (overlaid_sizes layout.placed) (run_tally layout image steps) layout.placed;
  keeps = None;
}

abbrev pub IsCounted : ℕ → Linked → Outcome → Type 0
IsCounted steps linked outcome = outcome ≡ summary_outcome linked.layout linked.image steps

-- what comes of what the assembler answers for the source: its faults, or the count of its program
abbrev pub IsGenerated : SourceFile → ℕ → AnswerTree → Outcome → Type 0
IsGenerated source steps (answer.Faults faults) outcome =
    outcome ≡ refused reason.Source (fault_lines source.name [] faults)
IsGenerated source steps (answer.Gives parts rows) outcome =
    IsProgramOutcome (sole_program parts) (IsCounted steps) outcome

-- what gen makes of its numbers
pub record IsGenOutcome (job : GenJob) (outcome : Outcome) : Type 0 where
  pub answer : AnswerTree
  pub answered : IsAnswer (generated job.units job.start) [] answer
  pub is : IsGenerated (generated job.units job.start) job.steps answer outcome
