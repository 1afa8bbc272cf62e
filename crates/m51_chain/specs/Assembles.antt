-- What asm makes of its files.
use Rattle.std.specs.Prelude.{◌≡◌, ℕ, List, [], ◌∷◌, Some}
use Rattle.m51_asm.specs.Answer as answer
use Rattle.m51_asm.specs.Answer.{AnswerTree, IsAnswer}
use Rattle.m51_inputs.specs.Files.{includes_of, sources_of}
use Rattle.m51_module.specs.declared.source.SourceFile.{SourceFile}
use Rattle.m51_print.specs.Listing.{listing_of}
use Rattle.m51_records.specs.Spelling.{bytes_of}
use Rattle.m51_jobs.specs.declared.job.AsmJob.{AsmJob}
use Rattle.m51_chain.specs.declared.status.Status.TheVariants.{Ran}
use Rattle.m51_chain.specs.declared.work.Reason.TheVariants as reason
use Rattle.m51_chain.specs.FaultLines.{fault_lines}
use Rattle.m51_chain.specs.Outcome.{Outcome, refused}

-- the faults of the source, or its object, which is kept, with its listing
abbrev pub assembled_outcome : List (List ℕ) → SourceFile → List SourceFile → AnswerTree → Outcome
assembled_outcome files source includes (answer.Faults faults) =
    refused reason.Source (fault_lines source.name files faults)
assembled_outcome files source includes (answer.Gives parts rows) =
    record { status = Ran; text = listing_of source includes rows; keeps = Some (bytes_of parts) }

-- what asm makes of a source and its includes: that of what the assembler answers
pub record IsAssembledOutcome
    (files : List (List ℕ)) (source : SourceFile) (includes : List SourceFile) (outcome : Outcome)
    : Type 0 where
  pub answer : AnswerTree
  pub answered : IsAnswer source includes answer
  pub is : outcome ≡ assembled_outcome files source includes answer

-- there is one source
abbrev pub IsOneOutcome : List (List ℕ) → List SourceFile → List SourceFile → Outcome → Type 0
IsOneOutcome files (source ∷ []) includes outcome = IsAssembledOutcome files source includes outcome
IsOneOutcome files sources includes outcome = ⊥

-- what asm makes of the contents of its files
abbrev pub IsAsmOutcome : AsmJob → List (List ℕ) → Outcome → Type 0
IsAsmOutcome job contents outcome =
    IsOneOutcome job.files (sources_of job.files contents) (includes_of job.files contents) outcome
