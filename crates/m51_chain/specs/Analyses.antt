-- What dis and stack make of their files: both link the program, and look at it.
use Rattle.std.specs.Prelude.{◌≡◌, ℕ, List, None, Result, Ok, Err}
use Rattle.m51_disasm.specs.Answer.{disassembled}
use Rattle.m51_module.specs.declared.linked.Quantity.{Quantity}
use Rattle.m51_module.specs.declared.linked.Refusal.TheVariants as refusal
use Rattle.m51_module.specs.declared.parts.LayoutParts.{LayoutParts}
use Rattle.m51_module.specs.declared.stack_bound.StackBound.{StackBound}
use Rattle.m51_module.specs.declared.stack_bound.StackError.{StackError}
use Rattle.m51_module.specs.declared.stack_bound.StackError.TheVariants.{Limit}
use Rattle.m51_module.specs.Sound.{IsSound}
use Rattle.m51_print.specs.Stack.{stack_of, stack_refusal}
use Rattle.m51_stackbound.specs.Bounds.{Answers}
use Rattle.m51_stackbound.specs.Laws.{IsTied}
use Rattle.m51_chain.specs.declared.work.Reason.{Reason}
use Rattle.m51_chain.specs.declared.work.Reason.TheVariants as reason
use Rattle.m51_chain.specs.LinkRefusals.{link_outcome}
use Rattle.m51_chain.specs.Outcome.{Outcome, refused, written}
use Rattle.m51_jobs.specs.declared.job.LinkJob.{LinkJob}
use Rattle.m51_chain.specs.Linking.{IsLinkedOutcome}
use Rattle.m51_chain.specs.ProgramFiles.{ProgramFiles, program_files}

-- the text is written, or it passes a limit
abbrev pub text_outcome : Result (List ℕ) Quantity → Outcome
text_outcome (Ok text) = written text
text_outcome (Err what) = link_outcome (refusal.Limit what)

-- the text of an image and its layout as a source
abbrev pub IsDisassembled : LayoutParts → List ℕ → Outcome → Type 0
IsDisassembled layout image outcome = outcome ≡ text_outcome (disassembled layout image)

-- a bound is refused at the limit of points, or by K1 to K6
abbrev pub reason_of : StackError → Reason
reason_of Limit = reason.Limit
reason_of other = reason.Stack

-- the bound is written, or why there is none; never used for out of memory
abbrev pub bound_outcome : LayoutParts → Result StackBound StackError → Outcome
bound_outcome l (Ok bound) = written (stack_of l bound)
bound_outcome l (Err why) = refused (reason_of why) (stack_refusal why)

-- the stack bound of an image, whose layout is sound, or why it has none, which is not out of memory
pub record IsBounded (layout : LayoutParts) (image : List ℕ) (outcome : Outcome) : Type 0 where
  pub sound : IsSound layout
  pub answer : Result StackBound StackError
  pub tied : IsTied answer
  pub answers : Answers layout image answer
  pub is : outcome ≡ bound_outcome layout answer

-- they take no script
abbrev pub link_files : LinkJob → ProgramFiles
link_files job = program_files job.files job.control None

-- what dis makes of the contents of its files
abbrev pub IsDisOutcome : LinkJob → List (List ℕ) → Outcome → Type 0
IsDisOutcome job contents outcome =
    IsLinkedOutcome (link_files job) contents (λ script linked. IsDisassembled linked.layout linked.image) outcome

-- what stack makes of the contents of its files
abbrev pub IsStackOutcome : LinkJob → List (List ℕ) → Outcome → Type 0
IsStackOutcome job contents outcome =
    IsLinkedOutcome (link_files job) contents (λ script linked. IsBounded linked.layout linked.image) outcome
