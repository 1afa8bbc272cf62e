use Rattle.m51_chain.proofs.Common.{Err, IsInputsOutcome, IsLinkedOr, inputs_tree}
use Rattle.m51_chain.specs.Linking.{program_in}
use Rattle.m51_chain.specs.ProgramFiles.{Nothing, program_files}
use Rattle.m51_chain.proofs.Following.{came, file_refused, inputs_refused}
use Rattle.m51_chain.proofs.linking.link_files.Goals as goal

pub returns-in_err-linked-clause-answer : goal.returns-in_err-linked-clause-answer
returns-in_err-linked-clause-answer c =
    let unlinked : IsLinkedOr (program_in (inputs_tree c.in_ok-modules.field-0)) (Err c.in_err-linked.field-0.0) =
    rw c.deref.ensures.value at c.in_err-linked.ensures.answer in
    rw (came c.from_residual-in_err-linked.result _ c.from_residual-in_err-linked.ensures.1)
    (inputs_refused (program_files c.args.files.now c.args.control.now c.args.script.now) c.args.contents.now
    (IsInputsOutcome (λ script. Nothing))
    (inputs_tree c.in_ok-modules.field-0) _ c.in_ok-modules.ensures unlinked)

pub returns-in_err-modules-clause-answer : goal.returns-in_err-modules-clause-answer
returns-in_err-modules-clause-answer c =
    rw (came c.from_residual.result _ c.from_residual.ensures.1)
    (file_refused (program_files c.args.files.now c.args.control.now c.args.script.now) c.args.contents.now
    (IsInputsOutcome (λ script. Nothing)) _ c.in_err-modules.ensures)
