use Rattle.m51_chain.proofs.Common.{[], ap, arith, ◌++◌, ◌∙◌, ◌∷◌}
use Rattle.m51_chain.proofs.Edits.{next_object}
use Rattle.m51_chain.proofs.editing.object_edits.Goals as goal

pub loop-at-preserved : goal.loop-at-preserved
loop-at-preserved c =
    next_object c.args.operation.now c.args.names.now c.args.files.now c.loop-at.at c.index-names-at.result
    c.index-files-at.result c.loop-at.edits _ c.in_ok-object.object _
    (omega arith) (omega arith) c.index-names-at.is c.index-files-at.is c.in_ok-object.ensures
    (c.in_ok-push.ensures.ok ∙ ap (λ made. c.loop-at.edits ++ made ∷ []) c.object_edit.ensures) c.loop-at.invariant
