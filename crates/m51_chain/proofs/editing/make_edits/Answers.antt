use Rattle.m51_chain.proofs.Common.{ap, edited_each, sym, ◌∙◌}
use Rattle.m51_chain.proofs.Edits.{none_left}
use Rattle.m51_chain.proofs.editing.make_edits.Goals as goal

pub returns : goal.returns
returns c = sym c.loop-edit.invariant
    ∙ ap (edited_each c.loop-edit.library) (none_left _ _ c.in_default.ensures.items c.in_default.ensures.rest)
