use Rattle.m51_chain.proofs.Common.{◌∙◌}
use Rattle.m51_chain.proofs.Built.{listed}
use Rattle.m51_chain.proofs.assembling.list.Goals as goal

pub returns : goal.returns
returns c = λ files. listed files _ _ _ _ _ _ (c.of.ensures ∙ c.in_ok-object.ensures)
    (c.of-2.ensures ∙ c.in_ok-text.ensures)
