use Rattle.m51_party.proofs.SameBoards.{made_boards, made_party}
use Rattle.m51_chain.proofs.unrun.UnrunParty.make.Goals as goal

pub invariant_of-result : goal.invariant_of-result
invariant_of-result c = made_party _ _ c.in_ok-make.ensures

pub returns : goal.returns
returns c = made_boards _ _ c.in_ok-make.ensures
