use Rattle.m51_resolve.proofs.Choices.{one_choice}
use Rattle.m51_resolve.proofs.laws.choices_are_one.Goals as goal

pub returns : goal.returns
returns c = one_choice
