use Rattle.m51_chain.proofs.Built.{bound_of_layout}
use Rattle.m51_chain.proofs.analysing.bound_text.Goals as goal

pub stack_text-requires : goal.stack_text-requires
stack_text-requires c = bound_of_layout _ c.requires.0 _ c.requires.1
