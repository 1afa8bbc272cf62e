use Rattle.m51_sim.specs.SeparateMachine.{separate_machine}
use Rattle.m51_steps.proofs.Alone.{alone}
use Rattle.m51_steps.proofs.laws.notes_are_all.Goals as goal

pub returns : goal.returns
returns c = λ l image inputs titles n first. alone titles (separate_machine l image inputs) n first
