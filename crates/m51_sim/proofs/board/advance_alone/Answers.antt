use Rattle.m51_sim.proofs.Common.{inputs_of}
use Rattle.m51_sim.proofs.Passes.{no_extra, none_are_few}
use Rattle.m51_sim.proofs.board.advance_alone.Goals as goal

pub advance-is_told-requires-clause-few : goal.advance-is_told-requires-clause-few
advance-is_told-requires-clause-few c = none_are_few

pub returns-clause-step : goal.returns-clause-step
returns-clause-step c =
    rw c.told_in.ensures (rw (no_extra (inputs_of c.args.chip.now.script)) at c.advance-is_told.ensures.step)
