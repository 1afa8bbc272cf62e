use Rattle.m51_sim.proofs.Common.{ap, ◌∙◌}
use Rattle.m51_sim.specs.Run.{told_by}
use Rattle.m51_sim.proofs.Sums.{told_from_advance}
use Rattle.m51_sim.proofs.board.Board.step_on.Goals as goal

pub returns-clause-step : goal.returns-clause-step
returns-clause-step c =
    rw (← c.self.view_is)
    (told_from_advance _ _ _ _ _ c.advance-is_told.ensures.step (c.told_by.ensures ∙ ap told_by c.told_in.ensures))
