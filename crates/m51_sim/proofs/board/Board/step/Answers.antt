use Rattle.m51_sim.proofs.Sums.{step_from_advance}
use Rattle.m51_sim.proofs.board.Board.step.Goals as goal

pub returns-clause-step : goal.returns-clause-step
returns-clause-step c =
    rw (← c.self.view_is) (step_from_advance _ _ _ _ _ c.advance_alone-answer.ensures.step c.step_told.ensures)
