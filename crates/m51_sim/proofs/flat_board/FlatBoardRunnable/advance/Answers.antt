use Rattle.m51_sim.proofs.flat_board.FlatBoardRunnable.advance.Goals as goal

pub returns-clause-step : goal.returns-clause-step
returns-clause-step c = rw (← c.self.view_is) c.advance.ensures.step
