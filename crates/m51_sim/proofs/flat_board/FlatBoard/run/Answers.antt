use Rattle.m51_sim.proofs.Beginning.{is_flat_report}
use Rattle.m51_sim.proofs.flat_board.FlatBoard.run.Goals as goal

pub returns-clause-report : goal.returns-clause-report
returns-clause-report g c =
    λ image script start. is_flat_report image script c.args.n _ _ c.args.self.now c.run.new.board c.run.result start
    c.run.ensures.ended
