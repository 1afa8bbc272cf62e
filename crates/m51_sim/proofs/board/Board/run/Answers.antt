use Rattle.m51_sim.proofs.Beginning.{is_report}
use Rattle.m51_sim.proofs.board.Board.run.Goals as goal

pub returns-clause-report : goal.returns-clause-report
returns-clause-report g c =
    λ l image script start. is_report l image script c.args.n _ _ c.args.self.now c.run.new.board c.run.result start
    c.run.ensures.ended
