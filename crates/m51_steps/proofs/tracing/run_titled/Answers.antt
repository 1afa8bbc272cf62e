use Rattle.m51_sim.specs.Boards.{separate_of}
use Rattle.m51_sim.specs.Runs.{record_of}
use Rattle.m51_steps.specs.Traced.{machine_of}
use Rattle.m51_steps.proofs.Ended.{noted_after}
use Rattle.m51_cells.proofs.Fronts.{front_more}
use Rattle.m51_steps.proofs.tracing.run_titled.Goals as goal

pub returns-in-Ok-clause-traced : goal.returns-in-Ok-clause-traced
returns-in-Ok-clause-traced g c =
    let first = c.args.board.now in
    noted_after (record_of (machine_of first) c.args.n (separate_of first)) (separate_of c.run_and_end.new.board)
    _ _ _ _ _ c.run_and_end.result c.in-Ok.ensures.whole c.run_and_end.ensures.traced

pub returns-in-Err-clause-traced : goal.returns-in-Err-clause-traced
returns-in-Err-clause-traced g c = front_more _ _ _ _ c.in-Err.ensures.front
