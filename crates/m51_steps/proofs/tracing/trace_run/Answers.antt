use Rattle.m51_sim.specs.Boards.{separate_of}
use Rattle.m51_sim.specs.Runs.{record_of}
use Rattle.m51_steps.specs.Traced.{machine_of}
use Rattle.m51_steps.proofs.Ended.{noted_traced}
use Rattle.m51_steps.proofs.tracing.trace_run.Goals as goal

pub returns-clause-traced : goal.returns-clause-traced
returns-clause-traced g c =
    let first = c.args.board.now in
    noted_traced (record_of (machine_of first) c.args.n (separate_of first)) (separate_of c.run_titled.new.board)
    (g.S.Sink.state c.args.out.now).text (g.S.Sink.state c.run_titled.new.out).text c.heading.result.now
    c.args.shape.now first c.args.n c.run_titled.result c.heading.ensures c.run_titled.ensures.traced
