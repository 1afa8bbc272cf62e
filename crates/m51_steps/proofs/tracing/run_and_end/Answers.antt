use Rattle.std.proofs.Common.{ℕ, List, subst}
use Rattle.std.specs.Io.KnownBytes.{Appends}
use Rattle.m51_cells.specs.Outside.{AppendsFront}
use Rattle.m51_sim.specs.Boards.{separate_of}
use Rattle.m51_sim.specs.Runs.{record_of}
use Rattle.m51_steps.specs.Traced.{machine_of, noted_run, run_table}
use Rattle.m51_steps.proofs.Ended.{noted_then, noted_then_cut}
use Rattle.m51_cells.proofs.Fronts.{front_more}
use Rattle.m51_steps.proofs.Tabled.{ending_same}
use Rattle.m51_steps.proofs.tracing.run_and_end.Goals as goal

pub returns-in-Err-clause-traced : goal.returns-in-Err-clause-traced
returns-in-Err-clause-traced g c = front_more _ _ _ _ c.in-Err.ensures.noted

pub returns-in-Ok-write_ending-clause-traced : goal.returns-in-Ok-write_ending-clause-traced
returns-in-Ok-write_ending-clause-traced g c =
    let first = c.args.board.now in
    let same = ending_same c.args.shape.now c.run_noted.new.board.chip.image first.chip.image c.run_noted.new.counts
    (run_table first c.args.n) c.in-Ok.ensures.image c.in-Ok.ensures.counted in
    noted_then (record_of (machine_of first) c.args.n (separate_of first)) (separate_of c.run_noted.new.board) _ _ _
    (noted_run c.args.shape.now first c.args.n) _ _ c.in-Ok.ensures.noted
    (subst (λ (t : List ℕ). Appends (g.S.Sink.state c.run_noted.new.out).text
    (g.S.Sink.state c.write_ending.new.out).text t) same c.in-Ok-write_ending.ensures.whole)

pub returns-in-Err-write_ending-clause-traced : goal.returns-in-Err-write_ending-clause-traced
returns-in-Err-write_ending-clause-traced g c =
    let first = c.args.board.now in
    let same = ending_same c.args.shape.now c.run_noted.new.board.chip.image first.chip.image c.run_noted.new.counts
    (run_table first c.args.n) c.in-Ok.ensures.image c.in-Ok.ensures.counted in
    noted_then_cut (record_of (machine_of first) c.args.n (separate_of first)) (separate_of c.run_noted.new.board) _ _ _
    (noted_run c.args.shape.now first c.args.n) _ _ c.in-Ok.ensures.noted
    (subst (λ (t : List ℕ). AppendsFront (g.S.Sink.state c.run_noted.new.out).text
    (g.S.Sink.state c.write_ending.new.out).text t) same c.in-Err-write_ending.ensures.front)
