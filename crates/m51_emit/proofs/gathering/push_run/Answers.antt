use Rattle.std.proofs.Common.{◌≡◌, List, OnOk, subst, sym}
use Rattle.m51_emit.specs.Pieces.{Run}
use Rattle.m51_emit.proofs.GrownRuns.{run_after}
use Rattle.m51_emit.proofs.gathering.push_run.Goals as goal

pub returns-in-Some-clause-runs : goal.returns-in-Some-clause-runs
returns-in-Some-clause-runs c =
    subst (λ (runs : List Run). OnOk c.push_after.result (c.push_after.new.runs.items ≡ runs))
    (run_after _ c.pop.new.self.items c.in-Some.last c.args.at c.args.bytes.now c.in-Some.ensures.items
    (sym c.if-is_empty.ensures))
    c.push_after.ensures.runs
