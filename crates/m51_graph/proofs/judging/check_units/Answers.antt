use Rattle.std.proofs.lemmas.Result.{err_from_is_err_and}
use Rattle.m51_resolve.specs.Rules.{but_memory}
use Rattle.m51_graph.proofs.Drawn.{drop_rest}
use Rattle.m51_graph.proofs.Judged.{passed_none, refuses_more}
use Rattle.m51_graph.proofs.judging.check_units.Goals as goal

pub loop-unit-preserved : goal.loop-unit-preserved
loop-unit-preserved c =
    let passes = passed_none _ c.in_ok-check_unit.field-0 c.in_ok-check_unit.ensures in
    rw (
      drop_rest c.args.titles.now c.loop-unit.unit c.index-titles-unit.result c.loop-unit-test.true,
      ← c.index-titles-unit.is,
      passes,
    ) at c.loop-unit.invariant

pub returns-in_err-check_unit : goal.returns-in_err-check_unit
returns-in_err-check_unit c =
    let p = err_from_is_err_and c.from_residual.result c.from_residual.ensures.1 in
    rw (
      p.1,
      p.2,
      ← c.loop-unit.invariant,
      drop_rest c.args.titles.now c.loop-unit.unit c.index-titles-unit.result c.loop-unit-test.true,
      ← c.index-titles-unit.is,
    )
    (refuses_more (but_memory c.in_err-check_unit.field-0.0) _ _ c.in_err-check_unit.ensures)
