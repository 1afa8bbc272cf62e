use Rattle.m51_graph.proofs.Common.{◌<◌, length, arith}
use Rattle.std.proofs.lemmas.List.{take_all}
use Rattle.m51_graph.proofs.NamedUnits.{before_all, before_more}
use Rattle.m51_graph.proofs.unit_names.numbers_of.Goals as goal

pub loop-unit-preserved : goal.loop-unit-preserved
loop-unit-preserved c =
    let below : c.loop-unit.unit < length c.args.titles.now = omega arith in
    before_more c.args.titles.now c.loop-unit.unit c.index-titles-unit.result c.index-titles-unit.result
    c.loop-unit.numbers.entries c.note.new.numbers.entries below
    c.index-titles-unit.is c.loop-unit.invariant (λ name. c.in_ok-note.ensures.0 name)

pub returns : goal.returns
returns c =
    let i = c.loop-unit.unit in
    before_all c.args.titles.now i c.loop-unit.numbers.entries c.requires
    (take_all i c.args.titles.now (omega (arith, c.loop-unit-test.false))) c.loop-unit.invariant
