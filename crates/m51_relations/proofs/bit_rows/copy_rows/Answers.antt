use Rattle.std.proofs.Common.{◌∙◌, arith}
use Rattle.std.proofs.lemmas.List.{take_all}
use Rattle.m51_relations.proofs.bit_rows.copy_rows.Goals as goal

pub returns : goal.returns
returns c = c.loop-row.invariant ∙ take_all c.loop-row.row-index c.args.rows.now (omega (arith, c.loop-row-test.false))
