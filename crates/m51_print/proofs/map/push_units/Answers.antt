use Rattle.std.proofs.Common.{append_assoc}
use Rattle.std.proofs.lemmas.List.{append-nil}
use Rattle.m51_print.proofs.Steps.{no_unit_lines, unit_lines_more}
use Rattle.m51_print.proofs.map.push_units.Goals as goal

pub loop-unit-init : goal.loop-unit-init
loop-unit-init c = rw (no_unit_lines c.args.layout.now c.args.roots.now, append-nil)

pub loop-unit-preserved : goal.loop-unit-preserved
loop-unit-preserved c = rw (c.in_ok-push_unit.ensures, c.loop-unit.invariant, unit_lines_more, append_assoc)
