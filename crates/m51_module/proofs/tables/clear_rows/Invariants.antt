use Rattle.m51_module.specs.Kept.{AreClear}
use Rattle.m51_module.proofs.tables.clear_rows.Given as goal

abbrev pub invariant-loop : goal.invariant-loop
invariant-loop l = AreClear l.counter l.count l.rows.items
