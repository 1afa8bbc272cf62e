use Rattle.std.proofs.Common.{rules}
use Rattle.m51_flat.specs.Outcome.{outcome_by}
use Rattle.m51_irq.proofs.Taken.{registers_before, vector_control, vector_parity, vector_whole}
use Rattle.m51_irq.proofs.vectoring.vector_into.Goals as goal

pub returns-clause-whole : goal.returns-clause-whole
returns-clause-whole g c =
    λ free. vector_whole (outcome_by c.conclude.result c.vector_effect.new.effect) c.args.cpu.now
    (g.M.CellStore.barred c.args.store.now) c.args.source (search rules) free

pub returns-clause-parity : goal.returns-clause-parity
returns-clause-parity g c =
    vector_parity (outcome_by c.conclude.result c.vector_effect.new.effect) c.args.cpu.now
    (g.M.CellStore.barred c.args.store.now) c.args.source (search rules)
    (registers_before c.args.cpu.now c.args.source c.vector_effect.ensures.registers)

pub returns-clause-control : goal.returns-clause-control
returns-clause-control g c =
    vector_control (outcome_by c.conclude.result c.vector_effect.new.effect) c.args.cpu.now
    (g.M.CellStore.barred c.args.store.now) c.args.source (search rules)
    (registers_before c.args.cpu.now c.args.source c.vector_effect.ensures.registers)
