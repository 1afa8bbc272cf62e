use Rattle.m51_flat.proofs.Common.{◌≡◌, ◌∙◌, length, rules}
use Rattle.m51_flat.proofs.Outcomes.{outcome_control, outcome_levels, outcome_parity, outcomes_agree}
use Rattle.m51_flat.proofs.Whole.{whole_outcome}
use Rattle.m51_flat.proofs.executing.exec_into.Goals as goal

pub returns-clause-over_map : goal.returns-clause-over_map
returns-clause-over_map g c = λ m agrees. c.run.ensures.value ∙ outcomes_agree m _ _ _ _ _ _ agrees

pub returns-clause-whole : goal.returns-clause-whole
returns-clause-whole g c = λ m whole. c.run.ensures.value
    ∙ whole_outcome m c.args.cpu.now (g.M.CellStore.cells c.args.store.now)
    (g.M.CellStore.barred c.args.store.now) c.args.instr.now c.args.image.now c.args.ext.now
    (g.met.M.CellStore.are_cells c.args.store.now) whole (rw c.run.ensures.value at c.run.ensures.cause)

pub returns-clause-parity : goal.returns-clause-parity
returns-clause-parity g c =
    let len : length c.args.cpu.now.regs ≡ 128 = search rules in
    rw c.run.ensures.value (outcome_parity c.args.cpu.now _ _ _ _ _ len)

pub returns-clause-control : goal.returns-clause-control
returns-clause-control g c =
    let len : length c.args.cpu.now.regs ≡ 128 = search rules in
    rw c.run.ensures.value (outcome_control c.args.cpu.now _ _ _ _ _ len)

pub returns-clause-levels : goal.returns-clause-levels
returns-clause-levels g c = rw c.run.ensures.value (outcome_levels c.args.cpu.now _ _ _ _ _)
