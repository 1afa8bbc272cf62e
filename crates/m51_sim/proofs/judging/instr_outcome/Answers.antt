use Rattle.m51_sim.proofs.Common.{stores_read}
use Rattle.m51_monitor.specs.Shared.{shared_cells}
use Rattle.m51_sim.proofs.Preparing.{instr_ready}
use Rattle.m51_sim.proofs.judging.instr_outcome.Goals as goal

pub returns-clause-value : goal.returns-clause-value
returns-clause-value c =
    rw (
      c.cpu.ensures,
      c.bytes.ensures.list,
      c.pins.ensures,
      c.store.ensures.barred,
      c.store.ensures.answers (stores_read c.args.monitor.now) c.cite_stores.ensures.stores,
    ) at c.exec_into.ensures.outcome

pub returns-clause-ready : goal.returns-clause-ready
returns-clause-ready c =
    rw (← c.cpu.ensures)
    (instr_ready _ _ (shared_cells c.args.monitor.now.store) _ _ _ _
    (rw c.store.ensures.store at c.exec_into.ensures.outcome) (rw c.store.ensures.store at c.exec_into.ensures.missing)
    c.exec_into.ensures.control c.exec_into.ensures.levels)
