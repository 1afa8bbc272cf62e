use Rattle.m51_sim.proofs.Common.{stores_read}
use Rattle.m51_monitor.specs.Shared.{shared_cells}
use Rattle.m51_sim.proofs.Preparing.{vector_ready}
use Rattle.m51_sim.proofs.judging.vector_outcome.Goals as goal

pub returns-clause-value : goal.returns-clause-value
returns-clause-value c =
    rw (
      c.store.ensures.barred,
      c.store.ensures.answers (stores_read c.args.monitor.now) c.cite_stores.ensures.stores,
    ) at
    c.vector_into.ensures.outcome

pub returns-clause-ready : goal.returns-clause-ready
returns-clause-ready c =
    vector_ready _ _ c.args.source (shared_cells c.args.monitor.now.store) _ c.requires.order c.requires.taken
    (rw c.store.ensures.store at c.vector_into.ensures.outcome)
    (rw c.store.ensures.store at c.vector_into.ensures.missing) c.vector_into.ensures.control
