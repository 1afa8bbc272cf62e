use Rattle.m51_sim.proofs.StoresRead.{read_stands}
use Rattle.m51_sim.proofs.judging.cite_stores.Goals as goal

pub returns-clause-stores : goal.returns-clause-stores
returns-clause-stores c = read_stands c.args.monitor.now (rw c.layout.ensures at c.placed.ensures.sound)
    c.depth.ensures.records c.store.ensures.stands
