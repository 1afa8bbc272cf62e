use Rattle.m51_sim.proofs.Common.{refl, stores_read}
use Rattle.m51_sim.proofs.StoresRead.{read_same}
use Rattle.m51_sim.proofs.judging.commit_any.Goals as goal

pub returns-clause-memory : goal.returns-clause-memory
returns-clause-memory c =
    let old = c.args.monitor.now in
    let new = c.commit.new.self in
    let stores = read_same new c.cite_stores-2.ensures.sound c.cite_stores-2.ensures.records _
    (c.commit.ensures.stores (stores_read old) c.cite_stores.ensures.stores) in
    rw (stores, c.commit.ensures.records) refl
