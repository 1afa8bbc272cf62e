use Rattle.m51_sim.proofs.StoresRead.{one_covers}
use Rattle.m51_sim.proofs.board.Board.stands.Goals as goal

pub returns-clause-state : goal.returns-clause-state
returns-clause-state c =
    rw (← c.self.view_is)
    (record {
      stores = c.cite_stores.ensures.stores;
      records = c.cite_stores.ensures.records;
      order = c.self.invariant.order;
    })

pub returns-clause-one : goal.returns-clause-one
returns-clause-one c =
    rw (← c.self.view_is) (one_covers c.self.inside.monitor c.cite_stores.ensures.sound c.cite_stores.ensures.records)
