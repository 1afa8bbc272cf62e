use Rattle.m51_monitor.proofs.Common.{length}
use Rattle.m51_monitor.proofs.Placing.{item_is}
use Rattle.m51_monitor.proofs.activity.turn_local.Goals as goal

pub bounds-holders-from : goal.bounds-holders-from
bounds-holders-from c =
    rw c.from.ensures (item_is c.args.locals.now (length c.args.holders.now) c.args.index
    (rw c.requires.holders c.requires.locals) c.requires.index)
