use Rattle.m51_monitor.proofs.Lists.{first_under}
use Rattle.m51_monitor.proofs.activity.Activity.last_end.Goals as goal

pub end_of-requires : goal.end_of-requires
end_of-requires c =
    rw (rw (← c.self.view_is) at c.last.ensures)
    (first_under _ _ (rw (← c.self.view_is) at c.requires) c.self.invariant.0.times_are.below)
