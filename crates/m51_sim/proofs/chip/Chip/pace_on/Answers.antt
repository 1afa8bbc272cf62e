use Rattle.std.proofs.Common.{rules}
use Rattle.std.specs.Prelude.{IsTrue}
use Rattle.m51_sim.proofs.Quiet.{devices_kept}
use Rattle.m51_sim.proofs.chip.Chip.pace_on.Goals as goal

pub keeps_pace-requires : goal.keeps_pace-requires
keeps_pace-requires c =
    let plain : IsTrue c.args.draft.now.plain = search rules in
    devices_kept c.self.inside.script c.self.inside.passing (search rules) c.in-Some.pace _
    (rw c.in-Some.is at c.self.invariant) (rw (← c.self.view_is) at (c.requires plain))
