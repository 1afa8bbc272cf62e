use Rattle.std.proofs.Common.{rules}
use Rattle.std.specs.Prelude.{IsTrue}
use Rattle.m51_sim.proofs.Quiet.{counted_after}
use Rattle.m51_sim.proofs.chip.Chip.is_counted.Goals as goal

pub returns-in-Some-clause-counts : goal.returns-in-Some-clause-counts
returns-in-Some-clause-counts c = λ is.
    let plain : IsTrue c.args.draft.now.plain = search rules in
    rw (← c.self.view_is)
    (counted_after c.self.inside.script c.self.inside.passing (search rules) _ _
    (rw (c.in-Some.is, c.is_counting.ensures is) at c.self.invariant) (rw (← c.self.view_is) at (c.requires plain)))
