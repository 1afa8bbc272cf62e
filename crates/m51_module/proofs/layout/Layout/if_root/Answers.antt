use Rattle.std.proofs.Common.{ap, Some}
use Rattle.m51_module.proofs.Units.{root_is}
use Rattle.m51_module.proofs.layout.Layout.if_root.Goals as goal

pub returns-then-is_root-clause-only : goal.returns-then-is_root-clause-only
returns-then-is_root-clause-only c =
    λ unit h. ap Some (root_is c.args.self.now c.requires.sound c.args.vector c.args.unit unit c.requires.at h)

pub returns-clause-only : goal.returns-clause-only
returns-clause-only c = λ unit h.
    let own = rw (← root_is c.args.self.now c.requires.sound c.args.vector c.args.unit unit c.requires.at h) at h in
    absurd (cc (c.if-is_root.false, c.is_root.ensures.1 (rw c.from.ensures own)))
