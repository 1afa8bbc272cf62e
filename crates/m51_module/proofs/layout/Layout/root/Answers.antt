use Rattle.m51_module.proofs.Units.{root_at}
use Rattle.m51_module.proofs.layout.Layout.root.Goals as goal

pub returns-in-None-clause-only : goal.returns-in-None-clause-only
returns-in-None-clause-only c = λ unit h.
    absurd (cc (
      c.in-None.is,
      c.unit_at.ensures.only unit
          (root_at c.args.self.now c.units.ensures.sound c.args.vector unit h),
    ))
