use Rattle.m51_sim.proofs.StoresRead.{lies}
use Rattle.m51_sim.proofs.judging.lie_inside.Goals as goal

pub returns : goal.returns
returns c =
    lies _ _ c.args.pc c.args.count _ c.cite_stores.ensures.sound c.holds.ensures.inside c.holds.ensures.outside
