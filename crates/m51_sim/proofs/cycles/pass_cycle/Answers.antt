use Rattle.m51_sim.proofs.Common.{refl, inputs_of, with_extra}
use Rattle.m51_sim.proofs.Passes.{cycle_is}
use Rattle.m51_sim.proofs.cycles.pass_cycle.Goals as goal

pub returns : goal.returns
returns c =
    let inputs = with_extra c.args.extra.now (inputs_of c.args.script.now) in
    cycle_is inputs c.args.passing.now _ _ _ c.tick-sent.result c.next_cycle-cycle.ensures refl refl c.tick-sent.ensures
    c.keep_sent.ensures
