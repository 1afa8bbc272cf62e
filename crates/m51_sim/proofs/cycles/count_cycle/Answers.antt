use Rattle.m51_sim.proofs.Common.{[], sym, inputs_of, with_extra}
use Rattle.m51_script.specs.Levels.{all_high}
use Rattle.m51_sim.proofs.Passes.{cycle_is}
use Rattle.m51_sim.proofs.Quiet.{no_frames, same_pins}
use Rattle.m51_sim.proofs.cycles.count_cycle.Goals as goal

pub returns-clause-passed : goal.returns-clause-passed
returns-clause-passed c =
    let script = c.args.script.now in
    let extra = c.args.extra.now in
    let counts = c.requires.counts in
    cycle_is (with_extra extra (inputs_of script)) _ _ all_high [] _ c.next_cycle-cycle.ensures
    (sym (same_pins script extra counts.pins counts.frames c.requires.alone _))
    (sym (no_frames script extra counts.pins counts.frames c.requires.alone _)) c.count_cycle-sent.ensures.tick
    c.keep_sent.ensures
