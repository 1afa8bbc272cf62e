use Rattle.m51_sim.proofs.Common.{map_of}
use Rattle.m51_sim.proofs.Flatly.{effect_done, effect_down, flat_whole}
use Rattle.m51_sim.proofs.flat_board.execute.Goals as goal

pub returns-in-Ok-clause-value : goal.returns-in-Ok-clause-value
returns-in-Ok-clause-value c =
    let memory = c.args.memory.now in
    effect_done _ _ (map_of memory) c.args.instr.now _ _ _ _ c.cpu.ensures c.bytes.ensures.list c.pins.ensures _
    (c.in-Ok.ensures.whole (map_of memory) (flat_whole memory))

pub returns-in-Err-PowerDown-clause-value : goal.returns-in-Err-PowerDown-clause-value
returns-in-Err-PowerDown-clause-value c =
    let memory = c.args.memory.now in
    rw c.pc.ensures
    (effect_down _ _ (map_of memory) c.args.instr.now _ _ _ _ c.cpu.ensures c.bytes.ensures.list c.pins.ensures
    (rw c.in-Err-PowerDown.field-0-is at c.in-Err-PowerDown.ensures.whole (map_of memory) (flat_whole memory)))
