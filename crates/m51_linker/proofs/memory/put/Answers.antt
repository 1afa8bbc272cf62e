use Rattle.std.proofs.Common.{arith}
use Rattle.m51_linker.specs.Memory.{held_at}
use Rattle.m51_linker.proofs.Written.{put_written}
use Rattle.m51_linker.proofs.memory.put.Goals as goal

pub returns : goal.returns
returns c =
    put_written c.args.at c.args.bytes.now c.loop-index.index (held_at c.args.memory.now) (held_at c.loop-index.memory)
    (omega (arith, c.loop-index.auto.index-end, c.loop-index-test.false)) c.loop-index.invariant
