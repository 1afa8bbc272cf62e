use Rattle.std.proofs.Common.{arith}
use Rattle.m51_linker.specs.Memory.{image_at}
use Rattle.m51_linker.proofs.Written.{put_written}
use Rattle.m51_linker.proofs.memory.put_bytes.Goals as goal

pub returns : goal.returns
returns c =
    put_written c.args.at c.args.bytes.now c.loop-index.index (image_at c.args.image.now) (image_at c.loop-index.image)
    (omega (arith, c.loop-index.auto.index-end, c.loop-index-test.false)) c.loop-index.invariant.put
