use Rattle.m51_sim.proofs.Common.{arith, false}
use Rattle.m51_sim.proofs.FurtherFrames.{count_step, frames_fit, frames_step}
use Rattle.m51_sim.proofs.cycles.batch_at.Goals as goal

pub add-requires : goal.add-requires
add-requires c = frames_fit c.args.cycle c.args.extra.now c.loop-timed.timed-index _ c.loop-timed.batch.count
    (omega arith) c.requires c.loop-timed.invariant.count

pub loop-timed-preserved : goal.loop-timed-preserved
loop-timed-preserved c = record {
  frames = frames_step c.args.cycle c.args.extra.now c.loop-timed.timed-index
      (record { cycle = 0; frame = record { byte = 0; ninth = false } }) _ _ (omega arith) c.loop-timed.invariant.frames
      c.add.ensures.frames;
  count = count_step c.args.cycle c.args.extra.now c.loop-timed.timed-index
      (record { cycle = 0; frame = record { byte = 0; ninth = false } }) _ _ (omega arith) c.loop-timed.invariant.count
      c.add.ensures.count;
}
