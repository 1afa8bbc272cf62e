use Rattle.m51_sim.proofs.Common.{◌≡◌, length, take, frames_in}
use Rattle.m51_sim.proofs.cycles.batch_at.Given as goal

abbrev pub invariant-loop-timed : goal.invariant-loop-timed
invariant-loop-timed l = record {
  frames : take l.batch.count l.batch.frames ≡ frames_in l.cycle (take l.timed-index l.extra);
  count : l.batch.count ≡ length (frames_in l.cycle (take l.timed-index l.extra));
}
