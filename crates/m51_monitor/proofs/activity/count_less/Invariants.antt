use Rattle.m51_monitor.proofs.Common.{◌≡◌, ◌+◌, ℕ, length, slice_index, times}
use Rattle.m51_monitor.proofs.Entering.{left}
use Rattle.m51_monitor.proofs.activity.count_less.Given as goal

abbrev pub invariant-loop-index : goal.invariant-loop-index
invariant-loop-index l = record {
  len : length l.holders ≡ length l.fn.holders;
  number : (t : ℕ) → slice_index l.holders t + times l.locals t ≡ slice_index l.fn.holders t + left l.locals l.index t;
}
