use Rattle.m51_resolve.proofs.Common.{◌+◌, length, map, MOST_MODULES}
use Rattle.std.proofs.Common.{◌-◌}
use Rattle.m51_resolve.proofs.Choices.{AreAsked, IsChoosing}
use Rattle.m51_resolve.proofs.choosing.choose_of.Given as goal

abbrev pub invariant-loop-index : goal.invariant-loop-index
invariant-loop-index l = record {
  choosing : IsChoosing l.fn.given (map (λ m. m.now) l.members) l.chosen;
  asked : AreAsked l.fn.given (map (λ m. m.now) l.members) l.chosen;
}

abbrev pub decreases-loop-index : goal.decreases-loop-index
decreases-loop-index l = MOST_MODULES + 1 - length l.chosen
