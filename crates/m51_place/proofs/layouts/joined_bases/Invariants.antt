use Rattle.m51_place.proofs.Common.{joined_base, map, range_with_len, ◌≡◌}
use Rattle.m51_place.proofs.layouts.joined_bases.Given as goal

abbrev pub invariant-loop-number : goal.invariant-loop-number
invariant-loop-number l = l.bases.items ≡ map (joined_base l.located) (range_with_len 0 l.number)
