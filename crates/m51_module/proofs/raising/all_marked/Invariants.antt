use Rattle.std.proofs.Common.{◌≡◌, ◌++◌, map, take, drop}
use Rattle.m51_module.specs.Arguments.{marked}
use Rattle.m51_module.proofs.raising.all_marked.Given as goal

-- done, before what is left
abbrev pub invariant-loop-index : goal.invariant-loop-index
invariant-loop-index l = l.segments.items ≡ map marked (take l.index l.fn.segments) ++ drop l.index l.fn.segments
