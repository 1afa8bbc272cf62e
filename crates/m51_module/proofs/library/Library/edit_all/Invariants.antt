use Rattle.std.proofs.Common.{◌≡◌}
use Rattle.m51_module.specs.Edits.{after_edits}
use Rattle.m51_module.proofs.library.Library.edit_all.Given as goal

abbrev pub invariant-loop-edit : goal.invariant-loop-edit
invariant-loop-edit l = l.self ≡ after_edits l.fn.self l.yielded
