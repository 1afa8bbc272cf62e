use Rattle.m51_chain.proofs.Common.{edited_each, length, ◌≡◌}
use Rattle.m51_chain.proofs.editing.make_edits.Given as goal

abbrev pub invariant-loop-edit : goal.invariant-loop-edit
invariant-loop-edit l = edited_each l.library l.left.items ≡ edited_each l.fn.library l.fn.edits

abbrev pub decreases-loop-edit : goal.decreases-loop-edit
decreases-loop-edit l = length l.left.items
