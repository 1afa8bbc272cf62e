use Rattle.m51_chain.proofs.Common.{AreBoardsFor, List, ModuleParts, length, ◌++◌, ◌≡◌}
use Rattle.m51_chain.proofs.joining.boards_alone.Given as goal

abbrev pub invariant-loop-parts : goal.invariant-loop-parts
invariant-loop-parts l = (done : List ModuleParts) × (done ++ l.left.items ≡ l.fn.modules.items)
    × AreBoardsFor l.fn.script done l.boards

abbrev pub decreases-loop-parts : goal.decreases-loop-parts
decreases-loop-parts l = length l.left.items
