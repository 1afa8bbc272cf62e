use Rattle.std.proofs.Common.{◌≡◌, length}
use Rattle.m51_cells.proofs.ListsAndOptions.{names_before}
use Rattle.m51_control.specs.Naming.{names_in}
use Rattle.m51_control.proofs.naming.names_in.Given as goal

abbrev pub invariant-loop-first : goal.invariant-loop-first
invariant-loop-first l = names_before l.names.items (names_in l.role l.rest) ≡ names_in l.role l.text

abbrev pub decreases-loop-first : goal.decreases-loop-first
decreases-loop-first l = length l.rest
