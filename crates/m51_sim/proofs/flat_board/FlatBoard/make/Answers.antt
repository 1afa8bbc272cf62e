use Rattle.m51_sim.proofs.Flatly.{flat_started}
use Rattle.m51_sim.proofs.flat_board.FlatBoard.make.Goals as goal

pub invariant_of-result : goal.invariant_of-result
invariant_of-result c = c.blank_draft.ensures c.in_ok-chip.chip.cpu

pub returns : goal.returns
returns c = flat_started _ _ _ _ _ c.fill.ensures c.in_ok-chip.ensures c.in_ok-memory.ensures
