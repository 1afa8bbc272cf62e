use Rattle.std.proofs.Common.{map, take}
use Rattle.m51_linker.specs.Image.{placed_piece}
use Rattle.m51_linker.specs.Memory.{AreWritten, held_at}
use Rattle.m51_linker.proofs.filling.fill_module.Given as goal

abbrev pub invariant-loop-piece : goal.invariant-loop-piece
invariant-loop-piece l =
    AreWritten (map (placed_piece l.joined l.placing l.«module») (take l.piece-index l.piece-items))
    (held_at l.initial.memory) (held_at l.memory)
