use Rattle.std.proofs.Common.{[], arith, ◌∙◌}
use Rattle.m51_cells.specs.Name.{title_at}
use Rattle.m51_cases.proofs.OneUnitSound.{sample_is_sound, sample_has_root}
use Rattle.m51_cases.proofs.boards.board.Goals as goal

pub make-requires : goal.make-requires
make-requires c = sample_is_sound (title_at 0) [] c.args.size c.in_ok-parts.parts c.requires.some (omega arith)
    c.in_ok-parts.ensures

pub make-requires-2 : goal.make-requires-2
make-requires-2 c = sample_has_root (title_at 0) [] c.args.size c.in_ok-layout.layout
    (c.in_ok-layout.ensures ∙ c.in_ok-parts.ensures)
