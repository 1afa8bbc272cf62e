use Rattle.m51_asm.proofs
use proofs.Common.{map, line_tree, ap, refl, value_in}
use proofs.KnownSegments.{start_segments}
use proofs.ToldLines.{at_start}
use proofs.placing.PassOneState.start.Goals as goal

pub returns : goal.returns
returns c = λ a f.
    let lines = map line_tree c.args.lines.now in
    at_start lines a _ (λ name. ap (λ v. value_in v name) c.new.ensures)
    (start_segments lines a f _ c.in_ok-start.ensures.table c.in_ok-start.ensures.current c.in_ok-start.ensures.last)
    refl refl refl
