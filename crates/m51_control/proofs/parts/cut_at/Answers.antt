use Rattle.std.proofs.Common.{arith, ◌+◌}
use Rattle.std.proofs.lemmas.List.{take_rest}
use Rattle.m51_control.specs.Parts.{is_sign}
use Rattle.m51_control.proofs.CutLaws.{cut_here, whole}
use Rattle.m51_control.proofs.parts.cut_at.Goals as goal

pub returns-then-position-text-clause-parts : goal.returns-then-position-text-clause-parts
returns-then-position-text-clause-parts c =
    cut_here (is_sign c.args.sign)
    c.sign_place-position.result c.args.text.now _ c.sign_place-position.ensures.len c.if-position-text.true
    (take_rest c.args.text.now (c.sign_place-position.result + 1))

pub returns-else-position-text-clause-parts : goal.returns-else-position-text-clause-parts
returns-else-position-text-clause-parts c =
    whole (is_sign c.args.sign) c.args.text.now
    (omega (arith, c.sign_place-position.ensures.len, c.if-position-text.false))
