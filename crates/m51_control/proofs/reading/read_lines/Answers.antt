use Rattle.std.proofs.Common.{◌∷◌, ◌+◌, IfSome, sym, subst, ◌∙◌}
use Rattle.std.specs.Str.Lines.{lines}
use Rattle.m51_control.specs.Controls.{IsAllowed}
use Rattle.m51_control.proofs.Numbered.{Goes, line_step}
use Rattle.m51_control.proofs.reading.read_lines.Goals as goal

pub loop-line-preserved : goal.loop-line-preserved
loop-line-preserved c =
    let line = c.in-Some.line.now in
    let more = lines c.in-Some.after.now in
    let all = lines c.args.bytes.now in
    let control = c.in-Some-2.control in
    let here : Goes c.loop-line.controls.items c.loop-line.number (line ∷ more) all =
    subst (λ l. Goes c.loop-line.controls.items c.loop-line.number l all)
    c.in-Some.ensures.lines c.loop-line.invariant in
    subst (λ l. Goes l (c.loop-line.number + 1) more all) (sym c.in_ok-push-in-Some-2.ensures.items)
    (line_step c.loop-line.controls.items c.loop-line.number line more all control here
    (sym c.is_skipped.ensures ∙ c.if-is_skipped.false)
    (sym c.in_ok-control.ensures.control ∙ c.in-Some-2.is)
    (subst (λ o. IfSome o IsAllowed) c.in-Some-2.is c.in_ok-control.ensures.allowed))
