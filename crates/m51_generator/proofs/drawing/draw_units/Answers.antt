use Rattle.std.proofs.Common.{◌≡◌, ◌∙◌, ℕ, ◌+◌, sym, ap, add-one, arith}
use Rattle.m51_generator.specs.Draws.{Drawn, drawn, with_unit}
use Rattle.m51_generator.proofs.drawing.draw_units.Goals as goal

pub loop-before-preserved : goal.loop-before-preserved
loop-before-preserved c =
    c.in_ok-seed.ensures
    ∙ ap (with_unit (c.loop-before.before + 1)) c.loop-before.invariant
    ∙ ap (λ (k : ℕ). with_unit k (drawn c.loop-before.before c.args.start)) (add-one c.loop-before.before)
    ∙ ap (λ (k : ℕ). drawn k c.args.start) (sym (add-one c.loop-before.before))

pub returns : goal.returns
returns c =
    let all : c.loop-before.before ≡ c.args.count = omega (arith, c.from-before-end.ensures) in
    ap (λ (d : Drawn). d.units) (c.loop-before.invariant ∙ ap (λ (k : ℕ). drawn k c.args.start) all)
