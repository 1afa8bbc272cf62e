use Rattle.m51_asm.proofs
use proofs.Common.{◌≡◌, map, length, sym, subst, ◌∙◌, add-one, arith, length-map, line_tree, IsLineOutcome}
use proofs.AnsweredLines.{line_at}
use proofs.ToldLines.{not_reached, reached, no_places, passed_more}
use proofs.passing.place_lines.Goals as goal

pub loop-k-init : goal.loop-k-init
loop-k-init c = grind (arith, no_places)

pub returns-then-is_reached : goal.returns-then-is_reached
returns-then-is_reached c = λ a f.
    reached (map line_tree c.args.text.now.lines.now) a c.args.repeated c.loop-k.k c.requires.repeated
    (c.loop-k.invariant a f).free
    (sym c.is_reached.ensures ∙ c.if-is_reached.true)

pub returns-in-Fault : goal.returns-in-Fault
returns-in-Fault c = grind (arith, length-map)

pub step-requires-clause-once : goal.step-requires-clause-once
step-requires-clause-once c =
    not_reached (map line_tree c.args.text.now.lines.now) c.args.repeated c.loop-k.k c.requires.repeated
    (omega (arith, length-map c.args.text.now.lines.now line_tree)) (sym c.is_reached.ensures ∙ c.if-is_reached.false)

pub step-requires-clause-line : goal.step-requires-clause-line
step-requires-clause-line c = grind (arith, line_at)

pub loop-k-preserved : goal.loop-k-preserved
loop-k-preserved c = λ a f.
    let lines = map line_tree c.args.text.now.lines.now in
    let k = c.loop-k.k in
    let h = c.loop-k.invariant a f in
    let facts = subst (IsLineOutcome lines a k c.step.new.placing) c.in-Placed.is (c.in_ok-number.ensures a f h.at) in
    rw add-one (passed_more lines a k c.loop-k.places _ c.in-Placed.place c.loop-k.placing c.step.new.placing h
    c.in_ok-push-in-Placed.ensures.ok facts.0 facts.1 facts.2)

pub returns : goal.returns
returns c = λ a f.
    let lines = map line_tree c.args.text.now.lines.now in
    let same : c.loop-k.k ≡ length lines = omega (arith, length-map c.args.text.now.lines.now line_tree) in
    rw same at c.loop-k.invariant a f
