-- One statement after another.
use Rattle.std.proofs.Common.{ℕ, ◌+◌, ◌-◌, List, ◌++◌, ap, ◌∙◌, arith}
use Rattle.m51_disasm.specs.Lines.{beginnings}
use Rattle.m51_disasm.specs.Statements.{statements_from}
use Rattle.m51_disasm.proofs.Walking.{walked_on, walked_all}
use Rattle.m51_disasm.proofs.statements.beginnings_of.Goals as goal

pub walk-preserved : goal.walk-preserved
walk-preserved c =
    let end : ℕ = c.from.result + c.from-2.result in
    let next : ℕ = c.walk.at + c.length_at-at.result in
    let rest : List ℕ = beginnings (statements_from c.args.image.now end 0 next (end - next)) in
    record {
      done = ap (λ (l : List ℕ). l ++ rest) c.in_ok-push.ensures.items
          ∙ walked_on c.args.image.now c.walk.addresses.items end c.walk.at c.length_at-at.result _
          c.length_at-at.ensures.value c.walk-test.true c.length_at-at.ensures.some c.walk.invariant.done;
      few = omega (arith, c.in_ok-push.ensures.len, c.length_at-at.ensures.some, c.walk.invariant.few);
      low = omega (arith, c.walk-test.true, c.length_at-at.ensures.few, c.requires.inside.ends);
    }

pub returns-clause-value : goal.returns-clause-value
returns-clause-value c =
    walked_all c.args.image.now c.walk.addresses.items (c.from.result + c.from-2.result) c.walk.at _
    c.walk-test.false c.walk.invariant.done
