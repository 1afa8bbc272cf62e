use Rattle.std.proofs.Common.{rules}
use Rattle.m51_stackbound.proofs.CallRows.{goes_nowhere, goes_one, marked_more}
use Rattle.m51_stackbound.proofs.walking.Found.note.Goals as goal

pub returns-then-has : goal.returns-then-has
returns-then-has c = goes_nowhere _ _ (c.has.ensures.0 c.if-has.true)

pub invariant_of-self-2 : goal.invariant_of-self-2
invariant_of-self-2 c =
    rw (c.in_ok-push.ensures.items, c.from.ensures)
    (marked_more _ _ _ (search rules)
    (λ k. absurd (cc (c.has.ensures.1 (rw c.self.view_is at k), c.if-has.false))) c.self.invariant)

pub returns : goal.returns
returns c = rw (← c.self.view_is, c.in_ok-push.ensures.items) (goes_one _ _)
