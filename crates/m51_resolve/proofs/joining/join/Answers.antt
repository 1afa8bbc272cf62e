use Rattle.m51_resolve.proofs.Common.{◌+◌, ◌≤◌, sym, ap, ◌∙◌, arith, Some, slice_get-get_or, Growing}
use Rattle.std.proofs.lemmas.List.Elements.{All-set}
use Rattle.m51_resolve.proofs.JoinSteps.{numbers_set}
use Rattle.m51_resolve.proofs.joining.join.Goals as goal

pub returns-in-Some-clause-grows : goal.returns-in-Some-clause-grows
returns-in-Some-clause-grows c = λ most all.
    let was = c.index_mut-joined.result.now in
    let below = all c.in-Some.number was (rw c.deref.ensures.value at c.in-Some.ensures.within) in
    let same = ap (λ (g : Growing). g.end) c.index_mut-joined.ensures.value in
    All-set (λ (g : Growing). g.end ≤ most + 65790) _ _ _ (omega (arith, c.grown.ensures.near, below, same))
    (λ k d inside. let h = all k d inside in omega arith)

pub returns-in-Some-clause-numbers : goal.returns-in-Some-clause-numbers
returns-in-Some-clause-numbers c =
    let was = c.index_mut-joined.result.now in
    let at = slice_get-get_or c.args.growing.now.items c.in-Some.number was
    (rw c.deref.ensures.value at c.in-Some.ensures.within) in
    c.requires.numbers
    ∙ sym (numbers_set 0 c.args.growing.now.items c.in-Some.number was c.grown.result
    (at ∙ ap Some (sym c.index_mut-joined.ensures.value)) (ap (λ (g : Growing). g.first) c.grown.ensures.grown))
