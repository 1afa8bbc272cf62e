use Rattle.m51_monitor.proofs.Common.{◌≡◌, length, rules, sym, ◌∙◌}
use Rattle.m51_monitor.proofs.Entering.{held_less, some_held, whole_row}
use Rattle.m51_monitor.proofs.Placing.{below}
use Rattle.m51_monitor.proofs.activity.release.Goals as goal

pub count_less-requires-clause-inside : goal.count_less-requires-clause-inside
count_less-requires-clause-inside c = λ t h.
    rw (c.deref_mut.ensures.value, c.requires.some.1.len)
    (below c.args.layout.now c.locals.result.now c.args.unit c.placed.ensures.sound c.locals.ensures t h)

pub count_less-requires-clause-some : goal.count_less-requires-clause-some
count_less-requires-clause-some c =
    let some = c.requires.some in
    rw c.deref_mut.ensures.value
    (some_held c.args.layout.now c.args.unit c.locals.result.now c.locals.ensures some.0 c.args.holders.now.items
    some.1)

pub returns : goal.returns
returns c = λ units are.
    let old = c.args.holders.now.items in
    let new = c.count_less.new.holders in
    let len : length new ≡ length old = rw c.deref_mut.ensures.value at c.count_less.ensures.len in
    let number = rw c.deref_mut.ensures.value at c.count_less.ensures.number in
    let all : c.args.holders.now.len ≡ length old = search rules in
    rw (whole_row c.args.holders.now.len old new (all ∙ sym len))
    (held_less _ _ _ c.locals.ensures units _ _ are len number)
