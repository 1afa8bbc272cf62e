use Rattle.m51_monitor.proofs.Common.{◌≡◌, ◌<◌, length, ap, ◌∙◌, arith, slice_index, common_steps}
use Rattle.m51_monitor.proofs.Entering.{left, left_step, none_left, one_same}
use Rattle.m51_monitor.proofs.Placing.{item_is}
use Rattle.m51_monitor.proofs.activity.count_more.Goals as goal

pub add_one-requires-clause-inside : goal.add_one-requires-clause-inside
add_one-requires-clause-inside c = rw c.loop-index.invariant.len
    (item_is c.args.locals.now (length c.args.holders.now) c.loop-index.index c.requires.inside
    (grind (arith, common_steps)))

pub add_one-requires-clause-room : goal.add_one-requires-clause-room
add_one-requires-clause-room c =
    let index = c.loop-index.index in
    let locals = c.args.locals.now in
    let s = slice_index locals index in
    let inside : index < length locals = grind (arith, common_steps) in
    omega (
      arith,
      c.requires.room s (item_is locals (length c.args.holders.now) index c.requires.inside inside),
      c.loop-index.invariant.number s,
      left_step locals index s inside,
      one_same s,
    )

pub loop-index-preserved : goal.loop-index-preserved
loop-index-preserved c = record {
  len = c.add_one.ensures.len ∙ c.loop-index.invariant.len;
  number = λ t. omega (
    arith,
    c.add_one.ensures.number t,
    c.loop-index.invariant.number t,
    left_step c.args.locals.now c.loop-index.index t (grind (arith, common_steps)),
  );
}

pub returns-clause-number : goal.returns-clause-number
returns-clause-number c = λ t.
    let all : c.loop-index.index ≡ length c.args.locals.now = grind (arith, common_steps) in
    omega (
      arith,
      ap (λ k. left c.args.locals.now k t) all,
      none_left c.args.locals.now t,
      c.loop-index.invariant.number t,
    )
