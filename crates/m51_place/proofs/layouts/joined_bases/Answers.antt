use Rattle.m51_place.proofs.Common.{arith, joined_base, sym, ℕ}
use Rattle.std.proofs.lemmas.List.FromFn.{map-range_with_len_more}
use Rattle.m51_place.proofs.layouts.joined_bases.Goals as goal

pub loop-number-preserved : goal.loop-number-preserved
loop-number-preserved c =
    let number : ℕ = c.loop-number.number in
    let f : ℕ → ℕ = joined_base c.args.located.now in
    rw (c.in_ok-push.ensures.items, c.loop-number.invariant, c.joined_base.ensures)
    (sym (map-range_with_len_more f 0 number number (omega arith)))
