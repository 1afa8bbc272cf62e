use Rattle.std.proofs.Common.{◌≡◌, ◌+◌, ◌-◌, ◌<◌, length, refl, arith}
use Rattle.m51_text.proofs.WholeText.{mark_found, mark_nowhere}
use Rattle.m51_text.proofs.missing_end.mark_missing_end.Goals as goal

pub returns-then-index-eq0 : goal.returns-then-index-eq0
returns-then-index-eq0 c =
    let inside : c.loop-at.at - 1 < length c.loop-at.entries.items = omega arith in
    let step : (c.loop-at.at - 1) + 1 ≡ c.loop-at.at = omega arith in
    mark_found c.loop-at.entries.items _ (c.loop-at.at - 1) c.loop-at.at c.index.result.now c.index_mut.result.now _
    inside step c.index.ensures c.index_mut.ensures.value c.if-index-eq0.true c.loop-at.invariant.none refl
    c.loop-at.invariant.same

pub returns : goal.returns
returns c = mark_nowhere c.loop-at.entries.items _ c.loop-at.at (omega arith) c.loop-at.invariant.none
    c.loop-at.invariant.same
