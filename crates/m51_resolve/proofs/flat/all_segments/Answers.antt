use Rattle.m51_resolve.proofs.Common.{arith, ◌<◌, ◌≤◌, ◌≡◌, ◌*◌, ◌+◌, ◌++◌, length, length-append}
use Rattle.m51_cells.specs.declared.limits.TheConstants.{MOST_MODULE_SEGMENTS}
use Rattle.m51_resolve.proofs.Lookups.{flat_all, flat_more, flat_start, valid_more}
use Rattle.m51_resolve.proofs.flat.all_segments.Goals as goal

pub loop-module-init : goal.loop-module-init
loop-module-init c =
    rw (c.new-items.ensures.items, c.new-starts.ensures.items)
    (record {
      are = flat_start (λ m. m.segments) c.args.modules.now;
      most = omega arith;
      valid =
          λ m below d. absurd (omega (arith, below));
    })

pub loop-module-preserved : goal.loop-module-preserved
loop-module-preserved c =
    let there : c.loop-module.module-index < length c.args.modules.now = omega arith in
    let start : c.len.result ≡ length c.loop-module.items.items = omega arith in
    let most : length (c.loop-module.items.items ++ c.module-item.result.segments) ≤ MOST_MODULE_SEGMENTS *
    (c.loop-module.module-index + 1) =
    omega (
      arith,
      length-append c.loop-module.items.items c.module-item.result.segments,
      c.loop-module.invariant.most,
      c.segments.ensures.valid.few_segments,
    ) in
    rw (c.in_ok-extend_from_slice.ensures.items, c.segments.ensures.list, c.in_ok-push.ensures.items)
    (record {
      are = flat_more c.loop-module.invariant.are there c.module-item.is start;
      most = most;
      valid = valid_more c.args.modules.now c.loop-module.module-index c.module-item.result
          c.loop-module.invariant.valid there c.module-item.is c.segments.ensures.valid;
    })

pub returns : goal.returns
returns c =
    let are = flat_all c.loop-module.invariant.are c.loop-module-test.false in
    record {
      all = are.0;
      starts = are.1;
      few = omega (arith, c.loop-module.invariant.most, c.loop-module.invariant.are.few);
      valid = λ k d below. c.loop-module.invariant.valid k (omega (arith, below, c.loop-module-test.false)) d;
    }
