use Rattle.m51_resolve.proofs.Common.{arith, ◌<◌, ◌≡◌, length}
use Rattle.m51_resolve.proofs.Lookups.{flat_all, flat_more, flat_start}
use Rattle.m51_resolve.proofs.flat.all_externals.Goals as goal

pub loop-module-init : goal.loop-module-init
loop-module-init c =
    rw (c.new-items.ensures.items, c.new-starts.ensures.items) (flat_start (λ m. m.externals) c.args.modules.now)

pub loop-module-preserved : goal.loop-module-preserved
loop-module-preserved c =
    let there : c.loop-module.module-index < length c.args.modules.now = omega arith in
    let start : c.len.result ≡ length c.loop-module.items.items = omega arith in
    rw (c.in_ok-extend_from_slice.ensures.items, c.externals.ensures.list, c.in_ok-push.ensures.items)
    (flat_more c.loop-module.invariant there c.module-item.is start)

pub returns : goal.returns
returns c =
    let are = flat_all c.loop-module.invariant c.loop-module-test.false in record { all = are.0; starts = are.1 }
