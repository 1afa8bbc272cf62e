use Rattle.m51_linker.proofs.RunsGrow.{runs_before, runs_more}
use Rattle.m51_linker.proofs.running.runs_of.Goals as goal

pub add_if-requires : goal.add_if-requires
add_if-requires c = runs_before c.args.content.now c.loop-address.address c.loop-address.runs.items
    c.loop-address.invariant

pub loop-address-preserved : goal.loop-address-preserved
loop-address-preserved c =
    runs_more c.args.content.now c.loop-address.address c.is_some.result c.loop-address.runs.items
    c.add_if.new.runs.items
    c.loop-address.invariant c.is_some.ensures c.in_ok-add_if.ensures
