use Rattle.m51_chain.proofs.Built.{heaviest_name, ready_few}
use Rattle.m51_chain.proofs.reporting.map_and_run.Goals as goal

pub filled-bytes-requires : goal.filled-bytes-requires
filled-bytes-requires c = rw c.as_slice.ensures (ready_few c.args.linked.now c.requires)

pub map_text-requires-clause-chains : goal.map_text-requires-clause-chains
map_text-requires-clause-chains c =
    rw c.deref.ensures.value (heaviest_name _ _ c.units.ensures.sound c.in_ok-chains.ensures)
