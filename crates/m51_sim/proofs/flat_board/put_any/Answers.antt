use Rattle.m51_sim.proofs.Common.{sym}
use Rattle.m51_flat.proofs.Flat.{none_shut}
use Rattle.m51_sim.proofs.Flatly.{put_map}
use Rattle.m51_sim.proofs.flat_board.put_any.Goals as goal

pub put-requires : goal.put-requires
put-requires c = sym (none_shut c.args.put.now)

pub returns : goal.returns
returns c = put_map c.args.put.now c.args.memory.now c.put.new.self c.put.ensures.cells
