use Rattle.m51_sim.proofs.Common.{ap, ◌∙◌, map_after}
use Rattle.m51_sim.proofs.flat_board.put_both.Goals as goal

pub returns : goal.returns
returns c = c.put-2.ensures ∙ ap (map_after c.args.effect.now.second) c.put.ensures
