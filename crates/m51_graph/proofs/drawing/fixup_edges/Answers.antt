use Rattle.m51_graph.proofs.Common.{refl, ◌∙◌}
use Rattle.m51_graph.proofs.Drawn.{modules_step}
use Rattle.m51_graph.proofs.drawing.fixup_edges.Goals as goal

pub loop-module-preserved : goal.loop-module-preserved
loop-module-preserved c = record {
  count = c.draw_module.ensures.count ∙ c.loop-module.invariant.count;
  drawn = modules_step c.args.joined.now c.loop-module.«module» c.loop-module.edges.list c.draw_module.new.edges.list
      (c.in_ok-draw_module.ensures.drawn refl) c.loop-module.invariant.drawn;
}
