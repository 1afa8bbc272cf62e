use Rattle.m51_graph.proofs.Common.{ℕ, refl, ap, ◌∙◌, Control, added_by, with_edges}
use Rattle.m51_graph.proofs.Drawn.{added_step}
use Rattle.m51_graph.proofs.drawing.draw_lines.Goals as goal

pub loop-line-preserved : goal.loop-line-preserved
loop-line-preserved c =
    let line = c.line-item.result in
    record {
      count = c.draw_added.ensures.count ∙ c.loop-line.invariant.count;
      drawn =
          added_step c.args.titles.now c.args.controls.now c.loop-line.line-index line c.loop-line.edges.list
          c.draw_added.new.edges.list c.loop-line-test.true
          (c.in_ok-draw_added.ensures.drawn refl
          ∙ ap (λ (line : ℕ × Control). with_edges c.loop-line.edges.list (added_by c.args.titles.now line.1))
          c.line-item.is)
          ∙ c.loop-line.invariant.drawn;
    }
