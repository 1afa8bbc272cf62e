use Rattle.m51_place.proofs.Common.{Control, List, ap, order_of, ℕ, ◌∙◌, ◌≡◌}
use Rattle.m51_place.proofs.Ranks.{Program, order, program, ready, segments, shape}
use Rattle.m51_place.proofs.Whole.{fixed, fixed_spots, numbered}
use Rattle.m51_place.proofs.placing.locate.Goals as goal

pub place_after-requires : goal.place_after-requires
place_after-requires c =
    let p : Program = program c.args.joined.now c.args.controls.now c.args.graph.now c.modules.ensures.valid
    c.lines.ensures.kept c.requires in
    let is : c.deref-2.result.now ≡ order p = c.deref-2.ensures.value ∙ c.in_ok-order.ensures
    ∙ ap (λ (cs : List (ℕ × Control)). order_of p.g cs c.segments.result.now) c.lines.ensures.list
    ∙ ap (order_of p.g p.controls) c.segments.ensures.list in
    record {
      order = rw is (ready p);
      earlier = rw c.in_ok-fixed.ensures (numbered (fixed p) (shape p) (fixed_spots p));
    }
