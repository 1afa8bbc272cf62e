use Rattle.m51_monitor.proofs.Common.{◌≡◌, false, reverse, sym, ◌∙◌, AreHolders, answers_in}
use Rattle.m51_monitor.proofs.Placing.{none_up_to}
use Rattle.m51_monitor.proofs.activity.Activity.segment_at.Goals as goal

pub loop-segment-preserved : goal.loop-segment-preserved
loop-segment-preserved c =
    let a = c.args.self.now in
    let units = reverse c.self.inside.units.items in
    let holders : AreHolders c.self.inside.layout units c.deref.result.now =
    rw (c.deref.ensures.value) c.self.invariant.0.holders_are in
    let here : answers_in a.layout a.units c.args.cell c.loop-segment.segment ≡ false =
    rw (← c.self.view_is) (sym (c.answers.ensures units holders) ∙ c.if-answers.false) in
    none_up_to (λ t. answers_in a.layout a.units c.args.cell t) c.loop-segment.segment c.loop-segment.invariant here
