use Rattle.m51_graph.proofs.Common.{ℕ, Bool, List, Option, length, ap, ◌∙◌, overlaid_by}
use Rattle.std.proofs.lemmas.List.{length-map}
use Rattle.m51_control.specs.declared.control.Class.{Class}
use Rattle.m51_graph.specs.Lines.{bad_line_by}
use Rattle.m51_graph.specs.Ordering.{orders_have}
use Rattle.m51_graph.proofs.OrderKeys.{stands_is}
use Rattle.m51_graph.proofs.lines.bad_line.Goals as goal

pub order_names-requires : goal.order_names-requires
order_names-requires c =
    ap (λ (own : List (Option ℕ)). length own) c.requires
    ∙ length-map c.args.segments.now (overlaid_by c.args.titles.now c.args.controls.now)

pub returns : goal.returns
returns c =
    let titles = c.args.titles.now in
    let segments = c.args.segments.now in
    let controls = c.args.controls.now in
    c.bad_line_by.ensures
    ∙ ap (λ (may : Class → List ℕ → Bool). bad_line_by may titles controls c.args.made.now.list)
    (c.in_ok-orders.ensures ∙ ap (λ (own : List (Option ℕ)). orders_have own segments) c.requires
    ∙ stands_is titles controls segments)
