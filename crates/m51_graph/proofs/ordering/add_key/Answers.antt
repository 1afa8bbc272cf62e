use Rattle.m51_graph.proofs.Common.{◌||◌, ℕ, List, Option, false, sym, ap, ◌∙◌, option_map_or}
use Rattle.m51_graph.specs.Ordering.{class_number, order_has, same_key}
use Rattle.m51_graph.proofs.OrderKeys.{or_cond}
use Rattle.m51_graph.proofs.ordering.add_key.Goals as goal

pub returns-in_ok-insert : goal.returns-in_ok-insert
returns-in_ok-insert c = λ class name.
    let has = order_has c.args.names.now.keys class name in
    c.in_ok-insert.ensures.updates.0 (class_number class, name)
    ∙ or_cond (same_key c.in-Some.key (class_number class, name)) has
    ∙ ap (λ (found : Option (ℕ × List ℕ)). option_map_or
    (λ key. same_key key (class_number class, name)) found false || has) (sym c.in-Some.is)
