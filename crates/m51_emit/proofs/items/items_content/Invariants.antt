use Rattle.std.proofs.Common.{◌≡◌, drop, map}
use Rattle.m51_expr.specs.Operand.{ItemTree, item_tree}
use Rattle.m51_encode.specs.Items.{item_field}
use Rattle.m51_emit.specs.Content.{item_outcome, item_content, followed_by, joined}
use Rattle.m51_emit.specs.Counting.{none_of, counted_all}
use Rattle.m51_emit.specs.Growing.{content_in}
use Rattle.m51_emit.proofs.items.items_content.Given as goal

-- what is done, before what the other items give, is the whole
abbrev pub invariant-loop-item : goal.invariant-loop-item
invariant-loop-item g l =
    let names = g.N.Places.meanings l.names in
    let items = map item_tree l.items in
    let outcome = λ (item : ItemTree). item_outcome (item_field names l.width item) in
    record {
      content : followed_by (content_in l.growing) (joined (map (item_content names l.width) (drop l.item-index items)))
          ≡ joined (map (item_content names l.width) items);
      count : counted_all l.growing.count (map outcome (drop l.item-index items))
          ≡ counted_all (none_of l.made) (map outcome items);
    }
