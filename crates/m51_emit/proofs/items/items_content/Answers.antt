use Rattle.std.proofs.Common.{◌≡◌, List, map, ap, ◌∙◌}
use Rattle.m51_expr.specs.Operand.{ItemTree, item_tree}
use Rattle.m51_encode.specs.Items.{item_field}
use Rattle.m51_encode.specs.declared.outcome.OperandOutcome.{OperandOutcome}
use Rattle.m51_emit.specs.declared.counting.FixupCount.{FixupCount}
use Rattle.m51_emit.specs.Content.{EmittedContent, nothing, item_outcome, item_content, followed_by, joined}
use Rattle.m51_emit.specs.Counting.{none_of, counted, counted_all}
use Rattle.m51_emit.specs.Growing.{content_in}
use Rattle.m51_emit.proofs.LoopSteps.{after_nothing, counted_first, item_step}
use Rattle.m51_emit.proofs.FilledLines.{followed_by_assoc}
use Rattle.m51_emit.proofs.items.items_content.Goals as goal

pub loop-item-init : goal.loop-item-init
loop-item-init g c =
    let names = g.N.Places.meanings c.args.names.now in
    let items : List ItemTree = map item_tree c.args.items.now in
    let whole : EmittedContent = joined (map (item_content names c.args.width) items) in
    let outcome : ItemTree → OperandOutcome = λ item. item_outcome (item_field names c.args.width item) in
    let empty : EmittedContent = record { bytes = c.new.result.items; references = c.new-2.result.items } in
    let is : empty ≡ nothing = λ i. record { bytes = c.new.ensures.items i; references = c.new-2.ensures.items i } in
    record {
      content = ap (λ (x : EmittedContent). followed_by x whole) is ∙ after_nothing whole;
      count = ap (λ (x : FixupCount). counted_all x (map outcome items)) c.none_of.ensures;
    }

pub loop-item-preserved : goal.loop-item-preserved
loop-item-preserved g c =
    let given = item_content (g.N.Places.meanings c.args.names.now) c.args.width in
    let outcome = λ (x : ItemTree). item_outcome (item_field (g.N.Places.meanings c.args.names.now) c.args.width x) in
    let items = c.args.items.now in
    record {
      content = item_step (λ (x : EmittedContent). λ xs. followed_by x (joined (map given xs)))
          (λ x item. followed_by x (given item)) (λ x item xs. followed_by_assoc x (given item) (joined (map given xs)))
          (content_in c.loop-item.growing) (content_in c.push.new.growing)
          (joined (map given (map item_tree items))) items c.loop-item.item-index c.item-item.result
          c.loop-item-test.true c.item-item.is c.in_ok-push.ensures.content c.loop-item.invariant.content;
      count = item_step (λ (x : FixupCount). λ xs. counted_all x (map outcome xs)) (λ x item. counted x (outcome item))
          (λ x item xs. counted_first x (outcome item) (map outcome xs)) c.loop-item.growing.count
          c.push.new.growing.count (counted_all (none_of c.args.made) (map outcome (map item_tree items))) items
          c.loop-item.item-index c.item-item.result c.loop-item-test.true c.item-item.is c.in_ok-push.ensures.count
          c.loop-item.invariant.count;
    }
