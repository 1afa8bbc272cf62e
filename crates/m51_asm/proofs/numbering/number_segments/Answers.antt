use Rattle.m51_asm.proofs
use proofs.Common.{◌<◌, suc, ◌++◌, ◌∷◌, [], map, length, ap, sym, ◌∙◌, add-one, arith, length-map, line_tree, body_of}
use proofs.Common.{opening, body_tree}
use Rattle.m51_asm.specs.ObjectSegments.{kept}
use Rattle.m51_asm.specs.Numbering.{segment_filled, segment_added}
use proofs.AnAssignment.{fitting, fits}
use proofs.KnownSegments.{kept_most, none_numbered, numbered_more, few_first, few_more, kept_first, kept_more}
use proofs.GoodLines.{free_where}
use proofs.AnsweredLines.{line_at}
use proofs.numbering.number_segments.Goals as goal

pub add-requires : goal.add-requires
add-requires c = grind (arith, few_first)

pub loop-k-init : goal.loop-k-init
loop-k-init c = λ a f.
    let o = c.segment_filled-first.result in
    numbered_more (none_numbered c.new-segments.ensures
    (c.in_ok-push.ensures.ok ∙ ap (λ ns. ns ++ 0 ∷ []) c.new-numbers.ensures)) o
    (kept_first (map line_tree c.args.lines.now) a o (c.segment_filled-first.ensures
    ∙ ap (segment_filled opening) (c.size.ensures ∙ (c.requires.table a f).sizes 1))) (omega arith)
    c.in_ok-add.ensures.segments c.in_ok-add.ensures.numbers

pub add-requires-in-loop-k : goal.add-requires-in-loop-k
add-requires-in-loop-k c =
    let lines = map line_tree c.args.lines.now in
    let a = fitting lines in
    let f = fits lines in
    let text = c.requires.text in
    let k = c.loop-k.k in
    let said = line_at c.args.lines.now k _ (omega arith) c.index-lines-k.is in
    let within : k < length lines = omega (arith, length-map c.args.lines.now line_tree) in
    few_more (c.loop-k.invariant a f) _
    (kept_more lines a f c.args.table.now (c.requires.table a f) k within _ _ (c.segment_added-added.ensures
    ∙ λ i. segment_added (c.segment.ensures i) (c.size-in-loop-k.ensures i)
    (body_tree c.index-lines-k.result.stmt.body)) (ap body_of (sym said)))
    (kept_most lines a (free_where text.source text.includes lines a text.read f (c.requires.free a f)) (suc k) within)

pub loop-k-preserved : goal.loop-k-preserved
loop-k-preserved c = λ a f.
    let lines = map line_tree c.args.lines.now in
    let k = c.loop-k.k in
    let said = line_at c.args.lines.now k _ (omega arith) c.index-lines-k.is in
    let within : k < length lines = omega (arith, length-map c.args.lines.now line_tree) in
    rw add-one (numbered_more (c.loop-k.invariant a f) c.segment_added-added.result
    (kept_more lines a f c.args.table.now (c.requires.table a f) k within _ _ (c.segment_added-added.ensures
    ∙ λ i. segment_added (c.segment.ensures i) (c.size-in-loop-k.ensures i)
    (body_tree c.index-lines-k.result.stmt.body)) (ap body_of (sym said)))
    (omega arith) c.in_ok-add-2.ensures.segments c.in_ok-add-2.ensures.numbers)

pub returns : goal.returns
unfolding kept
returns c = grind (arith, length-map)
