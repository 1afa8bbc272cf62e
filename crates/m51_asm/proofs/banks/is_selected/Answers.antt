use Rattle.m51_asm.proofs
use proofs.Common.{◌||◌, map, refl, ap, sym, ◌∙◌, add-one, arith, length-map, line_tree, body_of}
use Rattle.m51_asm.specs.Parts.{is_selected}
use proofs.AnsweredLines.{read_at}
use proofs.ToldLines.{selected_more}
use proofs.banks.is_selected.Goals as goal

pub loop-k-init : goal.loop-k-init
unfolding is_selected
loop-k-init c = λ a places. refl

pub loop-k-preserved : goal.loop-k-preserved
loop-k-preserved c = λ a places.
    let r = read_at c.args.lines.now a c.args.places.now places c.loop-k.k (omega arith) (omega arith) _
    c.index-lines-k.is _ in
    rw add-one (c.either-selected.ensures ∙ ap (λ b. c.loop-k.selected || b) c.selects.ensures
    ∙ selected_more (map line_tree c.args.lines.now) a c.loop-k.k c.args.bank _ _ c.loop-k.selected
    (c.loop-k.invariant a places) r.1.selected (ap body_of (sym r.0)))

pub returns : goal.returns
returns c = grind (arith, length-map)
