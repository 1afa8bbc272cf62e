use Rattle.m51_asm.proofs
use proofs.Common.{◌∙◌, ap, with_line, number_at, changed_element}
use proofs.GatheredLines.{on_ok}
use proofs.gathering.gather_line.Goals as goal

pub returns : goal.returns
returns c =
    let content = c.args.content.now in
    let place = c.args.place.now in
    let old = c.args.gathered.now.items in
    on_ok c.add_line.result _ _ (λ e clean. e
    ∙ (λ i. changed_element (λ g. with_line (c.as_slice-segments.ensures i) g (place.offset, content))
    ((c.number_at-number.ensures ∙ ap (λ ns. number_at ns place.segment) c.as_slice.ensures) i) old))
    c.add_line.ensures
