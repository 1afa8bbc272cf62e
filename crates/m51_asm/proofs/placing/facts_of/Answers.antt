use Rattle.m51_asm.proofs
use proofs.Common.{◌≡◌, ◌∙◌, map, line_tree, located_value, size_in, here_of, kept_meanings, current_in}
use proofs.ToldLines.{names_are, told_line}
use proofs.placing.facts_of.Goals as goal

pub returns : goal.returns
returns c = λ a f once at.
    let lines = map line_tree c.args.text.now.lines.now in
    let table = c.args.text.now.names.now in
    let s = c.args.placing.now in
    let mod51 = c.args.text.now.mod51 in
    let here : located_value c.here_of-here.result
    ≡ here_of (current_in s.segments) (size_in s.segments.table s.segments.current) =
    c.here_of-here.ensures ∙ λ i. here_of (c.current.ensures i) (c.size.ensures i) in
    told_line lines a f c.args.k s at (line_tree c.args.line.now) c.requires.line once table c.requires.names
    (kept_meanings s.segments.table table s.values s.values mod51 s.bank c.here_of-here.result)
    (names_are lines a f c.args.k s at table c.requires.names mod51 c.requires.predefined c.here_of-here.result here)
    c.named_by-named.result c.named_by-named.ensures c.form_of-form.result c.form_of-form.ensures c.facts_from.result
    c.facts_from.ensures
