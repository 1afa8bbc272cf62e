use Rattle.m51_asm.proofs
use proofs.Common.{◌≡◌, map, length, [], sym, subst, ◌∙◌, IsValid, line_tree, IsGivenTo, content_faults, arith}
use proofs.Common.{is_nothing}
use proofs.AnAssignment.{fitting, fits}
use proofs.ValidParts.{valid_where}
use proofs.AnsweredLines.{all_faults, all_rows, faults_answer, module_answer}
use proofs.GatheredLines.{whole}
use proofs.answering.answer_placed.Goals as goal

pub number_segments-requires-clause-free : goal.number_segments-requires-clause-free
number_segments-requires-clause-free c = λ a f. (c.requires.placed a f).free

pub number_segments-requires-clause-table : goal.number_segments-requires-clause-table
number_segments-requires-clause-table c = grind arith

pub give_lines-requires-clause-ready : goal.give_lines-requires-clause-ready
give_lines-requires-clause-ready c = grind (arith, fits)

pub returns-then-not-is_empty : goal.returns-then-not-is_empty
returns-then-not-is_empty c = grind (arith, faults_answer, all_faults)

pub make-requires : goal.make-requires
make-requires c =
    let lines = map line_tree c.args.named.now.lines.now in
    let a = fitting lines in
    let f = fits lines in
    let placed = c.requires.placed a f in
    let numbered = c.in_ok-numbering.ensures a f in
    let all = c.in_ok-given.given in
    let h : IsGivenTo lines a (length lines) all.contents = c.in_ok-given.ensures.given a f in
    let nothing = is_nothing all.contents.faults (sym c.is_empty.ensures ∙ c.if-not-is_empty.false) in
    let none : content_faults lines a ≡ [] = all_faults lines a all.contents h ∙ nothing in
    let content = c.in_ok-content.ensures ∙ whole lines a _ (c.deref.ensures.value
    ∙ c.in_ok-given.ensures.gathered nothing a f) in
    let text = c.requires.text in
    subst IsValid (sym (c.in_ok-parts.ensures a placed.each numbered.segments h.publics content))
    (valid_where text.source text.includes lines a text.read f placed.free none c.args.file.now)

pub returns : goal.returns
returns c =
    grind (arith, map, line_tree, length, is_nothing, content_faults, all_faults, whole, module_answer, all_rows)
