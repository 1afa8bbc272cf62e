use Rattle.m51_asm.proofs
use proofs.Common.{◌≡◌, ap, map, sym, ◌∙◌, None, line_tree, body_of, text_segment, body_tree, placed_fault}
use Rattle.m51_asm.specs.Fitting.{externals_in, filled}
use proofs.GoodLines.{free}
use proofs.KnownSegments.{current_is}
use proofs.ToldLines.{counted, fault_told, small_counts, small_sum_is, bank_after}
use proofs.stepping.step.Goals as goal

pub returns-in-Some : goal.returns-in-Some
returns-in-Some c = λ a f at.
    let facts = c.facts_of-facts.ensures a f c.requires.once at in
    let own = c.current-segment.ensures
    ∙ current_is (map line_tree c.args.text.now.lines.now) a f c.args.k c.args.placing.now.segments at.segments in
    let is = ap body_of (sym c.requires.line) in
    sym (fault_told at facts f own is c.requires.once (counted at facts own is c.count-counts.ensures))
    ∙ sym c.evaluated_fault-fault.ensures ∙ c.in-Some.is

pub take_in-requires-clause-small : goal.take_in-requires-clause-small
take_in-requires-clause-small c =
    small_counts (text_segment c.facts_of-facts.result.next) c.count-counts.result _ _
    (sym c.evaluated_fault-fault.ensures ∙ c.in-None.is)

pub take_in-requires-clause-declared : goal.take_in-requires-clause-declared
take_in-requires-clause-declared c =
    small_sum_is c.args.placing.now.externals (externals_in (body_tree c.args.line.now.stmt.body))
    c.count-counts.result.externals c.count-counts.ensures.externals
    (small_counts (text_segment c.facts_of-facts.result.next) c.count-counts.result _ _
    (sym c.evaluated_fault-fault.ensures ∙ c.in-None.is)).externals

pub returns-in_ok-take_in-in-None : goal.returns-in_ok-take_in-in-None
returns-in_ok-take_in-in-None c = λ a f at.
    let lines = map line_tree c.args.text.now.lines.now in
    let k = c.args.k in
    let s = c.args.placing.now in
    let facts = c.facts_of-facts.ensures a f c.requires.once at in
    let own = c.current-segment.ensures ∙ current_is lines a f k s.segments at.segments in
    let is = ap body_of (sym c.requires.line) in
    let counts = counted at facts own is c.count-counts.ensures in
    let none : placed_fault lines a k ≡ None =
    sym (fault_told at facts f own is c.requires.once counts) ∙ sym c.evaluated_fault-fault.ensures ∙ c.in-None.is in
    let is_free = free lines a k none in (
      none,
      c.in_ok-take_in-in-None.ensures lines a f c.requires.line none at facts counts,
      record {
        segment = ap (λ t. t.id) own;
        offset = c.size.ensures ∙ at.segments.table.sizes _ ∙ ap (λ t. filled lines a t.id k) own;
        row = facts.row;
        bank = at.selected;
        selected = c.bank.ensures ∙ bank_after at facts is_free;
        given = c.given.ensures ∙ facts.operand.given_is is_free.operand;
      },
    )
