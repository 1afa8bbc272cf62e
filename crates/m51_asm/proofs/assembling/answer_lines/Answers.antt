use Rattle.m51_asm.proofs
use proofs.Common.{map, length, ap, subst, ◌∙◌, arith, length-map, line_tree, IsFirstFault, IsPlaced, IsPassed}
use proofs.AnAssignment.{fitting, fits}
use proofs.AnsweredLines.{fault_answer, line_at}
use proofs.assembling.answer_lines.Goals as goal

pub bounds-lines-k : goal.bounds-lines-k
bounds-lines-k c =
    let lines = map line_tree c.args.lines.now in
    let h : IsFirstFault lines (fitting lines) c.in-Fault.k c.in-Fault.number =
    subst (IsPassed lines (fitting lines)) c.in-Fault.is (c.in_ok-k.ensures (fitting lines) (fits lines)) in
    omega (arith, h.within, length-map c.args.lines.now line_tree)

pub offset_bounds-lines-k : goal.offset_bounds-lines-k
offset_bounds-lines-k c =
    let lines = map line_tree c.args.lines.now in
    let h : IsFirstFault lines (fitting lines) c.in-Fault.k c.in-Fault.number =
    subst (IsPassed lines (fitting lines)) c.in-Fault.is (c.in_ok-k.ensures (fitting lines) (fits lines)) in
    omega (arith, h.within, length-map c.args.lines.now line_tree, c.requires.few)

pub returns-in-Fault : goal.returns-in-Fault
returns-in-Fault c = grind (arith, length-map, fault_answer, line_at)

pub answer_placed-requires-clause-counted : goal.answer_placed-requires-clause-counted
answer_placed-requires-clause-counted c =
    let lines = map line_tree c.args.lines.now in
    let h : IsPlaced lines (fitting lines) c.in-Placed.places c.in-Placed.end =
    subst (IsPassed lines (fitting lines)) c.in-Placed.is (c.in_ok-k.ensures (fitting lines) (fits lines)) in
    ap length c.as_slice.ensures ∙ h.counted ∙ length-map c.args.lines.now line_tree

pub answer_placed-requires-clause-placed : goal.answer_placed-requires-clause-placed
answer_placed-requires-clause-placed c = grind arith
