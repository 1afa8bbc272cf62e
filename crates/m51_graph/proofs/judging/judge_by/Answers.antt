use Rattle.m51_graph.proofs.Common.{◌≡◌, ℕ, true, nat_eq, [], sym, ◌∙◌, arith, list_any, Decides-eqb, pairs}
use Rattle.m51_graph.proofs.Common.{cyclic_from}
use Rattle.std.proofs.Common.{vec_len}
use Rattle.m51_graph.proofs.Judged.{graph_judged, none_left, passed_none}
use Rattle.m51_graph.proofs.judging.judge_by.Goals as goal

pub make-requires-clause-graph : goal.make-requires-clause-graph
make-requires-clause-graph c =
    let cyclic = c.in_ok-cyclic.cyclic in
    let zero : vec_len cyclic ≡ 0 = (Decides-eqb (vec_len cyclic) 0).0 (sym c.if-not-is_empty.ensures) in
    graph_judged c.args.titles.now c.args.parts c.requires.units c.requires.titles
    (rw (← c.requires.reach)
    (sym c.in_ok-cyclic.ensures ∙ none_left cyclic.items (omega (arith, zero, cyclic.ok.0))))
    (rw (← c.requires.reach) (passed_none _ c.in_ok-check_units.field-0 c.in_ok-check_units.ensures))

pub returns : goal.returns
returns c =
    let cyclic = c.in_ok-cyclic.cyclic in
    let zero : vec_len cyclic ≡ 0 = (Decides-eqb (vec_len cyclic) 0).0 (sym c.if-not-is_empty.ensures) in
    let reset : list_any (λ (root : ℕ × ℕ). nat_eq root.0 0) c.args.parts.roots ≡ true =
    rw (← c.as_slice.ensures) (sym c.if-not-has_reset.ensures) in
    let free : cyclic_from (pairs c.args.reach) 0 c.args.titles.now ≡ [] =
    sym c.in_ok-cyclic.ensures ∙ none_left cyclic.items (omega (arith, zero, cyclic.ok.0)) in
    rw (reset, free, passed_none _ c.in_ok-check_units.field-0 c.in_ok-check_units.ensures, c.in_ok-make.ensures)
