use Rattle.std.proofs.Common.{◌≡◌, ◌<◌, ◌-◌, refl, sym, ap, ◌∙◌, arith, false, Some, is_some}
use Rattle.std.proofs.lemmas.Result.{err_from_is_err_and}
use Rattle.m51_expr.specs.Ranks.{infix_of, infix_operator, prefix_of}
use Rattle.m51_expr.specs.Tree.{tree_of, One, Two}
use Rattle.m51_expr.specs.Reading.{line_of_symbols, or_no_expression, then_read, read, operators_after, looser}
use Rattle.m51_expr.proofs.Steps.{read_operand, read_prefix, read_plain, operators_end, operators_go, err_step}
use Rattle.m51_expr.proofs.Steps.{gives_same}
use Rattle.m51_expr.proofs.Steps.{gives_read}
use Rattle.m51_expr.proofs.Looser.{looser_from, looser_zero, looser_ends, looser_goes, plain_is}
use Rattle.m51_expr.proofs.reading.+reader.Goals as goal

pub operators_after-returns-in_default-clause-gives : goal.operators_after-returns-in_default-clause-gives
operators_after-returns-in_default-clause-gives t c = λ n le. ap or_no_expression
    (operators_end n (n - 1) (line_of_symbols c.args.symbols.now) c.args.rank (tree_of c.args.left) c.args.at
    (omega (arith, le))
    (ap (λ s. infix_of s c.args.rank) (sym c.symbol_at.ensures.symbol) ∙ sym c.infix_of.ensures.op ∙ c.in_default.is))

pub operators_after-returns-in_err-right-clause-gives : goal.operators_after-returns-in_err-right-clause-gives
operators_after-returns-in_err-right-clause-gives t c = λ n le.
    let inside = c.symbol_at.ensures.within (c.in-Some.ensures.some refl) in
    let p = err_from_is_err_and c.from_residual.result c.from_residual.ensures.1 in
    rw (p.1, p.2) (err_step c.in_err-right.field-0.0 _ _ _
    (c.in_err-right.ensures.gives (n - 1) (omega (arith, le, inside)))
    (operators_go n (n - 1) (line_of_symbols c.args.symbols.now) c.args.rank (tree_of c.args.left) c.args.at
    c.in-Some.op (omega (arith, le))
    (ap (λ s. infix_of s c.args.rank) (sym c.symbol_at.ensures.symbol) ∙ sym c.infix_of.ensures.op ∙ c.in-Some.is)))

pub operators_after-returns-clause-gives : goal.operators_after-returns-clause-gives
operators_after-returns-clause-gives t c = λ n le.
    let line = line_of_symbols c.args.symbols.now in
    let inside = c.symbol_at.ensures.within (c.in-Some.ensures.some refl) in
    gives_same c.operators_after.result _ _
    (c.operators_after.ensures.gives (n - 1) (omega (arith, le, inside, c.in_ok-right.ensures.within.0)))
    (operators_go n (n - 1) line c.args.rank (tree_of c.args.left) c.args.at c.in-Some.op (omega (arith, le))
    (ap (λ s. infix_of s c.args.rank) (sym c.symbol_at.ensures.symbol) ∙ sym c.infix_of.ensures.op ∙ c.in-Some.is)
    ∙ ap (λ r. then_read r
    (λ right next. operators_after (n - 1) line c.args.rank (Two c.in-Some.op (tree_of c.args.left) right)
    next)) (gives_read c.in_ok-right.right c.in_ok-right.next _
    (c.in_ok-right.ensures.gives (n - 1) (omega (arith, le, inside))))
    ∙ ap (λ e. operators_after (n - 1) line c.args.rank e c.in_ok-right.next) (sym c.in_ok-both.ensures))

pub read-returns-then-rank-eq-OPERAND-clause-gives : goal.read-returns-then-rank-eq-OPERAND-clause-gives
read-returns-then-rank-eq-OPERAND-clause-gives t c = λ n le.
    let line = line_of_symbols c.args.symbols.now in
    gives_same c.operand.result _ _ (c.operand.ensures.gives (n - 1) (omega (arith, le, c.if-rank-eq-OPERAND.true)))
    (ap (λ r. read n line r c.args.at) c.if-rank-eq-OPERAND.true
    ∙ read_operand n (n - 1) line c.args.at (omega (arith, le, c.if-rank-eq-OPERAND.true)))

pub read-returns-in_err-inner-in-Some-clause-gives : goal.read-returns-in_err-inner-in-Some-clause-gives
read-returns-in_err-inner-in-Some-clause-gives t c = λ n le.
    let inside = c.symbol_at-symbol.ensures.within (c.in-Some.ensures.some refl) in
    let p = err_from_is_err_and c.from_residual.result c.from_residual.ensures.1 in
    rw (p.1, p.2) (err_step c.in_err-inner-in-Some.field-0.0 _ _ _
    (c.in_err-inner-in-Some.ensures.gives (n - 1) (omega (arith, le, inside)))
    (read_prefix n (n - 1) (line_of_symbols c.args.symbols.now) c.args.rank c.args.at c.in-Some.op
    (omega (arith, le, c.requires.rank)) (omega (arith, c.requires.rank, c.if-rank-eq-OPERAND.false))
    (ap (λ s. prefix_of s c.args.rank) (sym c.symbol_at-symbol.ensures.symbol) ∙ sym c.prefix_of.ensures.op
    ∙ c.in-Some.is)))

pub read-returns-in_ok-one-in-Some-clause-gives : goal.read-returns-in_ok-one-in-Some-clause-gives
read-returns-in_ok-one-in-Some-clause-gives t c = λ n le.
    let inside = c.symbol_at-symbol.ensures.within (c.in-Some.ensures.some refl) in
    ap or_no_expression (read_prefix n (n - 1) (line_of_symbols c.args.symbols.now) c.args.rank c.args.at c.in-Some.op
    (omega (arith, le, c.requires.rank)) (omega (arith, c.requires.rank, c.if-rank-eq-OPERAND.false))
    (ap (λ s. prefix_of s c.args.rank) (sym c.symbol_at-symbol.ensures.symbol) ∙ sym c.prefix_of.ensures.op
    ∙ c.in-Some.is)
    ∙ ap (λ r. then_read r (λ e next. Some (One c.in-Some.op e, next)))
    (gives_read c.in_ok-inner-in-Some.inner c.in_ok-inner-in-Some.next _
    (c.in_ok-inner-in-Some.ensures.gives (n - 1) (omega (arith, le, inside))))
    ∙ ap (λ e. Some (e, c.in_ok-inner-in-Some.next)) (sym c.in_ok-one-in-Some.ensures))

pub read-returns-in_err-left-in-None-clause-gives : goal.read-returns-in_err-left-in-None-clause-gives
read-returns-in_err-left-in-None-clause-gives t c = λ n le.
    let p = err_from_is_err_and c.from_residual-in_err-left-in-None.result
    c.from_residual-in_err-left-in-None.ensures.1 in
    let low : c.args.rank < 8 = omega (arith, c.requires.rank, c.if-rank-eq-OPERAND.false) in
    rw (p.1, p.2) (err_step c.in_err-left-in-None.field-0.0 _ _ _
    (c.in_err-left-in-None.ensures.gives (n - 1) (omega (arith, le, low)))
    (read_plain n (n - 1) (line_of_symbols c.args.symbols.now) c.args.rank c.args.at (omega (arith, le, low)) low
    (ap (λ s. prefix_of s c.args.rank) (sym c.symbol_at-symbol.ensures.symbol) ∙ sym c.prefix_of.ensures.op
    ∙ c.in-None.is)))

pub read-returns-in_ok-left-in-None-clause-gives : goal.read-returns-in_ok-left-in-None-clause-gives
read-returns-in_ok-left-in-None-clause-gives t c = λ n le.
    let line = line_of_symbols c.args.symbols.now in
    let low : c.args.rank < 8 = omega (arith, c.requires.rank, c.if-rank-eq-OPERAND.false) in
    gives_same c.operators_after.result _ _
    (c.operators_after.ensures.gives (n - 1)
    (omega (arith, le, low, c.in_ok-left-in-None.ensures.within.0, c.in_ok-left-in-None.ensures.within.1)))
    (read_plain n (n - 1) line c.args.rank c.args.at (omega (arith, le, low)) low
    (ap (λ s. prefix_of s c.args.rank) (sym c.symbol_at-symbol.ensures.symbol) ∙ sym c.prefix_of.ensures.op
    ∙ c.in-None.is)
    ∙ ap (λ r. then_read r (λ left next. operators_after (n - 1) line c.args.rank left next))
    (gives_read c.in_ok-left-in-None.left c.in_ok-left-in-None.next _
    (c.in_ok-left-in-None.ensures.gives (n - 1) (omega (arith, le, low)))))

pub plain-returns-in_err-left-clause-gives : goal.plain-returns-in_err-left-clause-gives
plain-returns-in_err-left-clause-gives t c = λ n le.
    let line = line_of_symbols c.args.symbols.now in
    let k = 8 - c.args.rank in
    let p = err_from_is_err_and c.from_residual.result c.from_residual.ensures.1 in
    rw (p.1, p.2) (err_step c.in_err-left.field-0.0 _ _ (looser_from k n line c.args.rank)
    (c.in_err-left.ensures.gives (n - k - 1) (omega (arith, le, c.requires.rank)))
    (plain_is k n line c.args.rank c.args.at (omega (arith, c.requires.rank)) c.requires.plain
    (omega (arith, le, c.requires.rank))))

pub plain-returns-clause-gives : goal.plain-returns-clause-gives
plain-returns-clause-gives t c = λ n le.
    let line = line_of_symbols c.args.symbols.now in
    let k = 8 - c.args.rank in
    gives_same c.looser.result _ _ (c.looser.ensures.gives n (omega (arith, le, c.in_ok-left.ensures.within.0)))
    (plain_is k n line c.args.rank c.args.at (omega (arith, c.requires.rank)) c.requires.plain
    (omega (arith, le, c.requires.rank))
    ∙ ap (λ r. then_read r (looser_from k n line c.args.rank))
    (gives_read c.in_ok-left.left c.in_ok-left.next _
    (c.in_ok-left.ensures.gives (n - k - 1) (omega (arith, le, c.requires.rank)))))

pub looser-returns-then-rank-eq-OPERAND-clause-gives : goal.looser-returns-then-rank-eq-OPERAND-clause-gives
looser-returns-then-rank-eq-OPERAND-clause-gives t c = λ n le.
    let line = line_of_symbols c.args.symbols.now in
    let none : 8 - c.args.rank ≡ 0 = omega (arith, c.if-rank-eq-OPERAND.true) in
    ap or_no_expression (ap (λ k. looser k n line c.args.rank (tree_of c.args.left) c.args.at) none
    ∙ looser_zero n line c.args.rank (tree_of c.args.left) c.args.at)

pub looser-returns-in_err-inner-clause-gives : goal.looser-returns-in_err-inner-clause-gives
looser-returns-in_err-inner-clause-gives t c = λ n le.
    let line = line_of_symbols c.args.symbols.now in
    let low : c.args.rank < 8 = omega (arith, c.requires.rank, c.if-rank-eq-OPERAND.false) in
    let p = err_from_is_err_and c.from_residual.result c.from_residual.ensures.1 in
    rw (p.1, p.2) (err_step c.in_err-inner.field-0.0 _ _ (operators_after (n - 1) line c.args.rank)
    (c.in_err-inner.ensures.gives (n - 1) (omega (arith, le, low)))
    (looser_goes n line c.args.rank (tree_of c.args.left) c.args.at low))

pub looser-returns-clause-gives : goal.looser-returns-clause-gives
looser-returns-clause-gives t c = λ n le.
    let line = line_of_symbols c.args.symbols.now in
    let low : c.args.rank < 8 = omega (arith, c.requires.rank, c.if-rank-eq-OPERAND.false) in
    gives_same c.operators_after.result _ _
    (c.operators_after.ensures.gives (n - 1) (omega (arith, le, low, c.in_ok-inner.ensures.within.0)))
    (looser_goes n line c.args.rank (tree_of c.args.left) c.args.at low
    ∙ ap (λ r. then_read r (operators_after (n - 1) line c.args.rank))
    (gives_read c.in_ok-inner.inner c.in_ok-inner.next _
    (c.in_ok-inner.ensures.gives (n - 1) (omega (arith, le, low)))))

pub looser-returns-then-not-is_infix-clause-gives : goal.looser-returns-then-not-is_infix-clause-gives
looser-returns-then-not-is_infix-clause-gives t c = λ n le.
    let line = line_of_symbols c.args.symbols.now in
    let none : is_some (infix_operator (line c.args.at)) ≡ false =
    ap (λ s. is_some (infix_operator s)) (sym c.symbol_at.ensures.symbol) ∙ sym c.is_infix.ensures
    ∙ c.if-not-is_infix.true in
    ap or_no_expression (looser_ends (8 - c.args.rank) n line c.args.rank (tree_of c.args.left) c.args.at none
    (omega (arith, le, c.requires.rank)))
