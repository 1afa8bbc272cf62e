-- One step of reading.
use Rattle.std.proofs.Common.{◌≡◌, ℕ, suc, ◌+◌, ◌<◌, ◌==◌, cond, false, Some, None, Result, Ok, Err, refl, sym, ap, ◌∙◌}
use Rattle.std.proofs.Common.{arith, subst}
use Rattle.std.proofs.lemmas.Grind.{common_steps}
use Rattle.m51_expr.specs.declared.tree.Unary.{Unary}
use Rattle.m51_expr.specs.declared.tree.Binary.{Binary}
use Rattle.m51_expr.specs.declared.tree.Expr.{Expr}
use Rattle.m51_expr.specs.declared.fault.ReadError.{ReadError}
use Rattle.m51_expr.specs.declared.fault.ReadError.TheVariants.{Fault, Memory}
use Rattle.m51_expr.specs.Tree.{Tree, One, Two, tree_of}
use Rattle.m51_expr.specs.Ranks.{prefix_of, infix_of}
use Rattle.m51_expr.specs.Reading.{Line, ParsedTree, then_read, operand, prefixed, followed, read, GivesTree}
use Rattle.m51_expr.specs.Reading.{operators_after}
use Rattle.m51_expr.specs.Reading.{or_no_expression}

-- what an answer has read
abbrev read_in : Result (Tree × ℕ) ℕ → ParsedTree
read_in (Ok r) = Some r
read_in (Err k) = None

-- a rank of operators is not that of operands
pub below : (rank : ℕ) → rank < 8 → (rank == 8) ≡ false
below rank h = grind (arith, common_steps)

pub read_operand : (n m : ℕ) (line : Line) (at : ℕ) → n ≡ suc m
    → read n line 8 at ≡ operand line at (read m line 0 (at + 1))
unfolding read
read_operand n m line at e = ap (λ k. read k line 8 at) e

read_below : (m : ℕ) (line : Line) (rank at : ℕ) → rank < 8
    → read (suc m) line rank at ≡ prefixed (prefix_of (line at) rank) (read m line rank (at + 1))
    (then_read (read m line (rank + 1) at) (λ left next. operators_after m line rank left next))
unfolding read operators_after
read_below m line rank at h =
    ap (λ b. cond b (operand line at (read m line 0 (at + 1)))
    (prefixed (prefix_of (line at) rank) (read m line rank (at + 1))
    (then_read (read m line (rank + 1) at) (λ left next. operators_after m line rank left next)))) (below rank h)

pub read_prefix : (n m : ℕ) (line : Line) (rank at : ℕ) (op : Unary) → n ≡ suc m → rank < 8
    → prefix_of (line at) rank ≡ Some op
    → read n line rank at ≡ then_read (read m line rank (at + 1)) (λ e next. Some (One op e, next))
read_prefix n m line rank at op e h is = ap (λ k. read k line rank at) e ∙ read_below m line rank at h
    ∙ ap (λ o. prefixed o (read m line rank (at + 1))
    (then_read (read m line (rank + 1) at) (λ left next. operators_after m line rank left next))) is

pub read_plain : (n m : ℕ) (line : Line) (rank at : ℕ) → n ≡ suc m → rank < 8 → prefix_of (line at) rank ≡ None
    → read n line rank at ≡ then_read (read m line (rank + 1) at) (λ left next. operators_after m line rank left next)
read_plain n m line rank at e h is = ap (λ k. read k line rank at) e ∙ read_below m line rank at h
    ∙ ap (λ o. prefixed o (read m line rank (at + 1))
    (then_read (read m line (rank + 1) at) (λ left next. operators_after m line rank left next))) is

operators_step : (m : ℕ) (line : Line) (rank : ℕ) (left : Tree) (at : ℕ)
    → operators_after (suc m) line rank left at
    ≡ followed (infix_of (line at) rank) left at
    (λ op. then_read (read m line (rank + 1) (at + 1))
    (λ right next. operators_after m line rank (Two op left right) next))
unfolding read operators_after
operators_step m line rank left at = refl

pub operators_end : (n m : ℕ) (line : Line) (rank : ℕ) (left : Tree) (at : ℕ) → n ≡ suc m
    → infix_of (line at) rank ≡ None
    → operators_after n line rank left at ≡ Some (left, at)
operators_end n m line rank left at e is =
    ap (λ k. operators_after k line rank left at) e ∙ operators_step m line rank left at
    ∙ ap (λ o. followed o left at
    (λ op. then_read (read m line (rank + 1) (at + 1))
    (λ right next. operators_after m line rank (Two op left right) next))) is

pub operators_go : (n m : ℕ) (line : Line) (rank : ℕ) (left : Tree) (at : ℕ) (op : Binary) → n ≡ suc m
    → infix_of (line at) rank ≡ Some op
    → operators_after n line rank left at
    ≡ then_read (read m line (rank + 1) (at + 1)) (λ right next. operators_after m line rank (Two op left right) next)
operators_go n m line rank left at op e is =
    ap (λ k. operators_after k line rank left at) e ∙ operators_step m line rank left at
    ∙ ap (λ o. followed o left at
    (λ op. then_read (read m line (rank + 1) (at + 1))
    (λ right next. operators_after m line rank (Two op left right) next))) is

-- an error of a part is that of the whole
pub err_step : (e : ReadError) (part whole : ParsedTree) (go : Tree → ℕ → ParsedTree) → GivesTree (Err e) part
    → whole ≡ then_read part go → GivesTree (Err e) whole
err_step (Fault k) None whole go h is = ap or_no_expression is ∙ h
err_step (Fault k) (Some r) whole go h is = absurd (cc h)
err_step Memory part whole go h is = tt

-- a result that gives what `part` reads gives what `whole` reads, if the two are equal
pub gives_same : (r : Result (Expr × ℕ) ReadError) (part whole : ParsedTree) → GivesTree r part → whole ≡ part
    → GivesTree r whole
gives_same r part whole h is = subst (GivesTree r) (sym is) h

-- a tree that a function returned is read
pub gives_ok : (x : Expr × ℕ) (reads : ParsedTree) → GivesTree (Ok x) reads → reads ≡ Some (tree_of x.0, x.1)
gives_ok x None h = absurd (cc h)
gives_ok x (Some r) h = ap read_in h

pub gives_read : (e : Expr) (next : ℕ) (reads : ParsedTree) → GivesTree (Ok (e, next)) reads → reads
    ≡ Some (tree_of e, next)
gives_read e next reads h = gives_ok (e, next) reads h
