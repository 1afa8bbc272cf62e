-- An operand, and the ranks below it.
use Rattle.std.proofs.Common.{◌≡◌, ℕ, zero, suc, ◌+◌, ◌-◌, ◌<◌, false, is_some, Option, Some, None, refl, sym, ap, ◌∙◌}
use Rattle.std.proofs.Common.{arith}
use Rattle.m51_expr.specs.Tree.{Tree}
use Rattle.m51_expr.specs.Ranks.{of_rank, prefix_operator, prefix_rank, infix_operator, infix_rank}
use Rattle.m51_expr.specs.Reading.{Line, ParsedTree, then_read, operand, read, operators_after, looser}
use Rattle.m51_expr.proofs.Steps.{read_operand, read_plain, operators_end}

none_of : {A : Type 0} (o : Option A) → is_some o ≡ false → o ≡ None
none_of None h = refl
none_of (Some a) h = absurd (cc h)

abbrev pub looser_from : ℕ → ℕ → Line → ℕ → Tree → ℕ → ParsedTree
looser_from k n line rank left at = looser k n line rank left at

pub looser_step : (k n : ℕ) (line : Line) (rank : ℕ) (left : Tree) (at : ℕ)
    → looser (suc k) n line rank left at
    ≡ then_read (looser k (n - 1) line (rank + 1) left at) (operators_after (n - 1) line rank)
unfolding looser
looser_step k n line rank left at = refl

pub looser_zero : (n : ℕ) (line : Line) (rank : ℕ) (left : Tree) (at : ℕ)
    → looser 0 n line rank left at ≡ Some (left, at)
unfolding looser
looser_zero n line rank left at = refl

pub looser_goes : (n : ℕ) (line : Line) (rank : ℕ) (left : Tree) (at : ℕ) → rank < 8
    → looser (8 - rank) n line rank left at ≡ then_read (looser (8 - (rank + 1)) (n - 1) line (rank + 1) left at)
    (operators_after (n - 1) line rank)
looser_goes n line rank left at low =
    let same : 8 - rank ≡ suc (8 - (rank + 1)) = omega (arith, low) in
    ap (λ k. looser k n line rank left at) same ∙ looser_step (8 - (rank + 1)) n line rank left at

-- no operator follows
pub looser_ends : (k n : ℕ) (line : Line) (rank : ℕ) (left : Tree) (at : ℕ) → is_some (infix_operator (line at)) ≡ false
    → k < n → looser k n line rank left at ≡ Some (left, at)
looser_ends zero n line rank left at none lt = looser_zero n line rank left at
looser_ends (suc k) n line rank left at none lt =
    looser_step k n line rank left at
    ∙ ap (λ r. then_read r (operators_after (n - 1) line rank))
    (looser_ends k (n - 1) line (rank + 1) left at none (omega (arith, lt)))
    ∙ operators_end (n - 1) (n - 1 - 1) line rank left at (omega (arith, lt))
    (ap (of_rank infix_rank rank) (none_of (infix_operator (line at)) none))

all_on : (r : ParsedTree) (go : Tree → ℕ → ParsedTree) → ((e : Tree) (to : ℕ) → go e to ≡ Some (e, to)) → r
    ≡ then_read r go
all_on None go h = refl
all_on (Some (e, to)) go h = sym (h e to)

on_on : (r : ParsedTree) (first both next : Tree → ℕ → ParsedTree)
    → ((e : Tree) (to : ℕ) → both e to ≡ then_read (first e to) next)
    → then_read (then_read r first) next ≡ then_read r both
on_on None first both next h = refl
on_on (Some (e, to)) first both next h = sym (h e to)

-- without an operator before it, an expression begins with an operand
pub plain_is : (k n : ℕ) (line : Line) (rank at : ℕ) → rank + k ≡ 8 → is_some (prefix_operator (line at)) ≡ false
    → k < n → read n line rank at ≡ then_read (operand line at (read (n - k - 1) line 0 (at + 1)))
    (looser_from k n line rank)
plain_is zero n line rank at is none lt =
    let high : rank ≡ 8 = omega (arith, is) in
    ap (λ r. read n line r at) high ∙ read_operand n (n - 0 - 1) line at (omega (arith, lt))
    ∙ all_on (operand line at (read (n - 0 - 1) line 0 (at + 1))) (looser_from 0 n line rank) (looser_zero n line rank)
plain_is (suc k) n line rank at is none lt =
    let same : n - 1 - k - 1 ≡ n - suc k - 1 = omega arith in
    read_plain n (n - 1) line rank at (omega (arith, lt)) (omega (arith, is))
    (ap (of_rank prefix_rank rank) (none_of (prefix_operator (line at)) none))
    ∙ ap (λ r. then_read r (operators_after (n - 1) line rank))
    (plain_is k (n - 1) line (rank + 1) at (omega (arith, is)) none (omega (arith, lt)))
    ∙ on_on (operand line at (read (n - 1 - k - 1) line 0 (at + 1))) (looser_from k (n - 1) line (rank + 1))
    (looser_from (suc k) n line rank) (operators_after (n - 1) line rank) (looser_step k n line rank)
    ∙ ap (λ m. then_read (operand line at (read m line 0 (at + 1))) (looser_from (suc k) n line rank)) same
