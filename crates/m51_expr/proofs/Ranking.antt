-- Which symbols are operators of which rank.
use Rattle.std.proofs.Common.{◌≡◌, ℕ, ◌+◌, ◌<◌, ◌≤◌, ◌==◌, cond, true, false, Option, Some, None, refl, sym, ap, ◌∙◌}
use Rattle.std.proofs.Common.{arith, ⊎_elim}
use Rattle.std.proofs.str.Laws.{order}
use Rattle.std.proofs.lemmas.Bool.{eqb-true}
use Rattle.std.proofs.lemmas.Grind.{common_steps}
use Rattle.std.proofs.lemmas.Option.{cond_some}
use Rattle.m51_expr.specs.declared.tree.Unary.{Unary}
use Rattle.m51_expr.specs.declared.tree.Unary.TheVariants as unary
use Rattle.m51_expr.specs.declared.tree.Binary.{Binary}
use Rattle.m51_expr.specs.declared.tree.Binary.TheVariants as binary
use Rattle.m51_expr.specs.declared.symbol.Symbol.{Symbol}
use Rattle.m51_expr.specs.declared.symbol.Symbol.TheVariants.{Open, Plus, Minus, Prefix, Infix}
use Rattle.m51_expr.specs.Tree.{Tree}
use Rattle.m51_expr.specs.Ranks.{of_rank, prefix_of, prefix_rank, prefix_operator, infix_of, infix_rank, infix_operator}
use Rattle.m51_expr.specs.Ranks.{is_open, is_close, leaf_of}
use Rattle.m51_expr.specs.Reading.{Line}
use Rattle.m51_expr.specs.Grammar.{Ends}

above : (a b : ℕ) → a < b → (b == a) ≡ false
above a b h = grind (arith, common_steps)

below : (a b : ℕ) → a < b → (a == b) ≡ false
below a b h = grind (arith, common_steps)

-- an operator that has a rank has no other
other_rank : {Op : Type 0} (rank_of : Op → ℕ) (rank r : ℕ) (o : Option Op) (op : Op) → of_rank rank_of rank o ≡ Some op
    → (r == rank) ≡ false → of_rank rank_of r o ≡ None
other_rank rank_of rank r None op h differ = refl
other_rank rank_of rank r (Some o) op h differ =
    ap (λ b. cond b (Some o) None)
    (ap (λ n. r == n) (sym (eqb-true rank (rank_of o) (cond_some (rank == rank_of o) o op h).0)) ∙ differ)

-- a rank that no operator has
rank_of_none : {Op : Type 0} (rank_of : Op → ℕ) (r : ℕ) (o : Option Op) → ((op : Op) → (r == rank_of op) ≡ false)
    → of_rank rank_of r o ≡ None
rank_of_none rank_of r None differ = refl
rank_of_none rank_of r (Some op) differ = ap (λ b. cond b (Some op) None) (differ op)

prefix_low : (op : Unary) → prefix_rank op < 8
prefix_low unary.Not = omega arith
prefix_low op = omega arith

infix_low : (op : Binary) → infix_rank op < 8
infix_low binary.Mul = omega arith
infix_low op = omega arith

not_2 : (op : Binary) → (2 == infix_rank op) ≡ false
not_2 binary.Mul = refl
not_2 op = refl

not_6 : (op : Binary) → (6 == infix_rank op) ≡ false
not_6 binary.Mul = refl
not_6 op = refl

not_prefix_rank : (op : Unary) (o : Binary) → (prefix_rank op == infix_rank o) ≡ false
not_prefix_rank unary.Not o = not_2 o
not_prefix_rank op o = not_6 o

-- the rank of an operator before an operand: it is below that of operands, and no operator between two has it
pub record PrefixRank (rank : ℕ) : Type 0 where
  pub low : rank < 8
  pub none : (s : Option Symbol) → infix_of s rank ≡ None

prefix_rank_of : (rank : ℕ) (o : Option Unary) (op : Unary) → of_rank prefix_rank rank o ≡ Some op → PrefixRank rank
prefix_rank_of rank None op h = absurd (cc h)
prefix_rank_of rank (Some o) op h =
    let is = eqb-true rank (prefix_rank o) (cond_some (rank == prefix_rank o) o op h).0 in
    record {
      low = omega (arith, is, prefix_low o);
      none = λ s. rank_of_none infix_rank rank (infix_operator s)
          (λ b. ap (λ n. n == infix_rank b) is ∙ not_prefix_rank o b);
    }

pub of_prefix : (s : Option Symbol) (rank : ℕ) (op : Unary) → prefix_of s rank ≡ Some op → PrefixRank rank
of_prefix s rank op h = prefix_rank_of rank (prefix_operator s) op h

infix_low_of : (rank : ℕ) (o : Option Binary) (op : Binary) → of_rank infix_rank rank o ≡ Some op → rank < 8
infix_low_of rank None op h = absurd (cc h)
infix_low_of rank (Some o) op h =
    omega (arith, eqb-true rank (infix_rank o) (cond_some (rank == infix_rank o) o op h).0, infix_low o)

-- an operator between two operands has a rank below that of operands
pub infix_below : (s : Option Symbol) (rank : ℕ) (op : Binary) → infix_of s rank ≡ Some op → rank < 8
infix_below s rank op h = infix_low_of rank (infix_operator s) op h

pub none_at_8 : (s : Option Symbol) (r : ℕ) → 8 ≤ r → infix_of s r ≡ None
none_at_8 s r h = rank_of_none infix_rank r (infix_operator s)
    (λ op. above (infix_rank op) r (omega (arith, h, infix_low op)))

-- an operator of a rank is none of a tighter one, and one before an operand is none of a looser one
pub no_tighter_infix : (s : Option Symbol) (rank r : ℕ) (op : Binary) → infix_of s rank ≡ Some op → rank < r
    → infix_of s r ≡ None
no_tighter_infix s rank r op h lt = other_rank infix_rank rank r (infix_operator s) op h (above rank r lt)

pub no_looser_prefix : (s : Option Symbol) (rank r : ℕ) (op : Unary) → prefix_of s rank ≡ Some op → r < rank
    → prefix_of s r ≡ None
no_looser_prefix s rank r op h lt = other_rank prefix_rank rank r (prefix_operator s) op h (below r rank lt)

-- what begins an operand is no operator before one
leaf_no_operator : (s : Option Symbol) (e : Tree) → leaf_of s ≡ Some e → prefix_operator s ≡ None
leaf_no_operator (Some Plus) e h = absurd (cc h)
leaf_no_operator (Some Minus) e h = absurd (cc h)
leaf_no_operator (Some (Prefix op)) e h = absurd (cc h)
leaf_no_operator s e h = refl

pub leaf_no_prefix : (s : Option Symbol) (r : ℕ) (e : Tree) → leaf_of s ≡ Some e → prefix_of s r ≡ None
leaf_no_prefix s r e h = ap (of_rank prefix_rank r) (leaf_no_operator s e h)

pub leaf_not_open : (s : Option Symbol) (e : Tree) → leaf_of s ≡ Some e → is_open s ≡ false
leaf_not_open (Some Open) e h = absurd (cc h)
leaf_not_open s e h = refl

open_no_operator : (s : Option Symbol) → is_open s ≡ true → prefix_operator s ≡ None
open_no_operator (Some Plus) h = absurd (cc h)
open_no_operator (Some Minus) h = absurd (cc h)
open_no_operator (Some (Prefix op)) h = absurd (cc h)
open_no_operator s h = refl

pub open_no_prefix : (s : Option Symbol) (r : ℕ) → is_open s ≡ true → prefix_of s r ≡ None
open_no_prefix s r h = ap (of_rank prefix_rank r) (open_no_operator s h)

close_no_operator : (s : Option Symbol) → is_close s ≡ true → infix_operator s ≡ None
close_no_operator (Some Plus) h = absurd (cc h)
close_no_operator (Some Minus) h = absurd (cc h)
close_no_operator (Some (Infix op)) h = absurd (cc h)
close_no_operator s h = refl

pub close_no_infix : (s : Option Symbol) (r : ℕ) → is_close s ≡ true → infix_of s r ≡ None
close_no_infix s r h = ap (of_rank infix_rank r) (close_no_operator s h)

-- no operator of a rank follows, nor one of a tighter rank
pub ends_at : (line : Line) (rank to : ℕ) → infix_of (line to) rank ≡ None → Ends line (rank + 1) to → Ends line rank to
ends_at line rank to none ends r le =
    ⊎_elim (λ lt. ends r (omega (arith, lt)))
    (λ ge. let same : rank ≡ r = omega (arith, le, ge) in ap (infix_of (line to)) (sym same) ∙ none) (order rank r)

pub ends_above : (line : Line) (a b to : ℕ) → a ≤ b → Ends line a to → Ends line b to
ends_above line a b to le ends r h = ends r (omega (arith, le, h))
