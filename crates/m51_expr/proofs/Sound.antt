-- What is read is in the grammar.
use Rattle.std.proofs.Common.{◌≡◌, ℕ, zero, suc, ◌+◌, ◌<◌, ◌≤◌, cond, Bool, true, false, Option, Some, None, Result, Ok}
use Rattle.std.proofs.Common.{Err, IfOk, refl, sym, ap, ◌∙◌, arith, subst, ⊎_elim}
use Rattle.std.proofs.str.Laws.{order}
use Rattle.m51_expr.specs.declared.tree.Unary.{Unary}
use Rattle.m51_expr.specs.declared.tree.Binary.{Binary}
use Rattle.m51_expr.specs.declared.tree.Expr.{Expr}
use Rattle.m51_expr.specs.declared.fault.ReadError.{ReadError}
use Rattle.m51_expr.specs.Tree.{Tree, Here as HereTree, One, Two, tree_of}
use Rattle.m51_expr.specs.Ranks.{prefix_of, infix_of, is_open, is_close, leaf_of}
use Rattle.m51_expr.specs.Reading.{Line, ParsedTree, then_read, closed, leaf_at, read, operators_after, GivesTree}
use Rattle.m51_expr.specs.Grammar.{Writes, Leaf, Parens, Before, Between, Tighter, Ends, IsExpression}
use Rattle.m51_expr.proofs.Ranking.{none_at_8, ends_at}
use Rattle.m51_expr.proofs.Steps.{read_operand, read_prefix, read_plain, operators_end, operators_go, gives_ok}

-- the two parts of what is read on
record Parts (r : ParsedTree) (go : Tree → ℕ → ParsedTree) (e : Tree) (to : ℕ) : Type 0 where
  first : Tree
  next : ℕ
  read_first : r ≡ Some (first, next)
  rest_read : go first next ≡ Some (e, to)

parts : (r : ParsedTree) (go : Tree → ℕ → ParsedTree) (e : Tree) (to : ℕ) → then_read r go ≡ Some (e, to)
    → Parts r go e to
parts None go e to h = absurd (cc h)
parts (Some (f, next)) go e to h = record { first = f; next = next; read_first = refl; rest_read = h }

abbrev pub it : Tree → ℕ → ParsedTree
it e at = Some (e, at)

abbrev tree_in : ParsedTree → Tree
tree_in None = HereTree
tree_in (Some r) = r.0

abbrev place_in : ParsedTree → ℕ
place_in None = 0
place_in (Some r) = r.1

-- a pair that is read is this one
same_tree : (e f : Tree) (i j : ℕ) → it e i ≡ it f j → e ≡ f
same_tree e f i j h = ap tree_in h

same_place : (e f : Tree) (i j : ℕ) → it e i ≡ it f j → i ≡ j
same_place e f i j h = ap place_in h

abbrev ReadSound : ℕ → Line → Type 0
ReadSound n line = (rank at : ℕ) (e : Tree) (to : ℕ) → rank ≤ 8 → read n line rank at ≡ Some (e, to)
    → IsExpression line rank at e to

abbrev MoreSound : ℕ → Line → Type 0
MoreSound n line = (rank at : ℕ) (left : Tree) (mid : ℕ) (e : Tree) (to : ℕ) → rank < 8 → Writes line rank at left mid
    → Ends line (rank + 1) mid → operators_after n line rank left mid ≡ Some (e, to) → IsExpression line rank at e to

-- the tree and the index may be called by other names
renamed : (line : Line) (rank at : ℕ) (e f : Tree) (i j : ℕ) → it e i ≡ it f j → IsExpression line rank at e i
    → IsExpression line rank at f j
renamed line rank at e f i j h found =
    subst (λ t. IsExpression line rank at t j) (same_tree e f i j h)
    (subst (IsExpression line rank at e) (same_place e f i j h) found)

closed_found : (line : Line) (at : ℕ) (f : Tree) (next : ℕ) (e : Tree) (to : ℕ) (c : Bool) → is_close (line next) ≡ c
    → is_open (line at) ≡ true → Writes line 0 (at + 1) f next → closed c f next ≡ Some (e, to)
    → IsExpression line 8 at e to
closed_found line at f next e to true close open' inner h =
    renamed line 8 at f e (next + 1) to h
    (record { writes = Parens refl open' inner close refl; ends = none_at_8 (line (next + 1)) })
closed_found line at f next e to false close open' inner h = absurd (cc h)

leaf_found : (line : Line) (at : ℕ) (e : Tree) (to : ℕ) (o : Option Tree) → leaf_of (line at) ≡ o
    → leaf_at o at ≡ Some (e, to) → IsExpression line 8 at e to
leaf_found line at e to None is h = absurd (cc h)
leaf_found line at e to (Some f) is h =
    renamed line 8 at f e (at + 1) to h (record { writes = Leaf refl is refl; ends = none_at_8 (line (at + 1)) })

operand_found : (n : ℕ) (line : Line) (at : ℕ) (e : Tree) (to : ℕ) (b : Bool) → ReadSound n line → is_open (line at) ≡ b
    → cond b (then_read (read n line 0 (at + 1)) (λ f next. closed (is_close (line next)) f next))
    (leaf_at (leaf_of (line at)) at) ≡ Some (e, to) → IsExpression line 8 at e to
operand_found n line at e to true sound is h =
    let p = parts (read n line 0 (at + 1)) (λ f next. closed (is_close (line next)) f next) e to h in
    closed_found line at p.first p.next e to (is_close (line p.next)) refl is
    (sound 0 (at + 1) p.first p.next (omega arith) p.read_first).writes p.rest_read
operand_found n line at e to false sound is h = leaf_found line at e to (leaf_of (line at)) refl h

prefix_found : (n : ℕ) (line : Line) (rank at : ℕ) (e : Tree) (to : ℕ) (o : Option Unary) → ReadSound n line
    → MoreSound n line → rank < 8 → prefix_of (line at) rank ≡ o → read (suc n) line rank at ≡ Some (e, to)
    → IsExpression line rank at e to
prefix_found n line rank at e to (Some op) sound goes low is h =
    let p = parts (read n line rank (at + 1)) (λ f next. Some (One op f, next)) e to
    (sym (read_prefix (suc n) n line rank at op refl low is) ∙ h) in
    let inner = sound rank (at + 1) p.first p.next (omega (arith, low)) p.read_first in
    renamed line rank at (One op p.first) e p.next to p.rest_read
    (record { writes = Before is inner.writes; ends = inner.ends })
prefix_found n line rank at e to None sound goes low is h =
    let p = parts (read n line (rank + 1) at) (λ left next. operators_after n line rank left next) e to
    (sym (read_plain (suc n) n line rank at refl low is) ∙ h) in
    let left = sound (rank + 1) at p.first p.next (omega (arith, low)) p.read_first in
    goes rank at p.first p.next e to low (Tighter low left.writes) left.ends p.rest_read

read_found : (n : ℕ) (line : Line) → ReadSound n line → MoreSound n line → ReadSound (suc n) line
read_found n line sound goes rank at e to le h =
    ⊎_elim (λ low. prefix_found n line rank at e to (prefix_of (line at) rank) sound goes low refl h)
    (λ high. let is : rank ≡ 8 = omega (arith, le, high) in subst (λ r. IsExpression line r at e to) (sym is)
    (operand_found n line at e to (is_open (line at)) sound refl
    (sym (read_operand (suc n) n line at refl) ∙ ap (λ r. read (suc n) line r at) (sym is) ∙ h)))
    (order rank 8)

infix_found : (n : ℕ) (line : Line) (rank at : ℕ) (left : Tree) (mid : ℕ) (e : Tree) (to : ℕ) (o : Option Binary)
    → ReadSound n line → MoreSound n line → rank < 8 → Writes line rank at left mid → Ends line (rank + 1) mid
    → infix_of (line mid) rank ≡ o → operators_after (suc n) line rank left mid ≡ Some (e, to)
    → IsExpression line rank at e to
infix_found n line rank at left mid e to None sound goes low writes ends is h =
    renamed line rank at left e mid to (sym (operators_end (suc n) n line rank left mid refl is) ∙ h)
    (record { writes = writes; ends = ends_at line rank mid is ends })
infix_found n line rank at left mid e to (Some op) sound goes low writes ends is h =
    let p = parts (read n line (rank + 1) (mid + 1))
    (λ right next. operators_after n line rank (Two op left right) next) e to
    (sym (operators_go (suc n) n line rank left mid op refl is) ∙ h) in
    let right = sound (rank + 1) (mid + 1) p.first p.next (omega (arith, low)) p.read_first in
    goes rank at (Two op left p.first) p.next e to low (Between writes is right.writes) right.ends p.rest_read

record Sound (n : ℕ) (line : Line) : Type 0 where
  pub reads : ReadSound n line
  pub goes : MoreSound n line

read_zero : (line : Line) → ReadSound 0 line
unfolding read
read_zero line rank at e to le h = absurd (cc h)

operators_zero : (line : Line) → MoreSound 0 line
unfolding operators_after
operators_zero line rank at left mid e to low writes ends h = absurd (cc h)

sound_at : (n : ℕ) (line : Line) → Sound n line
sound_at zero line = record { reads = read_zero line; goes = operators_zero line }
sound_at (suc n) line =
    let below = sound_at n line in
    record {
      reads = read_found n line below.reads below.goes;
      goes = λ rank at left mid e to low writes ends h. infix_found n line rank at left mid e to
          (infix_of (line mid) rank) below.reads below.goes low writes ends refl h;
    }

-- what is read is a whole expression of the grammar
pub sound : (n : ℕ) (line : Line) (at : ℕ) (e : Tree) (to : ℕ) → read n line 0 at ≡ Some (e, to)
    → IsExpression line 0 at e to
sound n line at e to h = (sound_at n line).reads 0 at e to (omega arith) h

pub found_of : (r : Result (Expr × ℕ) ReadError) (n : ℕ) (line : Line) (at : ℕ) → GivesTree r (read n line 0 at)
    → IfOk r (λ x. IsExpression line 0 at (tree_of x.0) x.1)
found_of (Ok x) n line at h = sound n line at (tree_of x.0) x.1 (gives_ok x (read n line 0 at) h)
found_of (Err e) n line at h = tt
