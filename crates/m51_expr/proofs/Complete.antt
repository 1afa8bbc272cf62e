-- Each whole expression of the grammar is read.
use Rattle.std.proofs.Common.{◌≡◌, ℕ, ◌+◌, ◌-◌, ◌*◌, ◌<◌, ◌≤◌, ◌==◌, cond, true, List, length, Option, Some, None, refl}
use Rattle.std.proofs.Common.{sym, ap, ◌∙◌, arith, subst, ⊎_elim, slice_get}
use Rattle.std.proofs.str.Laws.{order}
use Rattle.std.proofs.lemmas.Option.{slice_get_within}
use Rattle.m51_expr.specs.declared.symbol.Symbol.{Symbol}
use Rattle.m51_expr.specs.Tree.{Tree, One, Two}
use Rattle.m51_expr.specs.Ranks.{prefix_of, is_open, is_close, leaf_of}
use Rattle.m51_expr.specs.Reading.{Line, line_of_symbols, ParsedTree, then_read, closed, leaf_at, read, enough}
use Rattle.m51_expr.specs.Reading.{operators_after}
use Rattle.m51_expr.specs.Reading.{expression_in}
use Rattle.m51_expr.specs.Reading.{expression_from}
use Rattle.m51_expr.specs.Grammar.{Writes, Leaf, Parens, Before, Between, Tighter, Ends, IsExpression}
use Rattle.m51_expr.proofs.Ranking.{of_prefix, infix_below, leaf_no_prefix, leaf_not_open, open_no_prefix}
use Rattle.m51_expr.proofs.Ranking.{close_no_infix, no_tighter_infix, no_looser_prefix, ends_at, ends_above}
use Rattle.m51_expr.proofs.Steps.{below, read_operand, read_prefix, read_plain, operators_end, operators_go}
use Rattle.m51_expr.proofs.Sound.{it}

-- an expression begins with no prefix operator of a lower rank
starts : {line : Line} {r at : ℕ} {e : Tree} {to : ℕ} → Writes line r at e to → (low : ℕ) → low < r
    → prefix_of (line at) low ≡ None
starts {line} {r} {at} (Leaf {e = e} is leaf end) low lt = leaf_no_prefix (line at) low e leaf
starts {line} {r} {at} (Parens is open' inner close end) low lt = open_no_prefix (line at) low open'
starts {line} {r} {at} (Before {op = op} is inner) low lt = no_looser_prefix (line at) r low op is lt
starts (Between left is right) low lt = starts left low lt
starts (Tighter high inner) low lt = starts inner low (omega (arith, lt))

longer : {line : Line} {r at : ℕ} {e : Tree} {to : ℕ} → Writes line r at e to → at < to
longer (Leaf is leaf end) = omega (arith, end)
longer (Parens is open' inner close end) = omega (arith, end, longer inner)
longer (Before is inner) = omega (arith, longer inner)
longer (Between left is right) = omega (arith, longer left, longer right)
longer (Tighter high inner) = longer inner

rank_le : {line : Line} {r at : ℕ} {e : Tree} {to : ℕ} → Writes line r at e to → r ≤ 8
rank_le (Leaf is leaf end) = omega (arith, is)
rank_le (Parens is open' inner close end) = omega (arith, is)
rank_le {line} {r} {at} (Before {op = op} is inner) = omega (arith, (of_prefix (line at) r op is).low)
rank_le {line} {r} (Between {mid = mid} {op = op} left is right) = omega (arith, infix_below (line mid) r op is)
rank_le (Tighter high inner) = omega (arith, high)

-- a tree that is read at a rank, as far as it has come
abbrev reach : ℕ → Line → ℕ → Tree → ℕ → ParsedTree
reach m line rank e to = cond (rank == 8) (it e to) (operators_after m line rank e to)

record Reached (n : ℕ) (line : Line) (rank at : ℕ) (e : Tree) (to : ℕ) : Type 0 where
  steps : ℕ
  left : n ≤ steps + 10 * (to - at)
  is : read n line rank at ≡ reach steps line rank e to

reach_low : (m : ℕ) (line : Line) (rank : ℕ) (e : Tree) (to : ℕ) → rank < 8
    → reach m line rank e to ≡ operators_after m line rank e to
reach_low m line rank e to low = ap (λ b. cond b (it e to) (operators_after m line rank e to)) (below rank low)

reach_ends : (m : ℕ) (line : Line) (rank : ℕ) (e : Tree) (to : ℕ) → rank ≤ 8 → 9 ≤ m + rank → Ends line rank to
    → reach m line rank e to ≡ it e to
reach_ends m line rank e to le some ends =
    ⊎_elim (λ low. reach_low m line rank e to low ∙ operators_end m (m - 1) line rank e to (omega (arith, some, low))
    (ends rank (omega arith)))
    (λ high. let is : 8 ≡ rank = omega (arith, le, high) in let P : ℕ → Type 0 = λ r. reach m line r e to ≡ it e to in
    subst P is refl)
    (order rank 8)

finish : (n : ℕ) (line : Line) (rank at : ℕ) (e : Tree) (to : ℕ) → rank ≤ 8 → enough (to - at) rank ≤ n
    → Ends line rank to → Reached n line rank at e to → read n line rank at ≡ it e to
finish n line rank at e to le some ends r =
    r.is ∙ reach_ends r.steps line rank e to le (omega (arith, some, le, r.left)) ends

leaf_case : (n : ℕ) (line : Line) (rank at : ℕ) (e : Tree) (to : ℕ) → rank ≡ 8 → leaf_of (line at) ≡ Some e
    → to ≡ at + 1 → 0 < n → read n line rank at ≡ reach n line rank e to
leaf_case n line rank at e to is leaf end some =
    let P : ℕ → Type 0 = λ r. read n line r at ≡ reach n line r e to in
    let inner = read (n - 1) line 0 (at + 1) in
    subst P (sym is) (read_operand n (n - 1) line at (omega (arith, some))
    ∙ ap (λ b. cond b (then_read inner (λ f next. closed (is_close (line next)) f next))
    (leaf_at (leaf_of (line at)) at))
    (leaf_not_open (line at) e leaf)
    ∙ ap (λ o. leaf_at o at) leaf ∙ ap (it e) (sym end))

parens_case : (n : ℕ) (line : Line) (rank at last : ℕ) (e : Tree) (to : ℕ) → rank ≡ 8 → is_open (line at) ≡ true
    → read (n - 1) line 0 (at + 1) ≡ it e last → is_close (line last) ≡ true → to ≡ last + 1 → 0 < n
    → read n line rank at ≡ reach n line rank e to
parens_case n line rank at last e to is open' inner close end some =
    let P : ℕ → Type 0 = λ r. read n line r at ≡ reach n line r e to in
    subst P (sym is) (read_operand n (n - 1) line at (omega (arith, some))
    ∙ ap (λ b. cond b (then_read (read (n - 1) line 0 (at + 1)) (λ f next. closed (is_close (line next)) f next))
    (leaf_at (leaf_of (line at)) at)) open'
    ∙ ap (λ r. then_read r (λ f next. closed (is_close (line next)) f next)) inner
    ∙ ap (λ b. closed b e last) close ∙ ap (it e) (sym end))

complete : {line : Line} {rank at : ℕ} {e : Tree} {to : ℕ} → Writes line rank at e to → (n : ℕ)
    → enough (to - at) rank ≤ n → Ends line (rank + 1) to → Reached n line rank at e to
complete {line} {rank} {at} {e} {to} (Leaf is leaf end) n some ends =
    record {
      steps = n;
      left = omega arith;
      is = leaf_case n line rank at e to is leaf end (omega (arith, some, is, end));
    }
complete {line} {rank} {at} {e} {to} (Parens {last = last} is open' inner close end) n some ends =
    let ends' : Ends line 0 last = λ r le. close_no_infix (line last) r close in
    let past : at + 1 < last = longer inner in
    let enough' : enough (last - (at + 1)) 0 ≤ n - 1 = omega (arith, some, is, end, past) in
    record {
      steps = n;
      left = omega arith;
      is = parens_case n line rank at last e to is open'
          (finish (n - 1) line 0 (at + 1) e last (omega arith) enough' ends'
          (complete inner (n - 1) enough' (ends_above line 0 (0 + 1) last (omega arith) ends'))) close end
          (omega (arith, some, is, end, past));
    }
complete {line} {rank} {at} {to = to} (Before {op = op} {e = e} is inner) n some ends =
    let home = of_prefix (line at) rank op is in
    let ends' = ends_at line rank to (home.none (line to)) ends in
    let past : at + 1 < to = longer inner in
    let enough' : enough (to - (at + 1)) rank ≤ n - 1 = omega (arith, some, home.low, past) in
    record {
      steps = n;
      left = omega arith;
      is = read_prefix n (n - 1) line rank at op (omega (arith, some, home.low)) home.low is
          ∙ ap (λ r. then_read r (λ f next. it (One op f) next))
          (finish (n - 1) line rank (at + 1) e to (omega (arith, home.low)) enough' ends'
          (complete inner (n - 1) enough' ends))
          ∙ sym (reach_ends n line rank (One op e) to (omega (arith, home.low)) (omega (arith, some)) ends');
    }
complete {line} {rank} {at} {to = to} (Between {mid = mid} {op = op} {left = left} {right = right} lefts is rights) n
    some ends =
    let low : rank < 8 = infix_below (line mid) rank op is in
    let a : at < mid = longer lefts in
    let b : mid + 1 < to = longer rights in
    let l = complete lefts n (omega (arith, some, a, b))
    (λ r le. no_tighter_infix (line mid) rank r op is (omega (arith, le))) in
    let m = l.steps - 1 in
    let enough' : enough (to - (mid + 1)) (rank + 1) ≤ m = omega (arith, some, low, a, b, l.left) in
    record {
      steps = m;
      left = omega (arith, l.left, a, b, some, low);
      is = l.is ∙ reach_low l.steps line rank left mid low
          ∙ operators_go l.steps m line rank left mid op (omega (arith, some, low, a, b, l.left)) is
          ∙ ap (λ r. then_read r (λ f next. operators_after m line rank (Two op left f) next))
          (finish m line (rank + 1) (mid + 1) right to (omega (arith, low)) enough' ends
          (complete rights m enough' (ends_above line (rank + 1) (rank + 1 + 1) to (omega arith) ends)))
          ∙ sym (reach_low m line rank (Two op left right) to low);
    }
complete {line} {rank} {at} {e} {to} (Tighter low inner) n some ends =
    let a : at < to = longer inner in
    let enough' : enough (to - at) (rank + 1) ≤ n - 1 = omega (arith, some, low) in
    record {
      steps = n - 1;
      left = omega (arith, a);
      is = read_plain n (n - 1) line rank at (omega (arith, some, low)) low (starts inner rank (omega arith))
          ∙ ap (λ r. then_read r (λ f next. operators_after (n - 1) line rank f next))
          (finish (n - 1) line (rank + 1) at e to (omega (arith, low)) enough' ends
          (complete inner (n - 1) enough' (ends_above line (rank + 1) (rank + 1 + 1) to (omega arith) ends)))
          ∙ sym (reach_low (n - 1) line rank e to low);
    }

-- each whole expression of the grammar is read
pub complete_at : (n : ℕ) (line : Line) (at : ℕ) (e : Tree) (to : ℕ) → IsExpression line 0 at e to
    → enough (to - at) 0 ≤ n → read n line 0 at ≡ Some (e, to)
complete_at n line at e to found some =
    finish n line 0 at e to (omega arith) some found.ends
    (complete found.writes n some (ends_above line 0 (0 + 1) to (omega arith) found.ends))

leaf_within : (symbols : List Symbol) (at : ℕ) (o : Option Symbol) → slice_get symbols at ≡ o → (e : Tree)
    → leaf_of o ≡ Some e → at < length symbols
leaf_within symbols at None is e h = absurd (cc h)
leaf_within symbols at (Some s) is e h = slice_get_within symbols at s is

close_within : (symbols : List Symbol) (at : ℕ) (o : Option Symbol) → slice_get symbols at ≡ o → is_close o ≡ true
    → at < length symbols
close_within symbols at None is h = absurd (cc h)
close_within symbols at (Some s) is h = slice_get_within symbols at s is

-- what symbols write ends within them
pub ends_within : (symbols : List Symbol) {rank from : ℕ} {e : Tree} {to : ℕ}
    → Writes (line_of_symbols symbols) rank from e to
    → to ≤ length symbols
ends_within symbols {rank} {from} {e} {to} (Leaf is leaf end) =
    omega (arith, end, leaf_within symbols from (slice_get symbols from) refl e leaf)
ends_within symbols (Parens {last = last} is open' inner close end) =
    omega (arith, end, close_within symbols last (slice_get symbols last) refl close)
ends_within symbols (Before is inner) = ends_within symbols inner
ends_within symbols (Between lefts is rights) = ends_within symbols rights
ends_within symbols (Tighter low inner) = ends_within symbols inner

pub expression_from_is : (symbols : List Symbol) (from : ℕ) (e : Tree) (to : ℕ)
    → IsExpression (line_of_symbols symbols) 0 from e to → expression_from from symbols ≡ Some (e, to)
expression_from_is symbols from e to found =
    complete_at (enough (length symbols - from) 0) (line_of_symbols symbols) from e to found
    (omega (arith, ends_within symbols found.writes))

pub expression_is : (symbols : List Symbol) (e : Tree) (to : ℕ) → IsExpression (line_of_symbols symbols) 0 0 e to
    → expression_in symbols ≡ Some (e, to)
expression_is symbols e to found =
    complete_at (enough (length symbols) 0) (line_of_symbols symbols) 0 e to found
    (omega (arith, ends_within symbols found.writes))
