-- What is in the grammar is read.
use Rattle.m51_stmt.proofs
use proofs.Common.{◌≡◌, ℕ, Bool, true, false, List, [], ◌∷◌, Some, refl, suc, ◌<◌, ◌≤◌, ◌==◌, ◌++◌, length, Option}
use proofs.Common.{None, sym, ap, ◌∙◌, arith, slice_get, codes, option_map, list_all, bytes_eq, bytes_eq-Decides}
use proofs.Common.{and_parts, common_steps, Kind, Reloc, Symbol, Tree, prefix_rank, is_open, leaf_of, Line, Writes}
use proofs.Common.{Leaf, Parens, Before, Between, Tighter, Directive, directive_form, DefinitionWord, Awaited, BodyTree}
use proofs.Common.{OperandTree, ItemTree, StmtTree, Plain, is_comma, parts, list_of, name_alone, expression, value}
use proofs.Common.{item, operands, externs_from, is_allowed, is_overlayable, segment, definition_form, said, with_label}
use proofs.Common.{statement, IsExpr, IsList, IsOperand, AreOperands, IsName, IsValue, IsItem, is_text_alone}
use proofs.Common.{AreExterns, HasType, HasOverlay, IsDefinition, IsDirective, IsSaid, IsStatement}
use Rattle.std.proofs.Common.{⊎_elim}
use Rattle.std.specs.Prelude.{is_none}
use Rattle.std.specs.List.{list_any}
use Rattle.std.proofs.str.Laws.{order}
use Rattle.m51_isa.specs.Mnemonics.{mnemonics, is_mnemonic}
use Rattle.m51_expr.specs.Ranks.{prefix_operator, of_rank}
use Rattle.m51_expr.proofs.Complete.{expression_is}
use Rattle.m51_stmt.specs.Directives.{select_of, directive_of}
use Rattle.m51_stmt.specs.Kinds.{kind_of, reloc_of}
use Rattle.m51_stmt.specs.Lists.{all_parts}
use Rattle.m51_stmt.specs.Operands.{operand}
use proofs.ListWords.{Each}
use Rattle.m51_expr.specs.declared.tree.Binary.TheVariants as binary
use Rattle.m51_expr.specs.declared.symbol.Symbol.TheVariants as symbols
use Rattle.m51_stmt.specs.declared.externs.Awaited.TheVariants as awaited
use Rattle.m51_stmt.specs.Statement as body
use Rattle.m51_stmt.specs.Grammar as grammar

-- No mnemonic is a word of a directive.

mnemonics_begin_none : list_all (λ m. is_none (directive_of m)) mnemonics ≡ true
unfolding directive_of select_of
mnemonics_begin_none = refl

differs : (m w : List ℕ) (d : Directive) (b : Bool) → bytes_eq m w ≡ b → is_none (directive_of m) ≡ true
    → directive_of w ≡ Some d → b ≡ false
differs m w d false t none is = refl
differs m w d true t none is =
    absurd (cc (rw ((bytes_eq-Decides m w).0 t, is) at none))

none_among : (words : List (List ℕ)) (w : List ℕ) (d : Directive)
    → list_all (λ m. is_none (directive_of m)) words ≡ true → directive_of w ≡ Some d
    → list_any (λ m. bytes_eq m w) words ≡ false
none_among [] w d none is = refl
none_among (m ∷ more) w d none is =
    let parts = and_parts (is_none (directive_of m)) (list_all (λ m. is_none (directive_of m)) more) none in
    rw (differs m w d (bytes_eq m w) refl parts.0 is) (none_among more w d parts.1 is)

-- a word of a directive is no mnemonic
pub no_mnemonic : (w : List ℕ) (d : Directive) → directive_of w ≡ Some d → is_mnemonic w ≡ false
unfolding is_mnemonic
no_mnemonic w d is = none_among mnemonics w d mnemonics_begin_none is

-- What is in the grammar is read.

-- expressions
none_past : (l : List Symbol) → slice_get l (length l) ≡ None
none_past [] = refl
none_past (s ∷ l) = none_past l

same_length : (n : ℕ) → (n == n) ≡ true
same_length n = grind (arith, common_steps)

expr_read : (l : List Symbol) (e : Tree) → IsExpr l e → expression l ≡ Some e
expr_read l e is =
    let whole = expression_is l e (length l)
    (grind (arith, none_past)) in
    rw (whole, same_length (length l)) refl

-- no comma
abbrev IsInside : Symbol → Type 0
IsInside s = is_comma s ≡ false

-- an index before another one, it, or an index after it
at_or : (P : ℕ → Type 0) (mid i : ℕ) → (i < mid → P i) → P mid → (mid < i → P i) → P i
at_or P mid i before here after =
    ⊎_elim before (λ ge. ⊎_elim after (λ le. let same : mid ≡ i = omega (arith, ge, le) in rw same at here)
    (order mid i)) (order i mid)

abbrev IsNoComma : Line → ℕ → Type 0
IsNoComma line n = line n ≡ Some symbols.Comma → ⊥

-- an expression contains no comma
inside : {line : Line} {rank from : ℕ} {e : Tree} {to : ℕ} → Writes line rank from e to → (i : ℕ) → from ≤ i → i < to
    → IsNoComma line i
inside {line} {rank} {from} (Leaf is leaf end) i ge lt =
    let same : from ≡ i = omega (arith, ge, lt, end) in λ k. cc (rw (same, k) at leaf)
inside {line} {rank} {from} (Parens {last = last} is open' inner close end) i ge lt =
    at_or (IsNoComma line) from i (λ before. absurd (omega (arith, ge, before))) (λ k. cc (rw k at open'))
    (λ later. at_or (IsNoComma line) last i (λ before. inside inner i (omega (arith, later)) before)
    (λ k. cc (rw k at close)) (λ past. absurd (omega (arith, past, lt, end))))
inside {line} {rank} {from} (Before is inner) i ge lt =
    at_or (IsNoComma line) from i (λ before. absurd (omega (arith, ge, before)))
    (λ k. cc (rw k at is)) (λ later. inside inner i (omega (arith, later)) lt)
inside {line} (Between {mid = mid} lefts is rights) i ge lt =
    at_or (IsNoComma line) mid i (λ before. inside lefts i ge before) (λ k. cc (rw k at is))
    (λ later. inside rights i (omega (arith, later)) lt)
inside (Tighter low inner) i ge lt = inside inner i ge lt

not_comma : (s : Symbol) → (s ≡ symbols.Comma → ⊥) → is_comma s ≡ false
not_comma s h = grind arith

each_inside : (l : List Symbol) → ((i : ℕ) → i < length l → IsNoComma (slice_get l) i) → Each IsInside l
each_inside [] h = tt
each_inside (s ∷ l) h =
    (not_comma s (λ e. h 0 (omega arith) (ap Some e)), each_inside l (λ i lt. h (suc i) (omega (arith, lt))))

expr_inside : (l : List Symbol) (e : Tree) → IsExpr l e → Each IsInside l
expr_inside l e is = each_inside l (λ i lt. inside is.writes i (omega arith) lt)

-- lists
-- one part without a comma
parts_alone : (l : List Symbol) → Each IsInside l → parts l ≡ (l, [])
parts_alone [] h = refl
parts_alone (s ∷ l) h = rw (parts_alone l h.1, h.0)

-- one part before a comma
parts_comma : (l rest : List Symbol) → Each IsInside l → parts (l ++ symbols.Comma ∷ rest) ≡ (l, all_parts rest)
parts_comma [] rest h = refl
parts_comma (s ∷ l) rest h = rw (parts_comma l rest h.1, h.0)

-- a part, which has no comma, is read
record Reads {A : Type 0} (item : List Symbol → Option A) (l : List Symbol) (a : A) : Type 0 where
  is : item l ≡ Some a
  inside : Each IsInside l

list_reads : {A : Type 0} (item : List Symbol → Option A) (P : List Symbol → A → Type 0)
    → ((l : List Symbol) (a : A) → P l a → Reads item l a) → (l : List Symbol) (xs : List A) → IsList P l xs
    → list_of item l ≡ Some xs
list_reads item P part l xs (grammar.Last is) = grind (arith, parts_alone)
list_reads item P part l xs (grammar.Comma {rest = rest} {more = more} is others) =
    grind (arith, parts_comma, list_reads item P part rest more others)

-- operands
nothing_begins : {line : Line} {rank from : ℕ} {e : Tree} {to : ℕ} → Writes line rank from e to
    → leaf_of (line from) ≡ None → is_open (line from) ≡ false → prefix_operator (line from) ≡ None → ⊥
nothing_begins (Leaf is leaf end) a b c = cc (sym a ∙ leaf)
nothing_begins (Parens is open' inner close end) a b c = cc (sym b ∙ open')
nothing_begins {line} {rank} {from} (Before {op = op} is inner) a b c = cc (sym (ap (of_rank prefix_rank rank) c) ∙ is)
nothing_begins (Between lefts is rights) a b c = nothing_begins lefts a b c
nothing_begins (Tighter low inner) a b c = nothing_begins inner a b c

plain_operand : (l : List Symbol) (e : Tree) → IsExpr l e → operand l ≡ Some (Plain e)
unfolding operand
plain_operand [] e is = absurd (nothing_begins is.writes refl refl refl)
plain_operand (symbols.Word word ∷ rest) e is = absurd (nothing_begins is.writes refl refl refl)
plain_operand (symbols.At ∷ rest) e is = absurd (nothing_begins is.writes refl refl refl)
plain_operand (symbols.Hash ∷ rest) e is = absurd (nothing_begins is.writes refl refl refl)
plain_operand (symbols.Infix binary.Div ∷ rest) e is = absurd (nothing_begins is.writes refl refl refl)
plain_operand (s ∷ rest) e is = rw (expr_read _ _ is)

operand_reads : (l : List Symbol) (o : OperandTree) → IsOperand l o → Reads operand l o
unfolding operand
operand_reads l o (grammar.Register is) = record { is = is; inside = (refl, tt) }
operand_reads l o (grammar.Pointer is) = record { is = is; inside = (refl, (refl, tt)) }
operand_reads l o (grammar.Sum is) = grind arith
operand_reads l o (grammar.Immediate is) = record { is = rw (expr_read _ _ is); inside = (refl, expr_inside _ _ is) }
operand_reads l o (grammar.Inverted is) = record { is = rw (expr_read _ _ is); inside = (refl, expr_inside _ _ is) }
operand_reads l o (grammar.Address is) = record { is = plain_operand _ _ is; inside = expr_inside _ _ is }

nonempty : (l : List Symbol) (xs : List OperandTree) → list_of operand l ≡ Some xs → operands l ≡ Some xs
unfolding operand
nonempty l xs h = grind arith

operands_read : (l : List Symbol) (os : List OperandTree) → AreOperands l os → operands l ≡ Some os
operands_read l os grammar.Without = refl
operands_read l os (grammar.With is) = nonempty _ _ (list_reads _ _ operand_reads _ _ is)

-- names and items
name_reads : (l : List Symbol) (name : List ℕ) → IsName l name → Reads name_alone l name
name_reads l name grammar.Name = record { is = refl; inside = (refl, tt) }

value_reads : (l : List Symbol) (i : ItemTree) → IsValue l i → Reads value l i
value_reads l i (grammar.Data is) = record { is = rw (expr_read _ _ is); inside = expr_inside _ _ is }

item_other : (l : List Symbol) → is_text_alone l ≡ false → item l ≡ value l
item_other l h = grind arith

item_reads : (l : List Symbol) (i : ItemTree) → IsItem l i → Reads item l i
item_reads l i grammar.Text = record { is = refl; inside = (refl, tt) }
item_reads l i (grammar.Value other is) =
    record { is = rw (item_other _ other, expr_read _ _ is); inside = expr_inside _ _ is }

-- EXTRN
abbrev place_of : Option Kind → Awaited
place_of None = awaited.Kind
place_of (Some k) = awaited.Name k

abbrev Externs : Type 0
Externs = List (List ℕ × Kind)

externs_read : (expected : Option Kind) (l : List Symbol) (xs : Externs) → AreExterns expected l xs
    → externs_from (place_of expected) l ≡ Some xs
externs_read expected l xs (grammar.Group {k = k} {rest = rest} is d) = rw (is, externs_read (Some k) rest _ d) refl
externs_read expected l xs (grammar.More {k = k} {rest = rest} free d) = rw (free, externs_read (Some k) rest _ d) refl
externs_read expected l xs (grammar.Last free) = rw free refl
externs_read expected l xs (grammar.Next {rest = rest} free d) = rw (free, externs_read None rest _ d) refl

-- definitions
no_overlay : (word : List ℕ) (r : Reloc) (b : Bool) → reloc_of word ≡ Some r → is_overlayable word ≡ b → b ≡ false
unfolding reloc_of
no_overlay word r true types is = absurd (cc (rw ((bytes_eq-Decides word (codes "OVERLAYABLE")).0 is) at types))
no_overlay word r false types is = refl

segment_read : (name word : List ℕ) (k : Kind) (r : Reloc) (b : Bool) (type last : List Symbol) → kind_of word ≡ Some k
    → HasType type r → HasOverlay last b → is_allowed k r b ≡ true
    → segment name (symbols.Word word ∷ type ++ last) ≡ Some (body.Segment name k r b)
segment_read name word k r b type last kinds grammar.Unit grammar.Nothing allowed = rw (kinds, allowed) refl
segment_read name word k r b type last kinds grammar.Unit grammar.Overlay allowed = rw (kinds, allowed) refl
segment_read name word k r b type last kinds (grammar.Typed {word = w} is) grammar.Nothing allowed =
    rw (no_overlay w r (is_overlayable w) is refl, kinds, is, allowed) refl
segment_read name word k r b type last kinds (grammar.Typed is) grammar.Overlay allowed =
    rw (kinds, is, allowed) refl

definition_reads : (d : DefinitionWord) (name : List ℕ) (l : List Symbol) (b : BodyTree) → IsDefinition name d l b
    → definition_form d name l ≡ Some b
definition_reads d name l b (grammar.Segment kinds types overlay allowed) =
    segment_read _ _ _ _ _ _ _ kinds types overlay allowed
definition_reads d name l b (grammar.Equ is) = rw (expr_read _ _ is)
definition_reads d name l b (grammar.Set is) = rw (expr_read _ _ is)
definition_reads d name l b (grammar.Address is) = rw (expr_read _ _ is)

-- directives
directive_reads : (d : Directive) (l : List Symbol) (b : BodyTree) → IsDirective d l b → directive_form d l ≡ Some b
directive_reads d l b (grammar.Using is) = rw (expr_read _ _ is)
directive_reads d l b (grammar.Ds is) = rw (expr_read _ _ is)
directive_reads d l b (grammar.Dbit is) = rw (expr_read _ _ is)
directive_reads d l b (grammar.Org is) = rw (expr_read _ _ is)
directive_reads d l b (grammar.Db is) = rw (list_reads _ _ item_reads _ _ is)
directive_reads d l b (grammar.Dw is) = rw (list_reads _ _ value_reads _ _ is)
directive_reads d l b grammar.Select = refl
directive_reads d l b (grammar.SelectAt is) = rw (expr_read _ _ is)
directive_reads d l b (grammar.Rseg is) = rw (name_reads _ _ is).is
directive_reads d l b (grammar.ModuleName is) = rw (name_reads _ _ is).is
directive_reads d l b (grammar.Public is) = rw (list_reads _ _ name_reads _ _ is)
directive_reads d l b (grammar.Extrn is) = rw (externs_read _ _ _ is)
directive_reads d l b grammar.End = refl

-- the statement after the label
said_reads : (labelled : Bool) (l : List Symbol) (b : BodyTree) → IsSaid labelled l b → said labelled l ≡ Some b
said_reads labelled l b grammar.Nothing = refl
said_reads labelled l b (grammar.Instruction is given form) = rw (is, operands_read _ _ given, form) refl
said_reads labelled l b (grammar.Directed found is) = rw (no_mnemonic _ _ found, found) (directive_reads _ _ _ is)
said_reads labelled l b (grammar.Defined free found is) = rw (free, found) (definition_reads _ _ _ _ is)

bare_reads : (l : List Symbol) (b : BodyTree) → IsSaid false l b
    → statement l ≡ option_map (with_label None) (said false l)
bare_reads l b h2 = grind arith

-- each statement of the grammar is what its symbols are read as
pub statement_reads : (l : List Symbol) (s : StmtTree) → IsStatement l s → statement l ≡ Some s
statement_reads l s (grammar.Labelled free is) = rw (free, said_reads true _ _ is) refl
statement_reads l s (grammar.Bare is) = rw (bare_reads _ _ is, said_reads false _ _ is) refl
