-- What a line of bytes can say: the statements that can be read.
use Rattle.m51_stmt.proofs
use proofs.Common.{◌≡◌, ℕ, ◌<◌, ◌≤◌, ◌==◌, ◌++◌, Bool, true, false, cond, nat_lt, List, [], ◌∷◌, length, take, drop}
use proofs.Common.{Option, Some, None, refl, arith, inl, inr, codes, option_and_then, bytes_eq, list_all, prefix_len}
use proofs.Common.{common_steps, Kind, Reloc, Symbol, Tree, DefinitionWord, Directive, BodyTree, OperandTree, ItemTree}
use proofs.Common.{StmtTree, is_inside, closed_at, reloc_word, stmt_text, IsByte}
use Rattle.std.specs.List.{AllByRecursion}
use Rattle.std.proofs.lemmas.List.Elements.{recursion_from_All}
use Rattle.m51_cells.proofs.Small.{positive}
use Rattle.m51_cells.proofs.Passing.{front_passes}
use Rattle.m51_stmt.specs.Words.{register_number}
use Rattle.m51_stmt.specs.Kinds.{kind_of, reloc_of}
use Rattle.m51_stmt.specs.Operands.{register, pointer, sum}
use Rattle.m51_stmt.specs.Definitions.{definition_word}
use Rattle.m51_stmt.specs.Directives.{select_of, directive_of}
use Rattle.m51_stmt.specs.Control.{left_parenthesis, right_parenthesis, ends, behind_sign, if_ended, parenthesized}
use Rattle.m51_stmt.specs.Control.{include, include_of, ignored_if, by_name}
use Rattle.m51_stmt.specs.Laws.{WritesStatement, PrintedReadsBack}
use proofs.PrintedTrees.{IsLeafName, IsTree}
use proofs.ListWords.{Each, OneOrMore, some_each}
use proofs.PrintedOperands.{IsOperand}
use proofs.PrintedLists.{IsItem}
use proofs.PrintedExterns.{IsFree, IsExtern}
use proofs.PrintedBodies.{IsKind, IsSelected, IsBody}
use proofs.PrintedStatements.{IsControl, IsStatement, printed}
use proofs.IfRead.{IfSome, some_is, none_is, some_cond, some_map, some_then, IfRead, ok_is, err_is, ok_cond, ok_if}
use proofs.ReadSymbols.{IsGood, symbols_good, tree_good, tokens_good}
use proofs.LinesRead.{line_derived}
use Rattle.m51_stmt.specs.declared.definitions.DefinitionWord.TheVariants as definition
use Rattle.m51_stmt.specs.declared.directives.Directive.TheVariants as directive
use Rattle.m51_stmt.specs.Control as control
use Rattle.m51_stmt.specs.Grammar as grammar

-- the words for registers
register_good : (word : List ℕ) → IfSome (register word) IsOperand
unfolding register register_number
register_good word = record { holds = λ o is. grind arith }

-- the words for kinds and types
kind_good : (word : List ℕ) → IfSome (kind_of word) IsKind
unfolding kind_of
kind_good word = record { holds = λ k is. grind arith }

abbrev IsReloc : Reloc → Type 0
IsReloc r = reloc_of (reloc_word r) ≡ Some r

reloc_good : (word : List ℕ) → IfSome (reloc_of word) IsReloc
unfolding reloc_of
reloc_good word = record { holds = λ r is. grind arith }

abbrev IsDefinition : DefinitionWord → Type 0
IsDefinition (definition.Address k) = IsKind k
IsDefinition d = Unit {0}

definition_good : (word : List ℕ) → IfSome (definition_word word) IsDefinition
unfolding definition_word
definition_good word =
    some_cond (bytes_eq word (codes "SEGMENT")) (some_is tt) (
    some_cond (bytes_eq word (codes "EQU")) (some_is tt) (
    some_cond (bytes_eq word (codes "SET")) (some_is tt) (
    some_map definition.Address IsDefinition (kind_of word) (kind_good word))))

abbrev IsDirective : Directive → Type 0
IsDirective (directive.Select k) = IsSelected k
IsDirective d = Unit {0}

select_good : (word : List ℕ) → IfSome (select_of word) IsDirective
unfolding directive_of select_of
select_good word = record { holds = λ d is. grind arith }

directive_good : (word : List ℕ) → IfSome (directive_of word) IsDirective
unfolding directive_of
directive_good word = record { holds = λ d is. grind (arith, (select_good word).holds d) }

-- the symbols of a part are good where those of the whole are
pub each_front : {A : Type 0} (P : A → Type 0) (xs ys : List A) → Each P (xs ++ ys) → Each P xs
each_front P [] ys h = tt
each_front P (x ∷ xs) ys h = (h.0, each_front P xs ys h.1)

pub each_back : {A : Type 0} (P : A → Type 0) (xs ys : List A) → Each P (xs ++ ys) → Each P ys
each_back P [] ys h = h
each_back P (x ∷ xs) ys h = each_back P xs ys h.1

expr_good : (l : List Symbol) (e : Tree) → grammar.IsExpr l e → Each IsGood l → IsTree e
expr_good l e is h = tree_good l h is.writes

operand_good : (l : List Symbol) (o : OperandTree) → grammar.IsOperand l o → Each IsGood l → IsOperand o
unfolding pointer sum
operand_good l o is h = grind (arith, expr_good, register_good)

-- lists
list_good : {A : Type 0} (P : List Symbol → A → Type 0) (Q : A → Type 0)
    → ((l : List Symbol) (a : A) → P l a → Each IsGood l → Q a) → (l : List Symbol) (xs : List A)
    → grammar.IsList P l xs → Each IsGood l → OneOrMore Q xs
list_good P Q good l xs (grammar.Last {a = a} is) h = (good l a is h, tt)
list_good P Q good l xs (grammar.Comma {part = part} {rest = rest} {a = a} {more = more} is others) h = (
  good part a is (each_front IsGood part _ h),
  some_each _ _ (list_good P Q good rest more others (each_back IsGood part _ h).1),
)

operands_good : (l : List Symbol) (os : List OperandTree) → grammar.AreOperands l os → Each IsGood l → Each IsOperand os
operands_good l os grammar.Without h = tt
operands_good l os (grammar.With is) h =
    some_each _ _ (list_good _ _ operand_good _ _ is h)

name_good : (l : List Symbol) (name : List ℕ) → grammar.IsName l name → Each IsGood l → IsLeafName name
name_good l name grammar.Name h = h.0

value_good : (l : List Symbol) (i : ItemTree) → grammar.IsValue l i → Each IsGood l → IsItem false i
value_good l i (grammar.Data is) h = expr_good _ _ is h

item_good : (l : List Symbol) (i : ItemTree) → grammar.IsItem l i → Each IsGood l → IsItem true i
item_good l i h2 h = grind (arith, expr_good)

externs_good : (expected : Option Kind) (l : List Symbol) (xs : List (List ℕ × Kind)) → grammar.AreExterns expected l xs
    → Each IsGood l → OneOrMore IsExtern xs
externs_good expected l xs (grammar.Group is d) h = externs_good _ _ _ d h.1.1
externs_good expected l xs (grammar.More free d) h =
    (record { leaf = h.0; free = free }, some_each _ _ (externs_good _ _ _ d h.1.1))
externs_good expected l xs (grammar.Last free) h = (record { leaf = h.0; free = free }, tt)
externs_good expected l xs (grammar.Next free d) h =
    (record { leaf = h.0; free = free }, some_each _ _ (externs_good _ _ _ d h.1.1.1))

-- definitions
type_good : (l : List Symbol) (r : Reloc) → grammar.HasType l r → IsReloc r
unfolding reloc_of
type_good l r grammar.Unit = refl
type_good l r (grammar.Typed {word = word} is) = (reloc_good word).holds r is

definition_body : (index : ℕ) (d : DefinitionWord) (name : List ℕ) (l : List Symbol) (b : BodyTree) → index ≡ 0
    → IsDefinition d → IsFree name → grammar.IsDefinition name d l b → Each IsGood l → IsBody index b
definition_body index d name l b first good free
    (grammar.Segment {word = word} {k = k} kinds types overlaid allowed) h = (
      first,
      record {
        name_is = free;
        kind_is = (kind_good word).holds k kinds;
        reloc_is = type_good _ _ types;
        allowed = allowed;
      },
    )
definition_body index d name l b first good free (grammar.Equ is) h = (first, free, expr_good _ _ is h)
definition_body index d name l b first good free (grammar.Set is) h = (first, free, expr_good _ _ is h)
definition_body index d name l b first good free (grammar.Address is) h =
    (first, free, good, expr_good _ _ is h)

-- directives
directive_body : (index : ℕ) (d : Directive) (l : List Symbol) (b : BodyTree) → IsDirective d
    → grammar.IsDirective d l b → Each IsGood l → IsBody index b
directive_body index d l b good (grammar.Using is) h = expr_good _ _ is h
directive_body index d l b good (grammar.Ds is) h = expr_good _ _ is h
directive_body index d l b good (grammar.Dbit is) h = expr_good _ _ is h
directive_body index d l b good (grammar.Org is) h = expr_good _ _ is h
directive_body index d l b good (grammar.Db is) h =
    list_good _ _ item_good _ _ is h
directive_body index d l b good (grammar.Dw is) h =
    list_good _ _ value_good _ _ is h
directive_body index d l b good grammar.Select h = (good, tt)
directive_body index d l b good (grammar.SelectAt is) h = (good, expr_good _ _ is h.1)
directive_body index d l b good (grammar.Rseg is) h = name_good _ _ is h
directive_body index d l b good (grammar.ModuleName is) h = name_good _ _ is h
directive_body index d l b good (grammar.Public is) h =
    list_good _ _ name_good _ _ is h
directive_body index d l b good (grammar.Extrn is) h = externs_good _ _ _ is h
directive_body index d l b good grammar.End h = tt

-- the statement after the label; a definition is the first in its line
said_good : (index : ℕ) (labelled : Bool) (l : List Symbol) (b : BodyTree) → (labelled ≡ false → index ≡ 0)
    → grammar.IsSaid labelled l b → Each IsGood l → IsBody index b
said_good index labelled l b first grammar.Nothing h = tt
said_good index labelled l b first (grammar.Instruction is given form) h = grind (arith, operands_good)
said_good index labelled l b first (grammar.Directed {word = word} {d = d} found is) h =
    directive_body index _ _ _ ((directive_good word).holds d found) is h.1
said_good index labelled l b first (grammar.Defined {word = word} {d = d} free found is)
    h =
    definition_body index _ _ _ _ (first refl) ((definition_good word).holds d found)
    (record { leaf = h.0; free = free }) is h.1.1

statement_good : (l : List Symbol) (s : StmtTree) → grammar.IsStatement l s → Each IsGood l → IsStatement s
statement_good l s (grammar.Labelled free is) h =
    (record { leaf = h.0; free = free }, said_good 2 true _ _ (λ other. absurd (cc other)) is h.1.1)
statement_good l s (grammar.Bare is) h = inr (said_good 0 false _ _ (λ _. refl) is h)

-- controls
abbrev IsIncluded : List ℕ → Type 0
IsIncluded name = (0 < length name) × (list_all is_inside name ≡ true)

if_ended_good : (inner rest : List ℕ) → IsIncluded inner → IfSome (if_ended inner rest) IsIncluded
if_ended_good inner rest is = some_cond (ends rest) (some_is is) none_is

closed_by : (inner : List ℕ) (len : ℕ) (b : Bool) → (len == 0) ≡ b → len ≡ prefix_len is_inside inner
    → IfSome (cond b None
    (option_and_then (if_ended (take len inner)) (behind_sign right_parenthesis (drop len inner))))
    IsIncluded
closed_by inner len b is same =
    grind (arith, none_is, front_passes, some_then, if_ended, behind_sign, if_ended_good, take, positive)

closed_good : (inner : List ℕ) → IfSome (closed_at inner (prefix_len is_inside inner)) IsIncluded
closed_good inner = grind (arith, closed_by)

include_by : (o : Option (List ℕ)) → IfSome o IsIncluded → IfRead (include_of o) IsControl
include_by o h = grind (arith, ok_is)

include_good : (rest : List ℕ) → IfRead (include rest) IsControl
include_good rest = include_by (parenthesized rest)
    (some_then _ IsIncluded (behind_sign left_parenthesis (control.behind_blanks rest)) (λ inner is. closed_good inner))

ignored_good : (o : Option (List ℕ)) → IfRead (ignored_if o) IsControl
ignored_good None = err_is
ignored_good (Some text) = ok_is tt

control_word : (word rest : List ℕ) → IfRead (control.body_by_word word rest) IsControl
unfolding control.body_by_word
control_word word rest =
    ok_cond (bytes_eq word (codes "INCLUDE")) (λ _. include_good rest) (λ _.
    ok_cond (bytes_eq word (codes "TITLE"))
    (grind (arith, ends, ok_is, ignored_good)) (grind (arith, ok_cond, bytes_eq, ok_if, ends, ok_is)))

control_name : (o : Option (List ℕ)) (rest : List ℕ) → IfRead (by_name o rest) IsControl
control_name o rest = grind (arith, err_is, control_word)

control_good : (rest : List ℕ) → IfRead (control.control rest) IsControl
control_good rest = grind (arith, control_name)

-- each statement that a line of bytes writes can be read
line_good : (line : List ℕ) (s : StmtTree) → grammar.IsLine line s → Each IsByte line → IsStatement s
line_good line s (grammar.Control {b = b} dollar read') bytes = inl ((control_good (drop 1 line)).holds b read')
line_good line s (grammar.Statement {tokens = tokens} no_dollar no_percent cut is) bytes =
    statement_good _ _ is
    (symbols_good line tokens bytes ((tokens_good line 0 0).holds tokens cut))

pub each_byte : (xs : List ℕ) → AllByRecursion IsByte xs → Each IsByte xs
each_byte xs h = grind arith

-- 255 bytes are not too many
pub at_most_255 : (n : ℕ) → n ≤ 255 → nat_lt 255 n ≡ false
at_most_255 n h = grind (arith, common_steps)

-- a statement that a line of bytes writes can be read
pub written_is_good : (line : List ℕ) (s : StmtTree) → WritesStatement line s → IsStatement s
written_is_good line s writes =
    line_good line s ((line_derived line).holds s writes.reads)
    (each_byte line (recursion_from_All IsByte line writes.bytes))

pub printed_reads_back : PrintedReadsBack
printed_reads_back line s writes =
    let again = printed s (written_is_good line s writes) in
    record {
      printed = again;
      short = λ few. rw (at_most_255 (length (stmt_text s)) few) again;
    }
