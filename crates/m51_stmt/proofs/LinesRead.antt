-- A line is read as a statement exactly if the grammar derives it.
use Rattle.m51_stmt.proofs
use proofs.Common.{arith, ◌≡◌, ℕ, ◌==◌, Bool, true, false, cond, List, [], ◌∷◌, ◌++◌, length, Option, Some, None, refl}
use proofs.Common.{ap, inl, inr, ◌≤◌, nat_lt, drop, Result, Ok, Err, slice_index, codes, option_and_then, option_map}
use proofs.Common.{same_Some, bytes_eq-Decides, common_steps, Kind, Reloc, Symbol, is_reserved, Tree, line_of_symbols}
use proofs.Common.{tokens_at, DefinitionWord, Directive, Awaited, BodyTree, StmtTree, is_comma, extern_kind_of, parts}
use proofs.Common.{list_of, name_alone, expression, value, item, operands, externs_from, is_allowed, is_overlayable}
use proofs.Common.{segment_body, segment, definition_form, directive_form, said, with_label, statement, IsExpr, IsList}
use proofs.Common.{IsOperand, AreOperands, IsName, IsValue, IsItem, is_text_alone, AreExterns, HasType, HasOverlay}
use proofs.Common.{IsDefinition, IsDirective, IsSaid, IsStatement}
use Rattle.std.specs.Prelude.{IfOk}
use Rattle.std.proofs.lemmas.Bool.{cases_Bool, eqb-true}
use Rattle.m51_isa.specs.Mnemonics.{is_mnemonic}
use Rattle.m51_expr.specs.Reading.{ParsedTree, expression_in, enough}
use Rattle.m51_expr.proofs.Sound.{sound}
use Rattle.m51_cells.specs.Outcome.{Gives}
use Rattle.m51_cells.specs.declared.limits.TheConstants.{MOST_LINE_BYTES}
use Rattle.m51_stmt.specs.Statement.{stmt_tree}
use Rattle.m51_stmt.specs.Kinds.{kind_of, reloc_of}
use Rattle.m51_stmt.specs.Lists.{each_of, all_read}
use Rattle.m51_stmt.specs.Operands.{indirect, operand_by, operand, instruction}
use Rattle.m51_stmt.specs.Externs.{next, names_added, names_at_end}
use Rattle.m51_stmt.specs.Directives.{directive_of, is_at}
use Rattle.m51_stmt.specs.Lines.{defined, symbols_of, any_line, statement_of}
use Rattle.m51_stmt.specs.Grammar.{IsLine}
use Rattle.m51_stmt.specs.declared.fault.StmtError.{StmtError}
use Rattle.m51_stmt.specs.declared.statement.Stmt.{Stmt}
use Rattle.m51_stmt.specs.Answer.{fault_of}
use Rattle.m51_stmt.specs.Control.{control}
use proofs.IfRead.{IfSome, some_is, none_is, some_then, IfRead, ok_is, err_is, ok_cond, ok_then, ok_or}
use proofs.Derives.{statement_reads}
use Rattle.m51_cells.specs.declared.kind.Reloc.TheVariants as reloc
use Rattle.m51_expr.specs.declared.tree.Binary.TheVariants as binary
use Rattle.m51_expr.specs.declared.symbol.Symbol.TheVariants as symbols
use Rattle.m51_stmt.specs.declared.definitions.DefinitionWord.TheVariants as definition
use Rattle.m51_stmt.specs.declared.directives.Directive.TheVariants as directive
use Rattle.m51_stmt.specs.declared.externs.Awaited.TheVariants as awaited
use Rattle.m51_stmt.specs.Lines as lines
use Rattle.m51_stmt.specs.Grammar as grammar

-- What is read is in the grammar.

-- a test that lets something through only where it holds, or does not
pub some_if : {A : Type 0} {x : Option A} {P : A → Type 0} (b : Bool) → (b ≡ true → IfSome x P)
    → IfSome (cond b x None) P
some_if true h = h refl
some_if false h = none_is

pub some_unless : {A : Type 0} {x : Option A} {P : A → Type 0} (b : Bool) → (b ≡ false → IfSome x P)
    → IfSome (cond b None x) P
some_unless true h = none_is
some_unless false h = h refl

-- expressions
expr_by : (l : List Symbol) (n : ℕ) (r : ParsedTree) → n ≡ length l → expression_in l ≡ r
    → IfSome (all_read n r) (IsExpr l)
expr_by l n None is read = none_is
expr_by l n (Some (e, at)) is read = some_if (at == n) (λ all.
    some_is (record {
      writes = rw (eqb-true at n all, is) at (sound (enough (length l) 0) (line_of_symbols l) 0 e at read).writes;
    }))

expr_derived : (l : List Symbol) → IfSome (expression l) (IsExpr l)
expr_derived l = expr_by l (length l) (expression_in l) refl refl

-- what a part makes
mapped : {A B : Type 0} (make : A → B) (Q : A → Type 0) (P : B → Type 0) (o : Option A) → IfSome o Q
    → ((a : A) → Q a → P (make a)) → IfSome (option_map make o) P
mapped make Q P o h is = grind arith

-- what an expression makes
made : {B : Type 0} (make : Tree → B) (P : B → Type 0) (l : List Symbol) → ((e : Tree) → IsExpr l e → P (make e))
    → IfSome (option_map make (expression l)) P
made make P l is = mapped make (IsExpr l) P (expression l) (expr_derived l) is

-- lists
abbrev joined : List Symbol → List (List Symbol) → List Symbol
joined part [] = part
joined part (other ∷ more) = part ++ symbols.Comma ∷ joined other more

abbrev joined_parts : List Symbol × List (List Symbol) → List Symbol
joined_parts p = joined p.0 p.1

front_joined : (s : Symbol) (part : List Symbol) (more : List (List Symbol))
    → joined (s ∷ part) more ≡ s ∷ joined part more
front_joined s part [] = refl
front_joined s part (other ∷ more) = refl

join_symbol : (s : Symbol) (p : List Symbol × List (List Symbol)) (b : Bool) → is_comma s ≡ b
    → joined_parts (cond b ([], p.0 ∷ p.1) (s ∷ p.0, p.1)) ≡ s ∷ joined_parts p
join_symbol s p b is = grind (arith, front_joined)

join_parts : (l : List Symbol) → joined_parts (parts l) ≡ l
join_parts [] = refl
join_parts (s ∷ l) = cc (join_symbol s (parts l) (is_comma s) refl, join_parts l)

each_derived : {A : Type 0} (item : List Symbol → Option A) (P : List Symbol → A → Type 0)
    → ((l : List Symbol) → IfSome (item l) (P l)) → (part : List Symbol) (more : List (List Symbol))
    → IfSome (each_of item (part ∷ more)) (IsList P (joined part more))
each_derived item P is part [] =
    some_then _ _ _ (λ a read. some_is (grammar.Last ((is part).holds a read)))
each_derived item P is part (other ∷ more) =
    some_then _ _ _ (λ a read.
    mapped _ _ _ _ (each_derived item P is other more) (λ xs goes. grammar.Comma ((is part).holds a read) goes))

list_derived : {A : Type 0} (item : List Symbol → Option A) (P : List Symbol → A → Type 0)
    → ((l : List Symbol) → IfSome (item l) (P l)) → (l : List Symbol) → IfSome (list_of item l) (IsList P l)
list_derived item P is l =
    record {
      holds = λ xs read. rw (join_parts l) at ((each_derived item P is (parts l).0 (parts l).1).holds xs read);
    }

-- operands
indirect_derived : (l : List Symbol) → IfSome (indirect l) (IsOperand (symbols.At ∷ l))
indirect_derived (symbols.Word word ∷ []) = record { holds = λ o is. grammar.Pointer is }
indirect_derived (symbols.Word word ∷ symbols.Plus ∷ symbols.Word last ∷ []) =
    some_if _ (λ is. record { holds = λ o read. rw ((bytes_eq-Decides word (codes "A")).0 is) (grammar.Sum read) })
indirect_derived l = none_is

by_derived : (s : Symbol) (rest : List Symbol) → IfSome (operand_by s rest) (IsOperand (s ∷ rest))
by_derived (symbols.Word word) [] = record { holds = λ o is. grammar.Register is }
by_derived (symbols.Word word) (s ∷ rest) = none_is
by_derived symbols.At rest = indirect_derived rest
by_derived symbols.Hash rest = made _ _ _ (λ e is. grammar.Immediate is)
by_derived (symbols.Infix binary.Div) rest = made _ _ _ (λ e is. grammar.Inverted is)
by_derived s rest = made _ _ _ (λ e is. grammar.Address is)

operand_derived : (l : List Symbol) → IfSome (operand l) (IsOperand l)
unfolding operand
operand_derived [] = none_is
operand_derived (s ∷ rest) = by_derived s rest

operands_derived : (l : List Symbol) → IfSome (operands l) (AreOperands l)
operands_derived [] = some_is grammar.Without
operands_derived (s ∷ rest) =
    record { holds = λ os read. grammar.With ((list_derived _ _ operand_derived _).holds os read) }

-- names and items
name_derived : (l : List Symbol) → IfSome (name_alone l) (IsName l)
name_derived (symbols.Name name ∷ []) = some_is grammar.Name
name_derived l = none_is

value_derived : (l : List Symbol) → IfSome (value l) (IsValue l)
value_derived l = made _ _ _ (λ e is. grammar.Data is)

item_by : (l : List Symbol) → is_text_alone l ≡ false → IfSome (value l) (IsItem l)
item_by l other = made _ _ _ (λ e is. grammar.Value other is)

item_derived : (l : List Symbol) → IfSome (item l) (IsItem l)
item_derived (symbols.Text cs ∷ []) = some_is grammar.Text
item_derived (symbols.Text cs ∷ s ∷ rest) = item_by (symbols.Text cs ∷ s ∷ rest) refl
item_derived l = item_by l refl

-- EXTRN: the derivation of the symbols from an index on, by what is awaited there
abbrev Rest : Awaited → List Symbol → List (List ℕ × Kind) → Type 0
Rest awaited.Kind l xs = AreExterns None l xs
Rest (awaited.Open k) l xs = (word : List ℕ) → extern_kind_of word ≡ Some k → AreExterns None (symbols.Word word ∷ l) xs
Rest (awaited.Name k) l xs = AreExterns (Some k) l xs
Rest (awaited.Sign k) l xs = (name : List ℕ) → is_reserved name ≡ false
    → AreExterns (Some k) (symbols.Name name ∷ l) ((name, k) ∷ xs)
Rest awaited.End l xs = (k : Kind) (name : List ℕ) → is_reserved name ≡ false
    → AreExterns (Some k) (symbols.Name name ∷ symbols.Close ∷ l) ((name, k) ∷ xs)

abbrev Later : List (List ℕ × Kind) → Awaited → Option Awaited → Symbol → List Symbol → Type 0
Later new here o s rest =
    IfSome (option_and_then (λ later. option_map (λ more. new ++ more) (externs_from later rest)) o)
    (Rest here (s ∷ rest))

abbrev Derives : List Symbol → Type 0
Derives rest = (later : Awaited) → IfSome (externs_from later rest) (Rest later rest)

opens : (word : List ℕ) (o : Option Kind) (rest : List Symbol) → extern_kind_of word ≡ o → Derives rest
    → Later [] awaited.Kind (option_map awaited.Open o) (symbols.Word word) rest
opens word o rest is h = grind arith

adds : (name : List ℕ) (k : Kind) (b : Bool) (rest : List Symbol) → is_reserved name ≡ b → Derives rest
    → Later ((name, k) ∷ []) (awaited.Name k) (cond b None (Some (awaited.Sign k))) (symbols.Name name) rest
adds name k b rest is h = grind arith

next_derived : (here : Awaited) (s : Symbol) (rest : List Symbol) → Derives rest
    → Later (names_added here s) here (next here s) s rest
next_derived awaited.Kind (symbols.Word word) rest h = opens word (extern_kind_of word) rest refl h
next_derived (awaited.Open k) symbols.Open rest h = mapped _ _ _ _ (h _) (λ xs d word is. grammar.Group is d)
next_derived (awaited.Name k) (symbols.Name name) rest h = adds name k (is_reserved name) rest refl h
next_derived (awaited.Sign k) symbols.Comma rest h = mapped _ _ _ _ (h _) (λ xs d name free. grammar.More free d)
next_derived (awaited.Sign k) symbols.Close rest h = grind arith
next_derived awaited.End symbols.Comma rest h = mapped _ _ _ _ (h _) (λ xs d k name free. grammar.Next free d)
next_derived here s rest h = none_is

ended_derived : (here : Awaited) → IfSome (names_at_end here) (Rest here [])
ended_derived awaited.End = some_is (λ k name free. grammar.Last free)
ended_derived here = none_is

externs_derived : (l : List Symbol) (here : Awaited) → IfSome (externs_from here l) (Rest here l)
externs_derived [] here = ended_derived here
externs_derived (s ∷ rest) here = next_derived here s rest (λ later. externs_derived rest later)

-- definitions
segment_by : (name word : List ℕ) (type last : List Symbol) (k : Option Kind) (r : Option Reloc) (b : Bool)
    → kind_of word ≡ k → ((x : Reloc) → r ≡ Some x → HasType type x) → HasOverlay last b
    → IfSome (segment_body name k r b) (IsDefinition name definition.Segment (symbols.Word word ∷ type ++ last))
segment_by name word type last None r b kinds types over = none_is
segment_by name word type last (Some k) None b kinds types over = none_is
segment_by name word type last (Some k) (Some r) b kinds types over =
    some_if (is_allowed k r b) (λ allowed. some_is (grammar.Segment kinds (types r refl) over allowed))

unit_type : (x : Reloc) → Some reloc.Unit ≡ Some x → HasType [] x
unit_type x is = rw (same_Some reloc.Unit x is) at grammar.Unit

overlaid : (word : List ℕ) → is_overlayable word ≡ true → HasOverlay (symbols.Word word ∷ []) true
overlaid word is = rw ((bytes_eq-Decides word (codes "OVERLAYABLE")).0 is) grammar.Overlay

segment_derived : (name : List ℕ) (l : List Symbol) → IfSome (segment name l) (IsDefinition name definition.Segment l)
segment_derived name (symbols.Word word ∷ []) =
    segment_by name word [] [] (kind_of word) (Some reloc.Unit) false refl unit_type grammar.Nothing
segment_derived name (symbols.Word word ∷ symbols.Word last ∷ []) = elim (cases_Bool (is_overlayable last)) [
  | inl is ↦ rw is
      (segment_by name word [] (symbols.Word last ∷ []) (kind_of word) (Some reloc.Unit) true refl unit_type
      (overlaid last is))
  | inr is ↦ rw is
      (segment_by name word (symbols.Word last ∷ []) [] (kind_of word) (reloc_of last) false refl
      (λ x is. grammar.Typed is) grammar.Nothing)
]
segment_derived name (symbols.Word word ∷ symbols.Word type ∷ symbols.Word last ∷ []) = some_if _ (λ is.
    segment_by name word (symbols.Word type ∷ []) (symbols.Word last ∷ []) (kind_of word) (reloc_of type) true refl
    (λ x is. grammar.Typed is) (overlaid last is))
segment_derived name l = none_is

definition_derived : (d : DefinitionWord) (name : List ℕ) (l : List Symbol)
    → IfSome (definition_form d name l) (IsDefinition name d l)
definition_derived definition.Segment name l = segment_derived name l
definition_derived definition.Equ name l = made _ _ _ (λ e is. grammar.Equ is)
definition_derived definition.Set name l = made _ _ _ (λ e is. grammar.Set is)
definition_derived (definition.Address k) name l = made _ _ _ (λ e is. grammar.Address is)

-- directives
is_at_word : (s : Symbol) → is_at s ≡ true → s ≡ symbols.Word (codes "AT")
is_at_word (symbols.Word w) h = ap symbols.Word ((bytes_eq-Decides w (codes "AT")).0 h)
is_at_word s h = absurd (cc h)

directive_derived : (d : Directive) (l : List Symbol) → IfSome (directive_form d l) (IsDirective d l)
directive_derived directive.Using l = made _ _ _ (λ e is. grammar.Using is)
directive_derived directive.Ds l = made _ _ _ (λ e is. grammar.Ds is)
directive_derived directive.Dbit l = made _ _ _ (λ e is. grammar.Dbit is)
directive_derived directive.Org l = made _ _ _ (λ e is. grammar.Org is)
directive_derived directive.Db l = mapped _ _ _ _ (list_derived _ _ item_derived l) (λ xs is. grammar.Db is)
directive_derived directive.Dw l = mapped _ _ _ _ (list_derived _ _ value_derived l) (λ xs is. grammar.Dw is)
directive_derived (directive.Select k) [] = some_is grammar.Select
directive_derived (directive.Select k) (s ∷ rest) = some_if (is_at s) (λ is.
    made _ _ _ (λ e given. rw (is_at_word s is) (grammar.SelectAt given)))
directive_derived directive.Rseg l = mapped _ _ _ _ (name_derived l) (λ name is. grammar.Rseg is)
directive_derived directive.Name l = mapped _ _ _ _ (name_derived l) (λ name is. grammar.ModuleName is)
directive_derived directive.Public l = mapped _ _ _ _ (list_derived _ _ name_derived l) (λ xs is. grammar.Public is)
directive_derived directive.Extrn l = mapped _ _ _ _ (externs_derived l awaited.Kind) (λ xs is. grammar.Extrn is)
directive_derived directive.End [] = some_is grammar.End
directive_derived directive.End (s ∷ rest) = none_is

-- the statement after the label
spoken_by : (labelled : Bool) (word : List ℕ) (l : List Symbol) (b : Bool) → is_mnemonic word ≡ b
    → IfSome (cond b (instruction word l) (option_and_then (λ d. directive_form d l) (directive_of word)))
    (IsSaid labelled (symbols.Word word ∷ l))
spoken_by labelled word l true is =
    some_then _ _ _ (λ os read.
    some_if _ (λ form. some_is (grammar.Instruction is ((operands_derived l).holds os read) form)))
spoken_by labelled word l false is =
    some_then _ _ _ (λ d found.
    record { holds = λ b read. grammar.Directed found ((directive_derived d l).holds b read) })

defined_derived : (labelled : Bool) (name : List ℕ) (l : List Symbol)
    → IfSome (defined labelled name l) (IsSaid labelled (symbols.Name name ∷ l))
defined_derived true name (symbols.Word word ∷ rest) = none_is
defined_derived false name (symbols.Word word ∷ rest) = some_unless _ (λ free.
    some_then _ _ _ (λ d found.
    record { holds = λ b read. grammar.Defined free found ((definition_derived d name rest).holds b read) }))
defined_derived labelled name l = none_is

said_derived : (labelled : Bool) (l : List Symbol) → IfSome (said labelled l) (IsSaid labelled l)
said_derived labelled [] = some_is grammar.Nothing
said_derived labelled (symbols.Name name ∷ rest) = defined_derived labelled name rest
said_derived labelled (symbols.Word word ∷ rest) = spoken_by labelled word rest (is_mnemonic word) refl
said_derived labelled (s ∷ rest) = none_is

bare_derived : (l : List Symbol) (o : Option BodyTree) → IfSome o (IsSaid false l)
    → IfSome (option_map (with_label None) o) (IsStatement l)
bare_derived l o h = mapped _ _ _ _ h (λ b is. grammar.Bare is)

named_derived : (name : List ℕ) (l : List Symbol)
    → IfSome (lines.named_line name l) (IsStatement (symbols.Name name ∷ l))
named_derived name (symbols.Colon ∷ rest) =
    some_unless _ (λ free. mapped _ _ _ _ (said_derived true rest) (λ b is. grammar.Labelled free is))
named_derived name l = bare_derived _ _ (defined_derived false name l)

-- each statement that symbols are read as is in the grammar
pub statement_derived : (l : List Symbol) → IfSome (statement l) (IsStatement l)
statement_derived (symbols.Name name ∷ rest) = named_derived name rest
statement_derived l = bare_derived _ _ (said_derived false l)

-- A line is read as a statement exactly if the grammar derives it.

pub line_derived : (line : List ℕ) → IfRead (any_line line) (IsLine line)
unfolding any_line
line_derived line =
    ok_cond (slice_index line 0 == slice_index (codes "$") 0)
    (λ dollar. ok_then _ _ (control (drop 1 line)) (λ b read. ok_is (grammar.Control dollar read))) (λ no_dollar.
    ok_cond (slice_index line 0 == slice_index (codes "%") 0) (λ _. err_is) (λ no_percent.
    ok_then _ _ (tokens_at 0 0 line) (λ tokens cut.
    ok_or _ _ (statement (symbols_of line tokens))
    (record {
      holds = λ s read. grammar.Statement no_dollar no_percent cut
          ((statement_derived (symbols_of line tokens)).holds s read);
    }))))

line_reads : (line : List ℕ) (s : StmtTree) → IsLine line s → any_line line ≡ Ok s
unfolding any_line
line_reads line s (grammar.Control dollar read') = rw (dollar, read') refl
line_reads line s (grammar.Statement no_dollar no_percent cut is) =
    rw (no_dollar, no_percent, cut, statement_reads _ _ is) refl

-- what a reader of lines returns is in the grammar
pub line_sound : (r : Result Stmt StmtError) (line : List ℕ) → Gives stmt_tree fault_of r (statement_of line)
    → IfOk r (λ s. IsLine line (stmt_tree s))
line_sound (Ok s) line h =
    (line_derived line).holds (stmt_tree s) (grind (arith, h))
line_sound (Err e) line h = tt

long_enough : (n : ℕ) → n ≤ MOST_LINE_BYTES → nat_lt MOST_LINE_BYTES n ≡ false
long_enough n h = grind (arith, common_steps)

-- what is in the grammar is returned, if the line has at most 255 bytes
pub complete : (r : Result Stmt StmtError) (line : List ℕ) (s : StmtTree) → length line ≤ MOST_LINE_BYTES
    → IsLine line s → Gives stmt_tree fault_of r (statement_of line) → Gives stmt_tree fault_of r (Ok s)
complete r line s few is h =
    rw (long_enough (length line) few, line_reads line s is) at h
