-- What the lines of a source say: values and names of 16 bits, and texts of bytes.
use Rattle.m51_build_proof.proofs
use proofs.Common.{and_then, Value, IsTree, SourceFile, Tree, Name, One, Two, AllByRecursion, list_all, slice_get}
use proofs.Common.{codes, Meanings, bytes_eq, All-from_recursion, IsByte, Each, some_each, IsItem, IsOperand, cases_lt}
use proofs.Common.{ltb-true, slice_get_past, operand_fault}
use Rattle.std.proofs.Common.{◌≡◌, ℕ, ◌<◌, Bool, ◌&&◌, cond, List, Option, Some, Ok, arith, inl, inr, nat_lt, true}
use Rattle.std.proofs.Common.{false, [], ◌∷◌, drop, None, Result, refl, subst, zero, suc, ◌≤◌, ◌++◌, length, option_map}
use Rattle.m51_cells.specs.declared.kind.Kind.{Kind}
use Rattle.m51_expr.specs.Value.{Valued, is_whole, bit_address, counted, part_value}
use Rattle.m51_stmt.specs.Statement.{BodyTree, ItemTree, StmtTree, Text, Value as ValueItem}
use Rattle.m51_text.specs.Answer.{LineTree, Lines, statements_of, text_of, with_statement}
use Rattle.std.proofs.Math.Nat.{div-le_self, mod-le}
use Rattle.std.proofs.lemmas.Nat.{and_le_l, or_of_16, xor_of_16}
use Rattle.m51_cells.specs.declared.kind.Base.{Base}
use Rattle.m51_expr.specs.declared.value.Part.{Part}
use Rattle.m51_expr.specs.declared.tree.Unary.{Unary}
use Rattle.m51_expr.specs.declared.tree.Binary.{Binary}
use Rattle.m51_expr.specs.Operators.{unary, settled, beside, arithmetic, class_of, base_of, on_base, of_numbers}
use Rattle.m51_expr.specs.Operators.{of_wholes, binary}
use Rattle.m51_expr.specs.Bits.{dotted_bit, dot}
use Rattle.m51_expr.specs.Evaluation.{is_dot, applied, value_of}
use Rattle.m51_expr.specs.declared.symbol.Symbol.{Symbol}
use Rattle.m51_stmt.specs.Control.{by_name, ends, ignored_if, include_of, parenthesized}
use Rattle.m51_stmt.specs.Lines.{any_line, statement_of}
use Rattle.m51_stmt.proofs.IfRead.{IfRead, err_is, ok_cond, ok_if, ok_is}
use Rattle.m51_stmt.proofs.LinesRead.{line_derived}
use Rattle.m51_stmt.proofs.PrintedBodies.{IsBody}
use Rattle.m51_stmt.proofs.PrintedStatements.{IsControl, IsLine}
use Rattle.m51_stmt.proofs.ReadStatements.{each_back, each_byte, each_front, written_is_good}
use Rattle.m51_stmt.proofs.ReadSymbols.{IsGood, symbols_good, tokens_good}
use Rattle.m51_text.specs.Faults.{faults_of}
use Rattle.m51_text.specs.Said.{is_character, said}
use Rattle.m51_text.specs.Text.{TextLine, text_lines}
use Rattle.m51_asm.proofs.GoodLines.{bytes_all, found_are, passes, short, IsClean, free}
use Rattle.std.proofs.lemmas.List.Quantifiers.{position-Some}
use Rattle.m51_expr.specs.Words.{bank_registers}
use Rattle.m51_predefined.specs.Predefined.{absolute_register_of}
use Rattle.m51_sfr.specs.Registers.{Row, address_in, bits, registers, table}
use Rattle.m51_asm.specs.Definitions.{Definition, EquOf, SetOf, AddressOf, label_defined, defined_by, externals_from}
use Rattle.m51_asm.specs.Definitions.{found_in, definition_from, definition_of}
use Rattle.m51_asm.specs.Assignment.{Assignment, body_at, defined_of, line_definitions, here_at, if_before, above}
use Rattle.m51_asm.specs.Assignment.{value_or_none}
use Rattle.m51_asm.specs.Fitting.{set_by, last_set, mod51, bank_by, bank_before, register_or_predefined}
use Rattle.m51_asm.specs.Fitting.{undefined_value, externals_before, with_class, value_by, named_value}
use Rattle.m51_asm.specs.ObjectSegments.{final}
use Rattle.m51_asm.proofs.KnownSegments.{later_is}
use Rattle.m51_stmt.specs.Control as control
use Rattle.m51_stmt.specs.Grammar as grammar
use Rattle.m51_stmt.specs.Statement as body

pub record IsSmall (v : Value) : Type 0 where
  pub number : v.number < 65536

-- the value of a result, or of an option, if there is one
pub record IfSmall (r : Valued Value) : Type 0 where
  pub holds : (v : Value) → r ≡ Ok v → IsSmall v

pub record IfSomeSmall (o : Option Value) : Type 0 where
  pub holds : (v : Value) → o ≡ Some v → IsSmall v

-- names and the place of a statement have such values
pub record AreSmall (names : Meanings) : Type 0 where
  pub value : (name : List ℕ) → IfSomeSmall (names.value name)
  pub here : IsSmall names.here

if_cond : (b : Bool) (r q : Valued Value) → IfSmall r → IfSmall q → IfSmall (cond b r q)
if_cond b r q h k = grind arith

if_then : (r : Valued Value) (f : Value → Valued Value) → IfSmall r → ((v : Value) → IsSmall v → IfSmall (f v))
    → IfSmall (and_then r f)
if_then r f h go = grind arith

-- parts of numbers
address_small : (byte bit n : ℕ) → bit_address byte bit ≡ Some n → n < 65536
address_small byte bit n h = grind arith

part_small : (n : ℕ) (part : Part) → n < 65536 → part_value n part < 65536
part_small n part h = grind arith

pub counted_small : (v : Value) → IsSmall v → counted v < 65536
counted_small v h = part_small v.number v.part h.number

-- operators
arithmetic_small : (op : Binary) (a b n : ℕ) → a < 65536 → b < 65536 → arithmetic op a b ≡ Ok n → n < 65536
arithmetic_small op a b n h k e = grind (arith, div-le_self, mod-le, and_le_l, or_of_16, xor_of_16)

unary_small : (names : Meanings) (op : Unary) (v : Value) → IsSmall v → IfSmall (unary names op v)
unary_small names op v h = record { holds = λ w e. record { number = grind (arith, counted_small v h) } }

settled_small : (names : Meanings) (v : Value) → IsSmall v → IsSmall (settled names v)
settled_small names v h = record { number = grind (arith, counted_small v h) }

beside_small : (names : Meanings) (other : Base) (v : Value) → IsSmall v → IsSmall (beside names other v)
beside_small names other v h = grind arith

numbers_small : (names : Meanings) (op : Binary) (x y : Value) (n : ℕ) → IsSmall x → IsSmall y
    → of_numbers names op x y ≡ Ok n → n < 65536
numbers_small names op x y n h k e =
    grind (arith, arithmetic_small op (counted x) (counted y) n (counted_small x h) (counted_small y k))

on_small : (class : Kind) (o : Option Base) (from number : Valued ℕ) → ((n : ℕ) → from ≡ Ok n → n < 65536)
    → ((n : ℕ) → number ≡ Ok n → n < 65536) → IfSmall (on_base class o from number)
on_small class o from number h k = record { holds = λ v e. record { number = grind arith } }

wholes_small : (names : Meanings) (op : Binary) (class : Kind) (x y : Value) → IsSmall x → IsSmall y
    → IfSmall (of_wholes names op class x y)
wholes_small names op class x y h k =
    on_small class (base_of op x.base y.base) _ _
    (λ n. arithmetic_small op x.number y.number n h.number k.number) (λ n. numbers_small names op x y n h k)

binary_small : (names : Meanings) (op : Binary) (x y : Value) → IsSmall x → IsSmall y → IfSmall (binary names op x y)
binary_small names op x y h k =
    let u = settled names x in
    let w = settled names y in
    if_cond (is_whole u.part && is_whole w.part) _ _
    (wholes_small names op (class_of op x.class y.class) (beside names w.base u) (beside names u.base w)
    (beside_small names w.base u (settled_small names x h)) (beside_small names u.base w (settled_small names y k)))
    (grind arith)

bit_small : (names : Meanings) (x : Value) (bit : ℕ) → IsSmall x → IfSmall (dotted_bit names x bit)
bit_small names x bit h =
    record { holds = λ v e. record { number = grind (arith, address_small (counted x) bit) } }

dot_small : (names : Meanings) (x n : Value) → IsSmall x → IfSmall (dot names x n)
dot_small names x n h = grind (arith, bit_small names x (counted n) h)

applied_small : (names : Meanings) (op : Binary) (x y : Value) → IsSmall x → IsSmall y → IfSmall (applied names op x y)
applied_small names op x y h k = if_cond (is_dot op) _ _ (dot_small names x y h) (binary_small names op x y h k)

-- the value of an expression
pub value_small : (names : Meanings) → AreSmall names → (e : Tree) → IsTree e → IfSmall (value_of names e)
unfolding value_of
value_small names are (One op e) is = if_then (value_of names e) _ (value_small names are e is) (unary_small names op)
value_small names are (Two op e f) is =
    if_then (value_of names e) _ (value_small names are e is.0)
    (λ x h. if_then (value_of names f) _ (value_small names are f is.1) (λ y. applied_small names op x y h))
value_small names are (Name name) is = grind (arith, are.value name)
value_small names are e is = grind arith

-- a text of DB is of bytes
abbrev pub IsTextItem : ItemTree → Type 0
IsTextItem (Text characters) = Each IsByte characters
IsTextItem (ValueItem e) = Unit {0}

abbrev HasTexts : BodyTree → Type 0
HasTexts (body.Db items) = Each IsTextItem items
HasTexts b = Unit {0}

-- what counts for content
abbrev pub IsSmallBody : BodyTree → Type 0
IsSmallBody (body.Code mnemonic operands) = Each IsOperand operands
IsSmallBody (body.Db items) = Each IsTextItem items
IsSmallBody (body.Dw items) = Each (IsItem false) items
IsSmallBody (body.Using e) = IsTree e
IsSmallBody (body.Equ name e) = IsTree e
IsSmallBody (body.Set name e) = IsTree e
IsSmallBody (body.Address name kind e) = IsTree e
IsSmallBody b = Unit {0}

small_body : (at : ℕ) (b : BodyTree) → IsBody at b → HasTexts b → IsSmallBody b
small_body at b is texts = grind (arith, some_each)

small_control : (b : BodyTree) → IsControl b → IsSmallBody b
small_control b is = grind arith

small_line : (label : Option (List ℕ)) (b : BodyTree) → IsLine label b → HasTexts b → IsSmallBody b
small_line label b is texts = grind (arith, small_control, small_body)

-- texts come from symbols, which are of bytes
item_texts : (l : List Symbol) (i : ItemTree) → grammar.IsItem l i → Each IsGood l → IsTextItem i
item_texts l i is h = grind arith

items_texts : (l : List Symbol) (xs : List ItemTree) → grammar.IsList grammar.IsItem l xs → Each IsGood l
    → Each IsTextItem xs
items_texts l xs (grammar.Last {a = a} is) h = (item_texts l a is h, tt)
items_texts l xs (grammar.Comma {part = part} {rest = rest} {a = a} {more = more} is others) h =
    (item_texts part a is (each_front IsGood part _ h), items_texts rest more others (each_back IsGood part _ h).1)

definition_texts : (name : List ℕ) (d : _) (l : List Symbol) (b : BodyTree) → grammar.IsDefinition name d l b
    → HasTexts b
definition_texts name d l b is = grind arith

directive_texts : (d : _) (l : List Symbol) (b : BodyTree) → grammar.IsDirective d l b → Each IsGood l → HasTexts b
directive_texts d l b (grammar.Db {items = xs} is) h = items_texts l xs is h
directive_texts d l b other h = grind arith

said_texts : (labelled : Bool) (l : List Symbol) (b : BodyTree) → grammar.IsSaid labelled l b → Each IsGood l
    → HasTexts b
said_texts labelled l b is h = grind (arith, directive_texts, definition_texts)

statement_texts : (l : List Symbol) (s : StmtTree) → grammar.IsStatement l s → Each IsGood l → HasTexts s.body
statement_texts l s (grammar.Labelled {symbols = rest} {b = b} free is) h = said_texts true rest b is h.1.1
statement_texts l s (grammar.Bare {b = b} is) h = said_texts false l b is h

-- controls give no content
abbrev IsNoContent : BodyTree → Type 0
IsNoContent (body.Db items) = ⊥
IsNoContent b = Unit {0}

no_content : (b : BodyTree) → IsNoContent b → HasTexts b
no_content b h = grind arith

included : (o : Option (List ℕ)) → IfRead (include_of o) IsNoContent
included o = grind (arith, err_is, ok_is)

ignored : (o : Option (List ℕ)) → IfRead (ignored_if o) IsNoContent
ignored o = grind (arith, err_is, ok_is)

control_word : (word rest : List ℕ) → IfRead (control.body_by_word word rest) IsNoContent
unfolding control.body_by_word
control_word word rest =
    ok_cond (bytes_eq word (codes "INCLUDE")) (λ _. included (parenthesized rest)) (λ _.
    ok_cond (bytes_eq word (codes "TITLE"))
    (grind (arith, ends, ok_is, ignored)) (grind (arith, ok_cond, bytes_eq, ok_if, ends, ok_is)))

control_name : (o : Option (List ℕ)) (rest : List ℕ) → IfRead (by_name o rest) IsNoContent
control_name o rest = grind (arith, err_is, control_word)

control_plain : (rest : List ℕ) → IfRead (control.control rest) IsNoContent
control_plain rest = grind (arith, control_name)

line_texts : (line : List ℕ) (s : StmtTree) → grammar.IsLine line s → Each IsByte line → HasTexts s.body
line_texts line s (grammar.Control {b = b} dollar read') bytes = grind (arith, no_content, control_plain (drop 1 line))
line_texts line s (grammar.Statement {tokens = tokens} no_dollar no_percent cut is) bytes =
    grind (arith, statement_texts, symbols_good, tokens_good)

-- lines
small_said : (line : List ℕ) (s : StmtTree) → said line ≡ Ok s → IsSmallBody s.body
unfolding said
small_said line s h =
    let p = passes (list_all is_character line) _ (statement_of line) s h in
    let reads : any_line line ≡ Ok s = short (nat_lt 255 _) _ (any_line line) s p.1 in
    let bytes = bytes_all line p.0 in
    small_line s.label s.body
    (written_is_good line s (record { bytes = All-from_recursion IsByte line bytes; reads = reads }))
    (line_texts line s ((line_derived line).holds s reads) (each_byte line bytes))

abbrev pub SmallTree : LineTree → Type 0
SmallTree l = IsSmallBody l.stmt.body

one_small : (line : TextLine) (r : Result StmtTree ℕ) (more : List LineTree) → said line.bytes ≡ r
    → AllByRecursion SmallTree more → AllByRecursion SmallTree (with_statement line r more)
one_small line r more e all = grind (arith, small_said)

all_small : (ls : List TextLine) → AllByRecursion SmallTree (statements_of ls)
all_small [] = tt
all_small (l ∷ ls) = one_small l (said l.bytes) (statements_of ls) refl (all_small ls)

-- the lines of a text
pub lines_small : (source : SourceFile) (includes : List SourceFile) (lines : List LineTree)
    → text_of source includes ≡ Lines lines → AllByRecursion SmallTree lines
lines_small source includes lines read =
    let ls : List TextLine = text_lines source includes in
    subst (AllByRecursion SmallTree) (found_are (faults_of includes ls) (statements_of ls) lines read) (all_small ls)

-- the expression of a definition
abbrev IsSmallDefinition : Definition → Type 0
IsSmallDefinition (EquOf e) = IsTree e
IsSmallDefinition (SetOf e) = IsTree e
IsSmallDefinition (AddressOf kind e) = IsTree e
IsSmallDefinition d = Unit {0}

abbrev some_definition : Definition → Option Definition
some_definition d = Some d

extern_found : (xs : List (List ℕ × Kind)) (n : ℕ) (name : List ℕ) (found : Definition)
    → found_in (externals_from n xs) name ≡ some_definition found → IsSmallDefinition found
extern_found [] n name found h = absurd (cc h)
extern_found (x ∷ xs) n name found h = grind (arith, extern_found xs (suc n) name found)

body_found : (b : BodyTree) (name : List ℕ) (found : Definition) → IsSmallBody b
    → found_in (defined_by b) name ≡ some_definition found → IsSmallDefinition found
body_found b name found is h = grind (arith, extern_found)

line_found : (label : Option (List ℕ)) (b : BodyTree) (name : List ℕ) (found : Definition) → IsSmallBody b
    → found_in (label_defined label ++ defined_by b) name ≡ some_definition found → IsSmallDefinition found
line_found label b name found is h = grind (arith, body_found b name found is)

from_found : (ls : List LineTree) (n : ℕ) (name : List ℕ) (line : ℕ) (found : Definition) → AllByRecursion SmallTree ls
    → definition_from n ls name ≡ Some (line, found) → IsSmallDefinition found
from_found [] n name line found all h = grind arith
from_found (l ∷ ls) n name line found all h =
    grind (arith, later_is, line_found l.stmt.label l.stmt.body, from_found ls (suc n) name line found)

small_at : (ls : List LineTree) (k : ℕ) → AllByRecursion SmallTree ls → IsSmallBody (body_at ls k)
small_at [] k all = tt
small_at (l ∷ ls) k all = grind (arith, small_at ls)

there_found : (ls : List LineTree) (k : ℕ) (name : List ℕ) (found : Definition) → AllByRecursion SmallTree ls
    → found_in (defined_of (slice_get ls k)) name ≡ some_definition found → IsSmallDefinition found
there_found ls k name found all h = grind (arith, small_at ls k all, line_found)

-- predefined names
abbrev fits : Row → Bool
fits r = nat_lt r.address 65536

rows_small : (rows : List Row) (name : List ℕ) (n : ℕ) → list_all fits rows ≡ true → address_in rows name ≡ Some n
    → n < 65536
rows_small [] name n all h = grind arith
rows_small (r ∷ rows) name n all h = grind (arith, rows_small rows name n)

registers_fit : list_all fits registers ≡ true
unfolding registers table
registers_fit = refl

bits_fit : list_all fits bits ≡ true
unfolding bits table
bits_fit = refl

module _ (lines : List LineTree) (a : Assignment) (c : IsClean lines a) (all : AllByRecursion SmallTree lines) where
  here_small : (k : ℕ) → IsSmall (here_at a k)
  here_small k = record { number = let n = a.place k in omega arith }

  tree_small : (k : ℕ) (e : Tree) → IsTree e → AreSmall (above lines a k)
      → IfSomeSmall (value_or_none (value_of (above lines a k) e))
  tree_small k e is are = grind (arith, value_small (above lines a k) are e is)

  classed : (kind : Kind) (o : Option Value) → IfSomeSmall o → IfSomeSmall (option_map (with_class kind) o)
  classed kind o h = grind arith

  bank_line : (k before : ℕ) (b : BodyTree) → before ≤ 3 → operand_fault lines (above lines a k) k b ≡ None
      → bank_by (above lines a k) before b ≤ 3
  bank_line k before b few none = grind arith

  few_banks : (k : ℕ) → bank_before lines a k ≤ 3
  unfolding bank_before
  few_banks zero = omega arith
  few_banks (suc k) = elim (cases_lt k (length lines)) [
    | inl below ↦ bank_line k (bank_before lines a k) (body_at lines k) (few_banks k)
        (free lines a k (c.placed k below)).operand
    | inr past ↦ rw (slice_get_past lines k past) (few_banks k)
  ]

  -- names above each line have such values
  AllAbove : ℕ → Type 0
  AllAbove k = (j : ℕ) → j < k → AreSmall (above lines a j)

  set_small : (k : ℕ) (name : List ℕ) (o : Option Definition) (last : Option Value)
      → found_in (line_definitions lines k) name ≡ o → AreSmall (above lines a k) → IfSomeSmall last
      → IfSomeSmall (set_by (above lines a k) last o)
  set_small k name (Some (SetOf e)) last is are h = tree_small k e (there_found lines k name (SetOf e) all is) are
  set_small k name o last is are h = h

  last_small : (name : List ℕ) (k : ℕ) → AllAbove k → IfSomeSmall (last_set lines a name k)
  unfolding last_set AllAbove
  last_small name zero above_it = grind arith
  last_small name (suc k) above_it = grind (arith, set_small k name, above_it k, last_small name k)

  defined_small : (k : ℕ) (name : List ℕ) (d : ℕ) (definition : Definition) → IsSmallDefinition definition → AllAbove k
      → AreSmall (above lines a d)
      → IfSomeSmall (value_by (here_at a d) (above lines a d) (last_set lines a name k) (externals_before lines d) d
      definition)
  defined_small k name d definition is above_it are =
      grind (arith, tree_small d, last_small name k, classed, here_small d)

  register_small : (on : Bool) (bank : ℕ) (name : List ℕ) (o : Option ℕ) → bank ≤ 3 → absolute_register_of name ≡ o
      → IfSomeSmall (register_or_predefined on bank name o)
  register_small on bank name (Some n) few is =
      grind (arith, (position-Some (λ word. bytes_eq word name) bank_registers n name is).0)
  register_small on bank name None few is = grind (arith, rows_small, registers_fit, bits_fit)

  undefined_small : (k : ℕ) (name : List ℕ) → IfSomeSmall (undefined_value lines a k name)
  unfolding undefined_value
  undefined_small k name = register_small (mod51 lines) (bank_before lines a k) name (absolute_register_of name)
      (few_banks k) refl

  definition_small : (name : List ℕ) (d : ℕ) (definition : Definition) → definition_of lines name ≡ Some (d, definition)
      → IsSmallDefinition definition
  unfolding definition_of
  definition_small name d definition is = from_found lines 0 name d definition all is

  before_by : (k : ℕ) (name : List ℕ) (d : ℕ) (definition : Definition) (b : Bool) → nat_lt d k ≡ b
      → definition_of lines name ≡ Some (d, definition) → AllAbove k
      → IfSomeSmall (cond b (named_value lines a k name (Some (d, definition))) None)
  unfolding AllAbove
  before_by k name d definition true test is above_it =
      defined_small k name d definition (definition_small name d definition is) above_it
      (above_it d (ltb-true d k test))
  before_by k name d definition false test is above_it = grind arith

  before_small : (k : ℕ) (name : List ℕ) (o : Option (ℕ × Definition)) → definition_of lines name ≡ o → AllAbove k
      → IfSomeSmall (if_before k (named_value lines a k name o) o)
  before_small k name o is above_it = grind (arith, undefined_small k name, before_by)

  above_by : (k : ℕ) → AllAbove k → AreSmall (above lines a k)
  unfolding above
  above_by k above_it = record {
    value = λ name. rw (c.fits.values k name) (before_small k name (definition_of lines name) refl above_it);
    here = here_small k;
  }

  all_above : (k : ℕ) → AllAbove k
  unfolding AllAbove
  all_above zero j less = absurd (omega (arith, less))
  all_above (suc k) j less = elim (cases_lt j k) [
    | inl below ↦ all_above k j below
    | inr not_below ↦ let e : j ≡ k = omega arith in rw e (above_by k (all_above k))
  ]

  named_small : (k : ℕ) (name : List ℕ) (o : Option (ℕ × Definition)) → definition_of lines name ≡ o
      → IfSomeSmall (named_value lines a k name o)
  named_small k name None is = undefined_small k name
  named_small k name (Some d) is =
      defined_small k name d.0 d.1 (definition_small name d.0 d.1 is) (all_above k) (above_by d.0 (all_above d.0))

  -- each name has such a value where content is made
  pub final_small : (k : ℕ) → AreSmall (final lines a k)
  unfolding final
  final_small k = record {
    value = λ name. rw (c.fits.values k name) (named_small k name (definition_of lines name) refl);
    here = here_small k;
  }

  pub body_small : (k : ℕ) → IsSmallBody (body_at lines k)
  body_small k = small_at lines k all
