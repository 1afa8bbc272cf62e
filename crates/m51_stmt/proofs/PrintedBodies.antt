-- What a line says after its label reads back.
use Rattle.m51_stmt.proofs
use proofs.Common.{arith, ◌≡◌, ℕ, Bool, true, false, map, List, [], ◌∷◌, Option, Some, None, refl, append-nil}
use proofs.Common.{append_assoc, codes, name_of, Kind, Reloc, word_symbol, Tree, DefinitionWord, Directive, BodyTree}
use proofs.Common.{OperandTree, is_allowed, IsSaid, word_text, kind_word, reloc_word, item_text, extern_text}
use Rattle.m51_isa.specs.Mnemonics.{is_mnemonic}
use Rattle.m51_isa.proofs.FoundMnemonics.{has_mnemonic}
use Rattle.m51_expr.specs.Symbol.{operator_of, prefix_word, relation_word, arithmetic_word}
use Rattle.m51_expr.specs.Words.{is_language_word}
use Rattle.m51_stmt.specs.Kinds.{kind_of, reloc_of}
use Rattle.m51_expr.specs.Looks.{has_form}
use Rattle.m51_stmt.specs.Definitions.{definition_word}
use Rattle.m51_stmt.specs.Directives.{directive_of}
use Rattle.m51_stmt.specs.Printing.{select_word, overlayable_text, at_text, operand_text, body_text}
use proofs.LineCuts.{Word, laid, AreCut, symbol}
use proofs.WordCuts.{name_word, name_cut, cuts}
use proofs.PrintedTrees.{IsLeafName, IsTree, expr_words, expr_said, expr_cut, expr_laid, one_laid}
use proofs.ListWords.{Each, OneOrMore, some_each, list_words, list_laid, list_cut, list_said, one_part}
use proofs.PrintedParts.{name_symbol}
use proofs.PrintedOperands.{IsOperand, operand_words, operand_laid, operand_cut, operand_part, operand_said}
use proofs.PrintedLists.{name_words, names_cut, name_said, item_words, IsItem, item_laid, item_cut, item_said}
use proofs.PrintedLists.{value_said, item_part}
use proofs.PrintedExterns.{IsFree, IsExtern, kind_written, kind_symbol, extern_words, extern_laid, extern_cut}
use proofs.PrintedExterns.{externs_said}
use Rattle.m51_expr.specs.declared.symbol.Symbol.TheVariants as symbols
use Rattle.m51_stmt.specs.declared.definitions.DefinitionWord.TheVariants as definition
use Rattle.m51_stmt.specs.declared.directives.Directive.TheVariants as directive
use Rattle.m51_stmt.specs.Statement as body
use Rattle.m51_stmt.specs.Grammar as grammar

-- an instruction that can be read
pub record IsCode (mnemonic : List ℕ) (operands : List OperandTree) : Type 0 where
  pub written : name_of mnemonic ≡ Some mnemonic
  pub word : word_symbol mnemonic ≡ symbols.Word mnemonic
  pub form : has_form mnemonic operands ≡ true
  pub each : Each IsOperand operands

abbrev pub IsKind : Kind → Type 0
IsKind k = kind_of (kind_word k) ≡ Some k

pub record IsSegment (name : List ℕ) (k : Kind) (r : Reloc) (overlayable : Bool) : Type 0 where
  pub name_is : IsFree name
  pub kind_is : IsKind k
  pub reloc_is : reloc_of (reloc_word r) ≡ Some r
  pub allowed : is_allowed k r overlayable ≡ true

abbrev pub IsSelected : Kind → Type 0
IsSelected k = directive_of (select_word k) ≡ Some (directive.Select k)

abbrev pub IsAt : Option Tree → Type 0
IsAt None = Unit {0}
IsAt (Some e) = IsTree e

-- a body that can be read at an index: a definition only at the first index, and no control
abbrev pub IsBody : ℕ → BodyTree → Type 0
IsBody at body.Empty = Unit {0}
IsBody at body.Ignored = ⊥
IsBody at (body.Include name) = ⊥
IsBody at (body.Mod51 on) = ⊥
IsBody at body.End = Unit {0}
IsBody at (body.Code mnemonic operands) = IsCode mnemonic operands
IsBody at (body.Db items) = OneOrMore (IsItem true) items
IsBody at (body.Dw items) = OneOrMore (IsItem false) items
IsBody at (body.Ds e) = IsTree e
IsBody at (body.Dbit e) = IsTree e
IsBody at (body.Org e) = IsTree e
IsBody at (body.Using e) = IsTree e
IsBody at (body.Segment name k r overlayable) = (at ≡ 0) × IsSegment name k r overlayable
IsBody at (body.Rseg name) = IsLeafName name
IsBody at (body.Select k e) = IsSelected k × IsAt e
IsBody at (body.Equ name e) = (at ≡ 0) × IsFree name × IsTree e
IsBody at (body.Set name e) = (at ≡ 0) × IsFree name × IsTree e
IsBody at (body.Address name k e) = (at ≡ 0) × IsFree name × IsKind k × IsTree e
IsBody at (body.Public names) = OneOrMore IsLeafName names
IsBody at (body.Extrn externs) = OneOrMore IsExtern externs
IsBody at (body.ModuleName name) = IsLeafName name

abbrev pub overlayable_words : Bool → List Word
overlayable_words true = name_word (codes "OVERLAYABLE") ∷ []
overlayable_words false = []

abbrev pub at_words : Option Tree → List Word
at_words (Some e) = name_word (codes "AT") ∷ expr_words e []
at_words None = []

-- the words of a body
abbrev pub body_words : BodyTree → List Word
body_words body.Empty = []
body_words body.Ignored = []
body_words (body.Include name) = []
body_words (body.Mod51 on) = []
body_words body.End = name_word (codes "END") ∷ []
body_words (body.Code mnemonic operands) = name_word mnemonic ∷ list_words operand_words operands
body_words (body.Db items) = name_word (codes "DB") ∷ list_words item_words items
body_words (body.Dw items) = name_word (codes "DW") ∷ list_words item_words items
body_words (body.Ds e) = name_word (codes "DS") ∷ expr_words e []
body_words (body.Dbit e) = name_word (codes "DBIT") ∷ expr_words e []
body_words (body.Org e) = name_word (codes "ORG") ∷ expr_words e []
body_words (body.Using e) = name_word (codes "USING") ∷ expr_words e []
body_words (body.Segment name k r overlayable) = name_word name ∷ name_word (codes "SEGMENT") ∷ name_word (kind_word k)
    ∷ name_word (reloc_word r) ∷ overlayable_words overlayable
body_words (body.Rseg name) = name_word (codes "RSEG") ∷ name_word name ∷ []
body_words (body.Select k e) = name_word (select_word k) ∷ at_words e
body_words (body.Equ name e) = name_word name ∷ name_word (codes "EQU") ∷ expr_words e []
body_words (body.Set name e) = name_word name ∷ name_word (codes "SET") ∷ expr_words e []
body_words (body.Address name k e) = name_word name ∷ name_word (kind_word k) ∷ expr_words e []
body_words (body.Public names) = name_word (codes "PUBLIC") ∷ list_words name_words names
body_words (body.Extrn externs) = name_word (codes "EXTRN") ∷ list_words extern_words externs
body_words (body.ModuleName name) = name_word (codes "NAME") ∷ name_word name ∷ []

-- the text of these words
overlayable_laid : (b : Bool) → laid (overlayable_words b) ≡ overlayable_text b
overlayable_laid b = grind arith

at_laid : (e : Option Tree) → laid (at_words e) ≡ at_text e
at_laid None = refl
at_laid (Some e) = simp (expr_laid, append-nil)

pub body_laid : (at : ℕ) (b : BodyTree) → IsBody at b → laid (body_words b) ≡ body_text b
unfolding body_text
body_laid at body.Empty is = refl
body_laid at body.Ignored is = absurd is
body_laid at (body.Include name) is = absurd is
body_laid at (body.Mod51 on) is = absurd is
body_laid at body.End is = refl
body_laid at (body.Rseg name) is = refl
body_laid at (body.ModuleName name) is = refl
body_laid at b is = simp (
  expr_laid,
  overlayable_laid,
  at_laid,
  list_laid operand_words operand_text operand_laid,
  list_laid item_words item_text item_laid,
  list_laid name_words word_text (λ a rest. one_laid a (laid rest)),
  list_laid extern_words extern_text extern_laid,
  append-nil,
  append_assoc,
)

-- they are cut
pub select_written : (k : Kind) → name_of (select_word k) ≡ Some (select_word k)
select_written k = grind arith

pub reloc_written : (r : Reloc) → name_of (reloc_word r) ≡ Some (reloc_word r)
reloc_written r = grind arith

overlayable_cut : (b : Bool) → AreCut (overlayable_words b)
overlayable_cut true = (name_cut refl, tt)
overlayable_cut false = tt

at_cut : (e : Option Tree) → IsAt e → AreCut (at_words e)
at_cut None is = tt
at_cut (Some e) is = (name_cut refl, expr_cut e [] is tt)

pub body_cut : (at : ℕ) (b : BodyTree) → IsBody at b → AreCut (body_words b)
body_cut at (body.Code mnemonic operands) is =
    (name_cut is.written, list_cut IsOperand operand_words operand_cut operands is.each)
body_cut at (body.Db items) is =
    (name_cut refl, list_cut (IsItem true) item_words (item_cut true) items (some_each _ items is))
body_cut at (body.Dw items) is =
    (name_cut refl, list_cut (IsItem false) item_words (item_cut false) items (some_each _ items is))
body_cut at (body.Public names) is =
    (name_cut refl, list_cut _ name_words names_cut names (some_each _ names is))
body_cut at (body.Extrn externs) is =
    (name_cut refl, list_cut _ extern_words extern_cut externs (some_each _ externs is))
body_cut at b is =
    search (cuts, expr_cut, kind_written, reloc_written, select_written, at_cut, overlayable_cut)

-- they are of the grammar
operands_said : (os : List OperandTree) → Each IsOperand os
    → grammar.AreOperands (map symbol (list_words operand_words os)) os
operands_said [] is = grammar.Without
operands_said (a ∷ more) is =
    grammar.With (list_said _ _ operand_words operand_part operand_said (a ∷ more) is)

mnemonic_is : (m : List ℕ) (os : List OperandTree) → has_form m os ≡ true → is_mnemonic m ≡ true
mnemonic_is m os h = grind (arith, has_mnemonic)

code_said : (labelled : Bool) (m : List ℕ) (os : List OperandTree) → IsCode m os
    → IsSaid labelled (map symbol (body_words (body.Code m os))) (body.Code m os)
code_said labelled m os is =
    rw (is.written, is.word)
    (grammar.Instruction (mnemonic_is m os is.form) (operands_said os is.each) is.form)

directive_said : {labelled : Bool} (w : List ℕ) {d : Directive} (rest : List Word) {b : BodyTree}
    → directive_of w ≡ Some d → symbol (name_word w) ≡ symbols.Word w → grammar.IsDirective d (map symbol rest) b
    → IsSaid labelled (map symbol (name_word w ∷ rest)) b
directive_said w rest found word is = rw word (grammar.Directed found is)

-- a definition without a label before it
define_said : {labelled : Bool} (name w : List ℕ) {d : DefinitionWord} (rest : List Word) {b : BodyTree}
    → labelled ≡ false → IsFree name → definition_word w ≡ Some d → symbol (name_word w) ≡ symbols.Word w
    → grammar.IsDefinition name d (map symbol rest) b
    → IsSaid labelled (map symbol (name_word name ∷ name_word w ∷ rest)) b
define_said name w rest bare free found word is =
    rw (bare, name_symbol name free.leaf, word) (grammar.Defined free.free found is)

reloc_symbol : (r : Reloc) → symbol (name_word (reloc_word r)) ≡ symbols.Word (reloc_word r)
unfolding operator_of prefix_word relation_word arithmetic_word is_language_word
reloc_symbol r = grind arith

overlayable_symbol : symbol (name_word (codes "OVERLAYABLE")) ≡ symbols.Word (codes "OVERLAYABLE")
unfolding operator_of prefix_word relation_word arithmetic_word is_language_word
overlayable_symbol = refl

overlay_said : (b : Bool) → grammar.HasOverlay (map symbol (overlayable_words b)) b
overlay_said true = rw overlayable_symbol grammar.Overlay
overlay_said false = grammar.Nothing

segment_said : (name : List ℕ) (k : Kind) (r : Reloc) (b : Bool) → IsSegment name k r b
    → grammar.IsDefinition name definition.Segment
    (map symbol (name_word (kind_word k) ∷ name_word (reloc_word r) ∷ overlayable_words b)) (body.Segment name k r b)
segment_said name k r b is =
    rw (kind_symbol k, reloc_symbol r)
    (grammar.Segment {type = symbols.Word (reloc_word r) ∷ []} is.kind_is (grammar.Typed is.reloc_is) (overlay_said b)
    is.allowed)

pub select_symbol : (k : Kind) → symbol (name_word (select_word k)) ≡ symbols.Word (select_word k)
unfolding operator_of prefix_word relation_word arithmetic_word is_language_word
select_symbol k = grind arith

select_said : (k : Kind) (e : Option Tree) → IsAt e
    → grammar.IsDirective (directive.Select k) (map symbol (at_words e)) (body.Select k e)
unfolding operator_of prefix_word relation_word arithmetic_word is_language_word
select_said k None is = grammar.Select
select_said k (Some e) is = grammar.SelectAt (expr_said e is)

kind_defines : (k : Kind) → IsKind k → definition_word (kind_word k) ≡ Some (definition.Address k)
unfolding definition_word kind_of
kind_defines k is = grind arith

pub body_said : (labelled : Bool) (at : ℕ) → (at ≡ 0 → labelled ≡ false) → (b : BodyTree) → IsBody at b
    → IsSaid labelled (map symbol (body_words b)) b
unfolding directive_of definition_word operator_of prefix_word relation_word arithmetic_word is_language_word
body_said labelled at first body.Empty is = grammar.Nothing
body_said labelled at first body.Ignored is = absurd is
body_said labelled at first (body.Include name) is = absurd is
body_said labelled at first (body.Mod51 on) is = absurd is
body_said labelled at first body.End is = directive_said (codes "END") [] refl refl grammar.End
body_said labelled at first (body.Code m os) is = code_said labelled m os is
body_said labelled at first (body.Db items) is =
    directive_said (codes "DB") _ refl refl (grammar.Db (list_said _ _ item_words item_part item_said items is))
body_said labelled at first (body.Dw items) is =
    directive_said (codes "DW") _ refl refl (grammar.Dw (list_said _ _ item_words item_part value_said items is))
body_said labelled at first (body.Ds e) is =
    directive_said (codes "DS") _ refl refl (grammar.Ds (expr_said e is))
body_said labelled at first (body.Dbit e) is =
    directive_said (codes "DBIT") _ refl refl (grammar.Dbit (expr_said e is))
body_said labelled at first (body.Org e) is =
    directive_said (codes "ORG") _ refl refl (grammar.Org (expr_said e is))
body_said labelled at first (body.Using e) is =
    directive_said (codes "USING") _ refl refl (grammar.Using (expr_said e is))
body_said labelled at first (body.Segment name k r b) is =
    define_said name (codes "SEGMENT") (name_word (kind_word k) ∷ name_word (reloc_word r) ∷ overlayable_words b)
    (first is.0) is.1.name_is refl refl (segment_said name k r b is.1)
body_said labelled at first (body.Rseg name) is =
    directive_said (codes "RSEG") (name_words name []) refl refl (grammar.Rseg (name_said name is))
body_said labelled at first (body.Select k e) is =
    directive_said (select_word k) _ is.0 (select_symbol k) (select_said k e is.1)
body_said labelled at first (body.Equ name e) is =
    define_said name (codes "EQU") _ (first is.0) is.1 refl refl (grammar.Equ (expr_said e is.2))
body_said labelled at first (body.Set name e) is =
    define_said name (codes "SET") _ (first is.0) is.1 refl refl (grammar.Set (expr_said e is.2))
body_said labelled at first (body.Address name k e) is =
    define_said name (kind_word k) _ (first is.0) is.1 (kind_defines k is.2) (kind_symbol k)
    (grammar.Address (expr_said e is.3))
body_said labelled at first (body.Public names) is =
    directive_said (codes "PUBLIC") _ refl refl
    (grammar.Public (list_said _ _ name_words (λ n. one_part (name_word n)) name_said names is))
body_said labelled at first (body.Extrn externs) is =
    directive_said (codes "EXTRN") _ refl refl
    (grammar.Extrn (externs_said externs is))
body_said labelled at first (body.ModuleName name) is =
    directive_said (codes "NAME") (name_words name []) refl refl (grammar.ModuleName (name_said name is))
