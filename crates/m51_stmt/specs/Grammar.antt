-- The grammar of lines of tokens, as productions over their symbols. How it is read, and which fault a line has that is
-- in none of them, is said in Lines.
use Rattle.std.specs.Prelude.{◌≡◌, ◌==◌, ℕ, Bool, true, false, List, [], ◌∷◌, ◌++◌, length, drop, codes, Option, Some}
use Rattle.std.specs.Prelude.{None, Ok, slice_index}
use Rattle.m51_cells.specs.declared.kind.Kind.{Kind}
use Rattle.m51_cells.specs.declared.kind.Reloc.{Reloc}
use Rattle.m51_cells.specs.declared.kind.Reloc.TheVariants as reloc
use Rattle.m51_lex.specs.declared.token.Token.{Token}
use Rattle.m51_lex.specs.Tokens.{tokens_at}
use Rattle.m51_isa.specs.Mnemonics.{is_mnemonic}
use Rattle.m51_expr.specs.declared.tree.Binary.TheVariants as binary
use Rattle.m51_expr.specs.declared.symbol.Symbol.{Symbol}
use Rattle.m51_expr.specs.declared.symbol.Symbol.TheVariants as symbol
use Rattle.m51_expr.specs.Words.{is_reserved}
use Rattle.m51_expr.specs.Tree.{Tree}
use Rattle.m51_expr.specs.Reading.{line_of_symbols}
use Rattle.m51_expr.specs.Grammar.{Writes}
use Rattle.m51_expr.specs.Looks.{has_form}
use Rattle.m51_stmt.specs.declared.definitions.DefinitionWord.{DefinitionWord}
use Rattle.m51_stmt.specs.declared.definitions.DefinitionWord.TheVariants as definition
use Rattle.m51_stmt.specs.declared.directives.Directive.{Directive}
use Rattle.m51_stmt.specs.declared.directives.Directive.TheVariants as directive
use Rattle.m51_stmt.specs.Statement as body
use Rattle.m51_stmt.specs.Statement.{BodyTree, StmtTree, OperandTree, ItemTree, Imm, NotBit, Plain}
use Rattle.m51_stmt.specs.Kinds.{kind_of, reloc_of, extern_kind_of}
use Rattle.m51_stmt.specs.Operands.{register, pointer, sum}
use Rattle.m51_stmt.specs.Definitions.{definition_word, is_allowed}
use Rattle.m51_stmt.specs.Directives.{directive_of}
use Rattle.m51_stmt.specs.Control.{control}
use Rattle.m51_stmt.specs.Lines.{with_label, symbols_of}

-- expr: the symbols are an expression, all of them (by the grammar of expressions)
pub record IsExpr (symbols : List Symbol) (e : Tree) : Type 0 where
  pub writes : Writes (line_of_symbols symbols) 0 0 e (length symbols)

-- list of parts = part | part , list
pub data IsList {A : Type 0} (IsPart : List Symbol → A → Type 0) : List Symbol → List A → Type 0 where
  Last : {part : List Symbol} {a : A} → IsPart part a → IsList IsPart part (a ∷ [])
  Comma : {part rest : List Symbol} {a : A} {more : List A}
      → IsPart part a → IsList IsPart rest more → IsList IsPart (part ++ symbol.Comma ∷ rest) (a ∷ more)

-- operand = register | @ DPTR | @ R0 | @ R1 | @ A + PC | @ A + DPTR | # expr | / expr | expr
pub data IsOperand : List Symbol → OperandTree → Type 0 where
  Register : {word : List ℕ} {o : OperandTree} → register word ≡ Some o → IsOperand (symbol.Word word ∷ []) o
  Pointer : {word : List ℕ} {o : OperandTree}
      → pointer word ≡ Some o → IsOperand (symbol.At ∷ symbol.Word word ∷ []) o
  Sum : {word : List ℕ} {o : OperandTree} → sum word ≡ Some o
      → IsOperand (symbol.At ∷ symbol.Word (codes "A") ∷ symbol.Plus ∷ symbol.Word word ∷ []) o
  Immediate : {symbols : List Symbol} {e : Tree} → IsExpr symbols e → IsOperand (symbol.Hash ∷ symbols) (Imm e)
  Inverted : {symbols : List Symbol} {e : Tree}
      → IsExpr symbols e → IsOperand (symbol.Infix binary.Div ∷ symbols) (NotBit e)
  Address : {symbols : List Symbol} {e : Tree} → IsExpr symbols e → IsOperand symbols (Plain e)

-- operands = nothing | list of operand
pub data AreOperands : List Symbol → List OperandTree → Type 0 where
  Without : AreOperands [] []
  With : {symbols : List Symbol} {os : List OperandTree} → IsList IsOperand symbols os → AreOperands symbols os

-- name, of PUBLIC, RSEG and NAME
pub data IsName : List Symbol → List ℕ → Type 0 where
  Name : {name : List ℕ} → IsName (symbol.Name name ∷ []) name

-- value = expr, an item of DW
pub data IsValue : List Symbol → ItemTree → Type 0 where
  Data : {symbols : List Symbol} {e : Tree} → IsExpr symbols e → IsValue symbols (body.Value e)

-- only a text, which is no value in DB
abbrev pub is_text_alone : List Symbol → Bool
is_text_alone (symbol.Text characters ∷ []) = true
is_text_alone symbols = false

-- item of DB = text | expr
pub data IsItem : List Symbol → ItemTree → Type 0 where
  Text : {characters : List ℕ} → IsItem (symbol.Text characters ∷ []) (body.Text characters)
  Value : {symbols : List Symbol} {e : Tree}
      → is_text_alone symbols ≡ false → IsExpr symbols e → IsItem symbols (body.Value e)

-- The symbols of EXTRN from an index on: before a group (None), or where a name of a kind is expected:
--   groups = KIND ( names
--   names  = name , names | name ) | name ) , groups
pub data AreExterns : Option Kind → List Symbol → List (List ℕ × Kind) → Type 0 where
  Group : {word : List ℕ} {k : Kind} {rest : List Symbol} {xs : List (List ℕ × Kind)} → extern_kind_of word ≡ Some k
      → AreExterns (Some k) rest xs → AreExterns None (symbol.Word word ∷ symbol.Open ∷ rest) xs
  More : {name : List ℕ} {k : Kind} {rest : List Symbol} {xs : List (List ℕ × Kind)} → is_reserved name ≡ false
      → AreExterns (Some k) rest xs
      → AreExterns (Some k) (symbol.Name name ∷ symbol.Comma ∷ rest) ((name, k) ∷ xs)
  Last : {name : List ℕ} {k : Kind} → is_reserved name ≡ false
      → AreExterns (Some k) (symbol.Name name ∷ symbol.Close ∷ []) ((name, k) ∷ [])
  Next : {name : List ℕ} {k : Kind} {rest : List Symbol} {xs : List (List ℕ × Kind)} → is_reserved name ≡ false
      → AreExterns None rest xs
      → AreExterns (Some k) (symbol.Name name ∷ symbol.Close ∷ symbol.Comma ∷ rest) ((name, k) ∷ xs)

-- [type]
pub data HasType : List Symbol → Reloc → Type 0 where
  Unit : HasType [] reloc.Unit
  Typed : {word : List ℕ} {r : Reloc} → reloc_of word ≡ Some r → HasType (symbol.Word word ∷ []) r

-- [OVERLAYABLE]
pub data HasOverlay : List Symbol → Bool → Type 0 where
  Nothing : HasOverlay [] false
  Overlay : HasOverlay (symbol.Word (codes "OVERLAYABLE") ∷ []) true

-- definition = SEGMENT kind [type] [OVERLAYABLE] | EQU expr | SET expr | kind expr, by its word and what follows it
pub data IsDefinition (name : List ℕ) : DefinitionWord → List Symbol → BodyTree → Type 0 where
  Segment : {word : List ℕ} {k : Kind} {r : Reloc} {overlay : Bool} {type last : List Symbol}
      → kind_of word ≡ Some k → HasType type r → HasOverlay last overlay → is_allowed k r overlay ≡ true
      → IsDefinition name definition.Segment (symbol.Word word ∷ type ++ last) (body.Segment name k r overlay)
  Equ : {symbols : List Symbol} {e : Tree}
      → IsExpr symbols e → IsDefinition name definition.Equ symbols (body.Equ name e)
  Set : {symbols : List Symbol} {e : Tree}
      → IsExpr symbols e → IsDefinition name definition.Set symbols (body.Set name e)
  Address : {symbols : List Symbol} {e : Tree} {k : Kind}
      → IsExpr symbols e → IsDefinition name (definition.Address k) symbols (body.Address name k e)

-- directive, by its word and what follows it
pub data IsDirective : Directive → List Symbol → BodyTree → Type 0 where
  Using : {symbols : List Symbol} {e : Tree} → IsExpr symbols e → IsDirective directive.Using symbols (body.Using e)
  Ds : {symbols : List Symbol} {e : Tree} → IsExpr symbols e → IsDirective directive.Ds symbols (body.Ds e)
  Dbit : {symbols : List Symbol} {e : Tree} → IsExpr symbols e → IsDirective directive.Dbit symbols (body.Dbit e)
  Org : {symbols : List Symbol} {e : Tree} → IsExpr symbols e → IsDirective directive.Org symbols (body.Org e)
  Db : {symbols : List Symbol} {items : List ItemTree}
      → IsList IsItem symbols items → IsDirective directive.Db symbols (body.Db items)
  Dw : {symbols : List Symbol} {items : List ItemTree}
      → IsList IsValue symbols items → IsDirective directive.Dw symbols (body.Dw items)
  Select : {k : Kind} → IsDirective (directive.Select k) [] (body.Select k None)
  SelectAt : {k : Kind} {symbols : List Symbol} {e : Tree} → IsExpr symbols e
      → IsDirective (directive.Select k) (symbol.Word (codes "AT") ∷ symbols) (body.Select k (Some e))
  Rseg : {symbols : List Symbol} {name : List ℕ}
      → IsName symbols name → IsDirective directive.Rseg symbols (body.Rseg name)
  ModuleName : {symbols : List Symbol} {name : List ℕ}
      → IsName symbols name → IsDirective directive.Name symbols (body.ModuleName name)
  Public : {symbols : List Symbol} {names : List (List ℕ)}
      → IsList IsName symbols names → IsDirective directive.Public symbols (body.Public names)
  Extrn : {symbols : List Symbol} {externs : List (List ℕ × Kind)}
      → AreExterns None symbols externs → IsDirective directive.Extrn symbols (body.Extrn externs)
  End : IsDirective directive.End [] body.End

-- the symbols of a line after its label, or of the whole line if it has none:
--   nothing | mnemonic operands | directive | name definition, without a label
pub data IsSaid : Bool → List Symbol → BodyTree → Type 0 where
  Nothing : {labelled : Bool} → IsSaid labelled [] body.Empty
  Instruction : {labelled : Bool} {word : List ℕ} {symbols : List Symbol} {os : List OperandTree}
      → is_mnemonic word ≡ true → AreOperands symbols os → has_form word os ≡ true
      → IsSaid labelled (symbol.Word word ∷ symbols) (body.Code word os)
  Directed : {labelled : Bool} {word : List ℕ} {d : Directive} {symbols : List Symbol} {b : BodyTree}
      → directive_of word ≡ Some d → IsDirective d symbols b → IsSaid labelled (symbol.Word word ∷ symbols) b
  Defined : {name word : List ℕ} {d : DefinitionWord} {symbols : List Symbol} {b : BodyTree}
      → is_reserved name ≡ false → definition_word word ≡ Some d → IsDefinition name d symbols b
      → IsSaid false (symbol.Name name ∷ symbol.Word word ∷ symbols) b

-- statement = name : said | said
pub data IsStatement : List Symbol → StmtTree → Type 0 where
  Labelled : {name : List ℕ} {symbols : List Symbol} {b : BodyTree} → is_reserved name ≡ false
      → IsSaid true symbols b
      → IsStatement (symbol.Name name ∷ symbol.Colon ∷ symbols) (with_label (Some name) b)
  Bare : {symbols : List Symbol} {b : BodyTree} → IsSaid false symbols b → IsStatement symbols (with_label None b)

-- line = $ control | tokens of a statement, where neither $ nor % comes first
pub data IsLine : List ℕ → StmtTree → Type 0 where
  Control : {line : List ℕ} {b : BodyTree} → (slice_index line 0 == slice_index (codes "$") 0) ≡ true
      → control (drop 1 line) ≡ Ok b → IsLine line (with_label None b)
  Statement : {line : List ℕ} {tokens : List Token} {s : StmtTree}
      → (slice_index line 0 == slice_index (codes "$") 0) ≡ false
      → (slice_index line 0 == slice_index (codes "%") 0) ≡ false
      → tokens_at 0 0 line ≡ Ok tokens → IsStatement (symbols_of line tokens) s → IsLine line s
