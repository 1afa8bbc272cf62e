-- The text that is printed of a statement: each token with a blank after it, and each operator with its operands in
-- parentheses.
use Rattle.std.specs.Prelude.{ℕ, ◌==◌, Bool, true, false, if◌then◌else◌, List, [], ◌∷◌, ◌++◌, codes, Option, Some, None}
use Rattle.m51_cells.specs.declared.kind.Kind.{Kind}
use Rattle.m51_cells.specs.declared.kind.Kind.TheVariants as kind
use Rattle.m51_cells.specs.declared.kind.Reloc.{Reloc}
use Rattle.m51_cells.specs.declared.kind.Reloc.TheVariants as reloc
use Rattle.m51_cells.specs.Hex.{hex4}
use Rattle.m51_lex.specs.Characters.{space, quote}
use Rattle.m51_expr.specs.declared.tree.Unary.{Unary}
use Rattle.m51_expr.specs.declared.tree.Unary.TheVariants as op1
use Rattle.m51_expr.specs.declared.tree.Binary.{Binary}
use Rattle.m51_expr.specs.declared.tree.Binary.TheVariants as op2
use Rattle.m51_expr.specs.Tree as tree
use Rattle.m51_expr.specs.Tree.{Tree}
use Rattle.m51_stmt.specs.Statement as body
use Rattle.m51_stmt.specs.Statement.{BodyTree, StmtTree, OperandTree, A, Ab, C, Dptr, APc, ADptr, AtDptr, R, AtR, Imm}
use Rattle.m51_stmt.specs.Statement.{Plain, NotBit, ItemTree, Value, Text}

-- a word and a blank
abbrev pub word_text : List ℕ → List ℕ
word_text word = word ++ space ∷ []

-- a 0, four hexadecimal digits and H
abbrev pub number_text : ℕ → List ℕ
number_text n = 0x30 ∷ hex4 n ++ codes "H"

-- an operator before an operand
abbrev pub unary_word : Unary → List ℕ
unary_word op1.Plus = codes "+"
unary_word op1.Minus = codes "-"
unary_word op1.High = codes "HIGH"
unary_word op1.Low = codes "LOW"
unary_word op1.Not = codes "NOT"

-- an operator between two operands
abbrev pub binary_word : Binary → List ℕ
binary_word op2.Mul = codes "*"
binary_word op2.Div = codes "/"
binary_word op2.Rem = codes "MOD"
binary_word op2.Shl = codes "SHL"
binary_word op2.Shr = codes "SHR"
binary_word op2.Add = codes "+"
binary_word op2.Sub = codes "-"
binary_word op2.Eq = codes "EQ"
binary_word op2.Ne = codes "NE"
binary_word op2.Lt = codes "LT"
binary_word op2.Le = codes "LE"
binary_word op2.Gt = codes "GT"
binary_word op2.Ge = codes "GE"
binary_word op2.And = codes "AND"
binary_word op2.Or = codes "OR"
binary_word op2.Xor = codes "XOR"
binary_word op2.Dot = codes "."

-- an expression
abbrev pub expr_text : Tree → List ℕ
expr_text (tree.Number n) = word_text (number_text n)
expr_text (tree.Name name) = word_text name
expr_text tree.Here = word_text (codes "$")
expr_text (tree.One op e) = word_text (codes "(") ++ word_text (unary_word op) ++ expr_text e ++ word_text (codes ")")
expr_text (tree.Two op left right) =
    word_text (codes "(") ++ expr_text left ++ word_text (binary_word op) ++ expr_text right ++ word_text (codes ")")

-- the register of a number
abbrev pub register_word : ℕ → List ℕ
register_word n =
    if n == 0 then codes "R0"
    else if n == 1 then codes "R1"
    else if n == 2 then codes "R2"
    else if n == 3 then codes "R3"
    else if n == 4 then codes "R4"
    else if n == 5 then codes "R5"
    else if n == 6 then codes "R6"
    else codes "R7"

-- a sign before an expression
abbrev pub marked_text : List ℕ → Tree → List ℕ
marked_text sign e = word_text sign ++ expr_text e

-- an @ and a register
abbrev pub indirect_text : List ℕ → List ℕ
indirect_text word = word_text (codes "@") ++ word_text word

-- an @, A, + and a register
abbrev pub sum_text : List ℕ → List ℕ
sum_text word = word_text (codes "@") ++ word_text (codes "A") ++ word_text (codes "+") ++ word_text word

-- an operand
unfoldable pub operand_text : OperandTree → List ℕ
operand_text A = word_text (codes "A")
operand_text Ab = word_text (codes "AB")
operand_text C = word_text (codes "C")
operand_text Dptr = word_text (codes "DPTR")
operand_text APc = sum_text (codes "PC")
operand_text ADptr = sum_text (codes "DPTR")
operand_text AtDptr = indirect_text (codes "DPTR")
operand_text (R n) = word_text (register_word n)
operand_text (AtR n) = indirect_text (register_word n)
operand_text (Imm e) = marked_text (codes "#") e
operand_text (Plain e) = expr_text e
operand_text (NotBit e) = marked_text (codes "/") e

-- the texts of a list, with commas between them
abbrev pub separated : {A : Type 0} → (A → List ℕ) → List A → List ℕ
separated text [] = []
separated text (a ∷ []) = text a
separated text (a ∷ b ∷ more) = text a ++ word_text (codes ",") ++ separated text (b ∷ more)

-- the characters of a text, each quote doubled
abbrev pub doubled : List ℕ → List ℕ
doubled [] = []
doubled (c ∷ more) = if c == quote then quote ∷ quote ∷ doubled more else c ∷ doubled more

-- a text between its quotes
abbrev pub text_text : List ℕ → List ℕ
text_text characters = quote ∷ doubled characters ++ word_text (codes "'")

-- an item of DB or DW
abbrev pub item_text : ItemTree → List ℕ
item_text (Value e) = expr_text e
item_text (Text characters) = text_text characters

-- the word for a kind
abbrev pub kind_word : Kind → List ℕ
kind_word kind.Code = codes "CODE"
kind_word kind.Xdata = codes "XDATA"
kind_word kind.Direct = codes "DATA"
kind_word kind.Idata = codes "IDATA"
kind_word kind.Bits = codes "BIT"
kind_word kind.Number = codes "NUMBER"

-- a name of EXTRN as a group of its own
abbrev pub extern_text : List ℕ × Kind → List ℕ
extern_text e = word_text (kind_word e.1) ++ word_text (codes "(") ++ word_text e.0 ++ word_text (codes ")")

-- the word that selects a kind of segment; NUMBER is none
abbrev pub select_word : Kind → List ℕ
select_word kind.Code = codes "CSEG"
select_word kind.Xdata = codes "XSEG"
select_word kind.Direct = codes "DSEG"
select_word kind.Idata = codes "ISEG"
select_word other = codes "BSEG"

-- the word for a type; an absolute segment has none
abbrev pub reloc_word : Reloc → List ℕ
reloc_word reloc.Bitaddressable = codes "BITADDRESSABLE"
reloc_word reloc.Inpage = codes "INPAGE"
reloc_word reloc.Inblock = codes "INBLOCK"
reloc_word reloc.Page = codes "PAGE"
reloc_word other = codes "UNIT"

-- a word before an expression
abbrev pub directive_text : List ℕ → Tree → List ℕ
directive_text word e = word_text word ++ expr_text e

-- a word and a name
abbrev pub named_text : List ℕ → List ℕ → List ℕ
named_text word name = word_text word ++ word_text name

-- a name, a word and an expression
abbrev pub definition_text : List ℕ → List ℕ → Tree → List ℕ
definition_text name word e = word_text name ++ directive_text word e

-- INCLUDE and its file
abbrev pub include_text : List ℕ → List ℕ
include_text name = word_text (codes "$INCLUDE") ++ codes "(" ++ name ++ word_text (codes ")")

-- MOD51 and NOMOD51
abbrev pub mod51_text : Bool → List ℕ
mod51_text true = word_text (codes "$MOD51")
mod51_text false = word_text (codes "$NOMOD51")

-- OVERLAYABLE, if it is written
abbrev pub overlayable_text : Bool → List ℕ
overlayable_text true = word_text (codes "OVERLAYABLE")
overlayable_text false = []

-- a segment, with its type where it is UNIT too
abbrev pub segment_text : List ℕ → Kind → Reloc → Bool → List ℕ
segment_text name k r overlayable =
    word_text name ++ word_text (codes "SEGMENT") ++ word_text (kind_word k) ++ word_text
    (reloc_word r) ++ overlayable_text overlayable

-- AT and the expression, if there is one
abbrev pub at_text : Option Tree → List ℕ
at_text (Some e) = directive_text (codes "AT") e
at_text None = []

-- CSEG, DSEG, XSEG, BSEG and ISEG
abbrev pub select_text : Kind → Option Tree → List ℕ
select_text k at = word_text (select_word k) ++ at_text at

-- a word before a list
abbrev pub list_text : List ℕ → List ℕ → List ℕ
list_text word list = word_text word ++ list

-- what a line says, without its label
unfoldable pub body_text : BodyTree → List ℕ
body_text body.Empty = []
body_text body.Ignored = word_text (codes "$LIST")
body_text (body.Include name) = include_text name
body_text (body.Mod51 on) = mod51_text on
body_text body.End = word_text (codes "END")
body_text (body.Code mnemonic operands) = list_text mnemonic (separated operand_text operands)
body_text (body.Db items) = list_text (codes "DB") (separated item_text items)
body_text (body.Dw items) = list_text (codes "DW") (separated item_text items)
body_text (body.Ds e) = directive_text (codes "DS") e
body_text (body.Dbit e) = directive_text (codes "DBIT") e
body_text (body.Org e) = directive_text (codes "ORG") e
body_text (body.Using e) = directive_text (codes "USING") e
body_text (body.Segment name k r overlayable) = segment_text name k r overlayable
body_text (body.Rseg name) = named_text (codes "RSEG") name
body_text (body.Select k at) = select_text k at
body_text (body.Equ name e) = definition_text name (codes "EQU") e
body_text (body.Set name e) = definition_text name (codes "SET") e
body_text (body.Address name k e) = definition_text name (kind_word k) e
body_text (body.Public names) = list_text (codes "PUBLIC") (separated word_text names)
body_text (body.Extrn externs) = list_text (codes "EXTRN") (separated extern_text externs)
body_text (body.ModuleName name) = named_text (codes "NAME") name

-- a label and its colon
abbrev pub label_text : Option (List ℕ) → List ℕ
label_text (Some name) = word_text name ++ word_text (codes ":")
label_text None = []

-- a statement
abbrev pub stmt_text : StmtTree → List ℕ
stmt_text s = label_text s.label ++ body_text s.body
