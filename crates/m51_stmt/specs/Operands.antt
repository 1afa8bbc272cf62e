-- The operands of an instruction (the assembler's rules of operands).
use Rattle.std.specs.Prelude.{ℕ, if◌then◌else◌, List, [], ◌∷◌, map, codes, Option, Some, None, option_map}
use Rattle.std.specs.Prelude.{option_and_then}
use Rattle.std.specs.Str.{bytes_eq}
use Rattle.m51_expr.specs.declared.tree.Binary.TheVariants as binary
use Rattle.m51_expr.specs.declared.symbol.Symbol.{Symbol}
use Rattle.m51_expr.specs.declared.symbol.Symbol.TheVariants as symbol
use Rattle.m51_expr.specs.declared.operand.Operand.{Operand}
use Rattle.m51_stmt.specs.Statement.{OperandTree, A, Ab, C, Dptr, APc, ADptr, AtDptr, R, AtR, Imm, Plain, NotBit}
use Rattle.m51_stmt.specs.Statement.{operand_tree, BodyTree, Code}
use Rattle.m51_stmt.specs.Words.{register_number}
use Rattle.m51_stmt.specs.Lists.{list_of, expression}
use Rattle.m51_expr.specs.Looks.{has_form}

-- the operand that a register is by itself
unfoldable pub register : List ℕ → Option OperandTree
register word =
    if bytes_eq word (codes "A") then Some A
    else if bytes_eq word (codes "AB") then Some Ab
    else if bytes_eq word (codes "C") then Some C
    else if bytes_eq word (codes "DPTR") then Some Dptr
    else option_map R (register_number word)

-- @DPTR, @R0 and @R1, by the word after the @
unfoldable pub pointer : List ℕ → Option OperandTree
pointer word =
    if bytes_eq word (codes "DPTR") then Some AtDptr
    else if bytes_eq word (codes "R0") then Some (AtR 0)
    else if bytes_eq word (codes "R1") then Some (AtR 1)
    else None

-- @A+PC and @A+DPTR, by the word after the +
unfoldable pub sum : List ℕ → Option OperandTree
sum word =
    if bytes_eq word (codes "PC") then Some APc
    else if bytes_eq word (codes "DPTR") then Some ADptr
    else None

-- an indirect operand, from the symbols after its @
abbrev pub indirect : List Symbol → Option OperandTree
indirect (symbol.Word word ∷ []) = pointer word
indirect (symbol.Word word ∷ symbol.Plus ∷ symbol.Word last ∷ []) =
    if bytes_eq word (codes "A") then sum last else None
indirect other = None

-- a word that is an operand by itself
abbrev pub alone : List ℕ → List Symbol → Option OperandTree
alone word [] = register word
alone word more = None

-- an operand, by its first symbol
abbrev pub operand_by : Symbol → List Symbol → Option OperandTree
operand_by (symbol.Word word) rest = alone word rest
operand_by symbol.At rest = indirect rest
operand_by symbol.Hash rest = option_map Imm (expression rest)
operand_by (symbol.Infix binary.Div) rest = option_map NotBit (expression rest)
operand_by first rest = option_map Plain (expression (first ∷ rest))

-- an operand
unfoldable pub operand : List Symbol → Option OperandTree
operand [] = None
operand (first ∷ rest) = operand_by first rest

-- operands as trees
abbrev pub trees : List Operand → List OperandTree
trees operands = map operand_tree operands

-- the operands of an instruction, which may have none
abbrev pub operands : List Symbol → Option (List OperandTree)
operands [] = Some []
operands symbols = list_of operand symbols

-- an instruction of these operands, if its mnemonic may have them
abbrev pub if_form : List ℕ → List OperandTree → Option BodyTree
if_form mnemonic given = if has_form mnemonic given then Some (Code mnemonic given) else None

-- the instruction of a mnemonic
abbrev pub instruction : List ℕ → List Symbol → Option BodyTree
instruction mnemonic symbols = option_and_then (if_form mnemonic) (operands symbols)
