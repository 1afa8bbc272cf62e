-- Operands and items, apart from the memory that holds their expressions.
use Rattle.std.specs.Prelude.{ℕ, List}
use Rattle.m51_expr.specs.Tree.{Tree, tree_of}
use Rattle.m51_expr.specs.declared.operand.Operand.{Operand}
use Rattle.m51_expr.specs.declared.operand.Operand.TheVariants as operand
use Rattle.m51_expr.specs.declared.operand.Item.{Item}
use Rattle.m51_expr.specs.declared.operand.Item.TheVariants as item

-- an operand of an instruction
pub data OperandTree : Type 0 where
  A : OperandTree
  Ab : OperandTree
  C : OperandTree
  Dptr : OperandTree
  APc : OperandTree
  ADptr : OperandTree
  AtDptr : OperandTree
  R : ℕ → OperandTree
  AtR : ℕ → OperandTree
  Imm : Tree → OperandTree
  Plain : Tree → OperandTree
  NotBit : Tree → OperandTree

-- the tree of an operand
abbrev pub operand_tree : Operand → OperandTree
operand_tree operand.A = A
operand_tree operand.Ab = Ab
operand_tree operand.C = C
operand_tree operand.Dptr = Dptr
operand_tree operand.APc = APc
operand_tree operand.ADptr = ADptr
operand_tree operand.AtDptr = AtDptr
operand_tree (operand.R n) = R n
operand_tree (operand.AtR n) = AtR n
operand_tree (operand.Imm e) = Imm (tree_of e)
operand_tree (operand.Plain e) = Plain (tree_of e)
operand_tree (operand.NotBit e) = NotBit (tree_of e)

-- an item of DB or DW
pub data ItemTree : Type 0 where
  Value : Tree → ItemTree
  Text : List ℕ → ItemTree

-- the tree of an item
abbrev pub item_tree : Item → ItemTree
item_tree (item.Value e) = Value (tree_of e)
item_tree (item.Text characters) = Text characters
