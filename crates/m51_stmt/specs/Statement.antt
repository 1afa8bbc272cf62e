-- Statements without where their expressions lie in memory.
use Rattle.std.specs.Prelude.{ℕ, Bool, List, Option, option_map, map}
use Rattle.m51_cells.specs.declared.kind.Kind.{Kind}
use Rattle.m51_cells.specs.declared.kind.Reloc.{Reloc}
use Rattle.m51_expr.specs.Tree.{Tree, tree_of}
pub use Rattle.m51_expr.specs.Operand.{OperandTree, A, Ab, C, Dptr, APc, ADptr, AtDptr, R, AtR, Imm, Plain, NotBit}
pub use Rattle.m51_expr.specs.Operand.{operand_tree, ItemTree, Value, Text, item_tree}
use Rattle.m51_stmt.specs.declared.statement.Body.{Body}
use Rattle.m51_stmt.specs.declared.statement.Body.TheVariants as body
use Rattle.m51_stmt.specs.declared.statement.Stmt.{Stmt}

-- what a line says, without its label
pub data BodyTree : Type 0 where
  Empty : BodyTree
  Ignored : BodyTree
  Include : List ℕ → BodyTree
  Mod51 : Bool → BodyTree
  End : BodyTree
  Code : List ℕ → List OperandTree → BodyTree
  Db : List ItemTree → BodyTree
  Dw : List ItemTree → BodyTree
  Ds : Tree → BodyTree
  Dbit : Tree → BodyTree
  Org : Tree → BodyTree
  Using : Tree → BodyTree
  Segment : List ℕ → Kind → Reloc → Bool → BodyTree
  Rseg : List ℕ → BodyTree
  Select : Kind → Option Tree → BodyTree
  Equ : List ℕ → Tree → BodyTree
  Set : List ℕ → Tree → BodyTree
  Address : List ℕ → Kind → Tree → BodyTree
  Public : List (List ℕ) → BodyTree
  Extrn : List (List ℕ × Kind) → BodyTree
  ModuleName : List ℕ → BodyTree

-- the tree of what a line says
abbrev pub body_tree : Body → BodyTree
body_tree body.Empty = Empty
body_tree body.Ignored = Ignored
body_tree (body.Include name) = Include name
body_tree (body.Mod51 on) = Mod51 on
body_tree body.End = End
body_tree (body.Code mnemonic operands) = Code mnemonic (map operand_tree operands)
body_tree (body.Db items) = Db (map item_tree items)
body_tree (body.Dw items) = Dw (map item_tree items)
body_tree (body.Ds e) = Ds (tree_of e)
body_tree (body.Dbit e) = Dbit (tree_of e)
body_tree (body.Org e) = Org (tree_of e)
body_tree (body.Using e) = Using (tree_of e)
body_tree (body.Segment name kind reloc overlayable) = Segment name kind reloc overlayable
body_tree (body.Rseg name) = Rseg name
body_tree (body.Select kind at) = Select kind (option_map tree_of at)
body_tree (body.Equ name e) = Equ name (tree_of e)
body_tree (body.Set name e) = Set name (tree_of e)
body_tree (body.Address name kind e) = Address name kind (tree_of e)
body_tree (body.Public names) = Public names
body_tree (body.Extrn externs) = Extrn externs
body_tree (body.ModuleName name) = ModuleName name

-- a line: its label and what it says
pub record StmtTree : Type 0 where
  pub label : Option (List ℕ)
  pub body : BodyTree

-- the tree of a statement
abbrev pub stmt_tree : Stmt → StmtTree
stmt_tree s = record { label = s.label; body = body_tree s.body }
