-- That each instruction that a line writes has a row, whatever form a generic jump takes.
use Rattle.std.specs.Prelude.{ℕ, List}
use Rattle.m51_isa.specs.declared.generics.Jump.{Jump}
use Rattle.m51_stmt.specs.Statement.{BodyTree, StmtTree, Code}
use Rattle.m51_stmt.specs.Laws.{WritesStatement}
use Rattle.m51_encode.specs.Lengths.{HasRow}

-- an instruction has a row in each form
abbrev pub HasRows : BodyTree → Type 0
HasRows (Code mnemonic operands) = (form : Jump) → HasRow mnemonic operands form
HasRows body = Unit {0}

-- Each instruction that a line writes has a row in each form that a generic jump may take.
abbrev pub StatementsHaveRows : Type 0
StatementsHaveRows = (line : List ℕ) (s : StmtTree) → WritesStatement line s → HasRows s.body
