-- What a line gives (this project's rules of content and of faults).
use Rattle.std.specs.Prelude.{ℕ, List, Option, None}
use Rattle.m51_isa.specs.declared.instr.Instr.{Instr}
use Rattle.m51_isa.specs.declared.generics.Jump.{Jump}
use Rattle.m51_expr.specs.Meanings.{Meanings}
use Rattle.m51_encode.specs.Coding.{row_of}
use Rattle.m51_encode.specs.declared.outcome.OperandOutcome.{OperandOutcome}
use Rattle.m51_stmt.specs.Statement.{BodyTree, Code}
use Rattle.m51_emit.specs.declared.content.LineContent.{LineContent}
use Rattle.m51_emit.specs.Outcomes.{made_with_all, leftmost_fault}
use Rattle.m51_emit.specs.Content.{EmittedContent, outcomes_by, content_by}

-- this content, and the fault of the parts that it is made of, with `made` fixups before them
abbrev pub given : EmittedContent → ℕ → List OperandOutcome → LineContent
given c made parts = record { content = c; fault = leftmost_fault made parts; made = made_with_all made parts }

-- the row of the instruction of a line, if it has one
abbrev pub row_by : Jump → BodyTree → Option Instr
row_by jump (Code mnemonic operands) = row_of mnemonic operands jump
row_by jump body = None

-- what a line gives, with `made` fixups before it
abbrev pub line_given : Meanings → Jump → BodyTree → ℕ → LineContent
line_given names jump body made = given (content_by names jump body) made (outcomes_by names jump body)
