-- The outcomes of the operands and items of a statement: a fault, a reference, or neither.
use Rattle.std.specs.Prelude.{ℕ, List, [], ◌∷◌, Option, Some, None, Ok, Err}
use Rattle.m51_encode.specs.declared.reference.Reference.{Reference}
use Rattle.m51_encode.specs.declared.filling.Held.{Held}
use Rattle.m51_encode.specs.declared.outcome.OperandOutcome.{OperandOutcome}
use Rattle.m51_encode.specs.declared.outcome.OperandOutcome.TheVariants.{Faulty, Fixes, Stands}
use Rattle.m51_encode.specs.Filling.{Answer}

-- a field with this reference, or none
abbrev pub linked : Option Reference → OperandOutcome
linked (Some reference) = Fixes
linked None = Stands

-- the outcome of an operand
abbrev pub operand_outcome : Answer Held → OperandOutcome
operand_outcome (Ok held) = linked held.reference
operand_outcome (Err error) = Faulty error.number

-- the fault of the leftmost that has one
abbrev pub first_faulty : List OperandOutcome → Option ℕ
first_faulty [] = None
first_faulty (Faulty number ∷ more) = Some number
first_faulty (outcome ∷ more) = first_faulty more
