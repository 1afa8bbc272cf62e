-- How the outcomes of the operands, items and public names of a line are counted: each is a fault, a fixup or neither.
-- Fixups are counted over the text from left to right, also in lines with a fault; one past 65,535 is not made, and is
-- E19.
use Rattle.std.specs.Prelude.{ℕ, suc, nat_lt, if◌then◌else◌, List, [], ◌∷◌, Option, Some, None}
use Rattle.m51_cells.specs.declared.fault.TheConstants.{TOO_MANY}
use Rattle.m51_cells.specs.declared.limits.TheConstants.{MOST_FIXUPS}
use Rattle.m51_encode.specs.declared.outcome.OperandOutcome.{OperandOutcome}
use Rattle.m51_encode.specs.declared.outcome.OperandOutcome.TheVariants.{Faulty, Fixes, Stands}

-- how many fixups are made up to the end of a part, with `made` before it
abbrev pub made_with : ℕ → OperandOutcome → ℕ
made_with made Fixes = if nat_lt made MOST_FIXUPS then suc made else made
made_with made other = made

-- the fault of a part, with `made` fixups before it
abbrev pub part_fault : ℕ → OperandOutcome → Option ℕ
part_fault made (Faulty number) = Some number
part_fault made Fixes = if nat_lt made MOST_FIXUPS then None else Some TOO_MANY
part_fault made Stands = None

-- how many fixups are made up to the end of these parts, with `made` before them
abbrev pub made_with_all : ℕ → List OperandOutcome → ℕ
made_with_all made [] = made
made_with_all made (part ∷ parts) = made_with_all (made_with made part) parts

abbrev pub or_next : Option ℕ → Option ℕ → Option ℕ
or_next (Some number) next = Some number
or_next None next = next

-- the fault of the leftmost part that has one
abbrev pub leftmost_fault : ℕ → List OperandOutcome → Option ℕ
leftmost_fault made [] = None
leftmost_fault made (part ∷ parts) = or_next (part_fault made part) (leftmost_fault (made_with made part) parts)
