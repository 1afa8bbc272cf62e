-- How the outcomes of a line are counted one by one: what the loops over operands and items keep.
use Rattle.std.specs.Prelude.{ℕ, List, None}
use Rattle.m51_encode.specs.declared.outcome.OperandOutcome.{OperandOutcome}
use Rattle.m51_emit.specs.declared.counting.FixupCount.{FixupCount}
use Rattle.m51_emit.specs.Outcomes.{made_with, part_fault, made_with_all, or_next, leftmost_fault}

-- with one more part
abbrev pub counted : FixupCount → OperandOutcome → FixupCount
counted c part = record { made = made_with c.made part; fault = or_next c.fault (part_fault c.made part) }

-- with these additional parts
abbrev pub counted_all : FixupCount → List OperandOutcome → FixupCount
counted_all c parts =
    record { made = made_with_all c.made parts; fault = or_next c.fault (leftmost_fault c.made parts) }

-- the count before a line, with `made` fixups
abbrev pub none_of : ℕ → FixupCount
none_of made = record { made = made; fault = None }
