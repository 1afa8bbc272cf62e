-- How many interrupts are in progress.
use Rattle.std.specs.Prelude.{ℕ, ◌+◌, ◌-◌}
use Rattle.m51_flat.specs.declared.state.Transfer.{Transfer}
use Rattle.m51_flat.specs.declared.state.Transfer.TheVariants.{Next, Jump, Call, Ret, Reti, Vector}

-- after a transfer, by their number before it
abbrev pub taken_by : Transfer → ℕ → ℕ
taken_by Next taken = taken
taken_by Jump taken = taken
taken_by Call taken = taken
taken_by Ret taken = taken
taken_by Reti taken = taken - 1
taken_by (Vector source) taken = taken + 1
