-- The banks that the lines of a text select, by the bank after each line.
use Rattle.std.specs.Prelude.{ℕ, ◌==◌, Bool, false}
use Rattle.m51_stmt.specs.Statement.{BodyTree, Using}

-- the line selects the bank, where this is the bank after it
abbrev pub selects : ℕ → ℕ → BodyTree → Bool
selects after bank (Using e) = after == bank
selects after bank body = false
