-- What the readers of lines answer.
pub use Rattle.m51_cells.specs.Outcome.{and_then}
use Rattle.std.specs.Prelude.{ℕ, Bool, true, false, Option, Some, None, Result, Ok, Err}
use Rattle.m51_stmt.specs.declared.fault.StmtError.{StmtError}
use Rattle.m51_stmt.specs.declared.fault.StmtError.TheVariants.{Fault, Memory}

-- a value, or this fault where there is none
abbrev pub or_fault : {A : Type 0} → ℕ → Option A → Result A ℕ
or_fault k (Some a) = Ok a
or_fault k None = Err k

-- the number of a fault; out of memory has none
abbrev pub fault_of : StmtError → Option ℕ
fault_of (Fault k) = Some k
fault_of Memory = None

-- what was written, if anything was found
abbrev pub if_found : {A : Type 0} → Bool → A → Option A
if_found true a = Some a
if_found false a = None
