-- Of the code: how runs grow by one byte.
use Rattle.std.specs.Prelude.{◌≡◌, ◌≢◌, ℕ, ◌+◌, Bool, true, false, List, [], ◌∷◌, ◌++◌}
use Rattle.m51_module.specs.declared.linked.Run.{Run}

-- a run with one more byte
abbrev pub longer : Run → Run
longer run = record { first = run.first; len = run.len + 1 }

-- a run of one byte
abbrev pub run_at : ℕ → Run
run_at address = record { first = address; len = 1 }

-- One more byte joins the last run where it ends there; else it is a run of its own.
pub data AddsByte (address : ℕ) (old new : List Run) : Type 0 where
  Joined : (front : List Run) (run : Run) → old ≡ front ++ run ∷ [] → run.first + run.len ≡ address
      → new ≡ front ++ longer run ∷ [] → AddsByte address old new
  Apart : (front : List Run) (run : Run) → old ≡ front ++ run ∷ [] → run.first + run.len ≢ address
      → new ≡ old ++ run_at address ∷ [] → AddsByte address old new
  First : old ≡ [] → new ≡ run_at address ∷ [] → AddsByte address old new

-- the same if the memory has a byte there, else no change
abbrev pub AddsIf : Bool → ℕ → List Run → List Run → Type 0
AddsIf true address old new = AddsByte address old new
AddsIf false address old new = new ≡ old
