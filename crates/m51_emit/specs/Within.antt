-- Where the references of a line and the runs of a segment lie.
use Rattle.std.specs.Prelude.{ℕ, ◌+◌, ◌≤◌, List, [], ◌∷◌, length}
use Rattle.std.specs.List.{All}
use Rattle.m51_module.specs.Validity.{field_len}
use Rattle.m51_emit.specs.Content.{ReferenceAt}
use Rattle.m51_emit.specs.Pieces.{Run}

-- The fields of these references begin at a byte or after it, ascend, do not overlap, and end at a second byte or
-- before it.
abbrev pub LieFrom : ℕ → ℕ → List ReferenceAt → Type 0
LieFrom from to [] = from ≤ to
LieFrom from to (r ∷ more) = (from ≤ r.0) × LieFrom (r.0 + field_len r.1.form) to more

-- the references lie in the first `bytes` bytes
pub record LieInside (bytes : ℕ) (references : List ReferenceAt) : Type 0 where
  pub lie : LieFrom 0 bytes references

-- a run ends at 65,536 or before
abbrev pub EndsInMemory : Run → Type 0
EndsInMemory run = run.0 + length run.1 ≤ 65536

pub record AreInMemory (runs : List Run) : Type 0 where
  pub each : All EndsInMemory runs
