-- A stored name, and the open file of the system.
use Rattle.std.specs.Prelude.{◌≡◌, ℕ, ◌<◌, Bool, List, [], Option, Some, None, codes, string_bytes, length, take}
use Rattle.std.specs.Io.KnownBytes.{Consumes, IsAtEnd}
use Rattle.std.specs.declared.string.String.{String}
use Rattle.std.specs.declared.alloc.Global.{Global}

-- the name, empty before the first
abbrev pub name_bytes : Option (String Global) → List ℕ
name_bytes None = []
name_bytes (Some name) = string_bytes name

-- What contracts see of the files of the system: the name last started, how far its file was read and whether it can be
-- read on; what is left of the open file, if the handle shows it; and the count of failures; the name of the last file
-- that was not kept, and how many were not.
pub record OpenFile : Type 0 where
  pub name : List ℕ
  pub taken : ℕ
  pub ready : Bool
  pub left : Option (List ℕ)
  pub faults : ℕ
  pub missed : List ℕ
  pub keep_faults : ℕ

-- nothing is kept or missed
pub record SameStore (old new : OpenFile) : Type 0 where
  pub missed : new.missed ≡ old.missed
  pub keep_faults : new.keep_faults ≡ old.keep_faults

-- nothing is started or read
pub record SameReading (old new : OpenFile) : Type 0 where
  pub name : new.name ≡ old.name
  pub taken : new.taken ≡ old.taken
  pub ready : new.ready ≡ old.ready
  pub left : new.left ≡ old.left
  pub faults : new.faults ≡ old.faults

-- A piece of `count` bytes is what comes next of what is left, if visible, and is empty only at its end or where there
-- is no room.
pub record TakesFrom (old new : Option (List ℕ)) (count : ℕ) (into : List ℕ) : Type 0 where
  pub bytes : Consumes old new (take count into)
  pub at_end : count ≡ 0 → 0 < length into → IsAtEnd new

-- what is added to the name of a file while it is written
abbrev pub part_suffix : List ℕ
part_suffix = codes ".m51-part"
