-- What contracts see of a shelf at a moment, a failed call on it, and what calls leave as it is.
use Rattle.std.specs.Prelude.{◌≡◌, ℕ, ◌≤◌, Bool, false, List, Option}
use Rattle.m51_cells.specs.Outside.{Rose}
use Rattle.m51_shelf.specs.Shelf.{File, Files}

-- Reading: what the open file holds, if visible; the name last passed to `start`, empty before, and whether its file
-- can be read on; how many bytes of it were returned, and how many starts and pieces have failed, of which each count
-- stops at the last value of a u64; and, if visible, the files that were started, in order, each with the bytes that
-- were returned from it.
pub record ReadAt : Type 0 where
  pub opened : Option (List ℕ)
  pub named : List ℕ
  pub ready : Bool
  pub taken : ℕ
  pub faults : ℕ
  pub given : Option (List File)

-- Keeping: the files that were kept, if visible; the name of the last one that was not, empty before; and how many were
-- not, which stops likewise.
pub record KeepAt : Type 0 where
  pub kept : Option (List File)
  pub missed : List ℕ
  pub faults : ℕ

-- the files by name, if visible, what was read and what was kept
pub record ShelfState : Type 0 where
  pub holds : Option Files
  pub reads : ReadAt
  pub keeps : KeepAt

-- the last call that reads has failed: its count rose, and the file can't be read on
pub record HasFailed (before after : ReadAt) : Type 0 where
  pub rose : Rose before.faults after.faults
  pub closed : after.ready ≡ false

-- No file was kept: what is held and kept is as before, and the count of failures has not fallen.
pub record OnlyReads (old new : ShelfState) : Type 0 where
  pub holds : new.holds ≡ old.holds
  pub keeps : new.keeps ≡ old.keeps
  pub later : old.reads.faults ≤ new.reads.faults

-- No file was kept or started: the open file is that of before, too.
pub record ReadsOn (old new : ShelfState) : Type 0 where
  pub frame : OnlyReads old new
  pub named : new.reads.named ≡ old.reads.named
  pub opened : new.reads.opened ≡ old.reads.opened
