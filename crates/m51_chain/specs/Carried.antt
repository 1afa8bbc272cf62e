-- How an answer is kept and written.
use Rattle.std.specs.Prelude.{◌≡◌, ℕ, List, Option, Some, None, Result, Ok, Err, option_to_list}
use Rattle.std.specs.Io.KnownBytes.{Appends}
use Rattle.m51_cells.specs.Outside.{Rose, AppendsFront}
use Rattle.m51_shelf.specs.declared.sink.Failed.{Failed}
use Rattle.m51_shelf.specs.Writing.{SinkState}
use Rattle.m51_chain.specs.declared.status.Status.{Status}
use Rattle.m51_chain.specs.declared.status.Status.TheVariants as status
use Rattle.m51_shelf.specs.Shelf.{File, Files, Grows, HoldsOthers}
use Rattle.m51_shelf.specs.States.{KeepAt}
use Rattle.m51_chain.specs.Outcome.{Answer}
use Rattle.m51_chain.specs.Targets.{unkept_text}

-- the file of an answer, if it has one
abbrev pub kept_of : Answer → List File
kept_of answer = option_to_list answer.keeps

-- The file of an answer is kept, and where it has none, keep was not called.
pub record IsFileKept (answer : Answer) (before after : KeepAt) : Type 0 where
  pub files : Grows before.kept after.kept (kept_of answer)
  pub quiet : answer.keeps ≡ None → after ≡ before

-- a text is written whole, or a write failed after a prefix of it
abbrev pub IsTextWritten : Status → List ℕ → SinkState → SinkState → Result Status Failed → Type 0
IsTextWritten status text before after (Ok told) = (told ≡ status) × Appends before.text after.text text
IsTextWritten status text before after (Err failed) =
    Rose before.faults after.faults × AppendsFront before.text after.text text

-- The answer's file is kept and its text is written whole.
pub record IsCarriedOut
    (answer : Answer) (before after : KeepAt) (sink_before sink_after : SinkState) (told : Status)
    : Type 0 where
  pub status : told ≡ answer.status
  pub kept : IsFileKept answer before after
  pub text : Appends sink_before.text sink_after.text answer.text

-- Its file is kept, and a write failed after a prefix of its text.
pub record IsCut (answer : Answer) (before after : KeepAt) (sink_before sink_after : SinkState) : Type 0 where
  pub rose : Rose sink_before.faults sink_after.faults
  pub kept : IsFileKept answer before after
  pub text : AppendsFront sink_before.text sink_after.text answer.text

-- Its file could not be kept.
pub record IsUnkept (answer : Answer) (before after : KeepAt) : Type 0 where
  pub file : File
  pub is : answer.keeps ≡ Some file
  pub rose : Rose before.faults after.faults
  pub missed : after.missed ≡ file.0
  pub kept : after.kept ≡ before.kept

-- Keep was not called, and nothing is written.
pub record IsUntouched (before after : KeepAt) (sink_before sink_after : SinkState) : Type 0 where
  pub keeps : after ≡ before
  pub sink : sink_after ≡ sink_before

-- How the answer ends: it is kept and written whole; or a write failed; or its file could not be kept, and this is
-- written whole, or a write failed then too.
pub data IsEnded
    (answer : Answer) (before after : KeepAt) (sink_before sink_after : SinkState) (told : Status)
    : Type 0 where
  Whole : IsCarriedOut answer before after sink_before sink_after told
      → IsEnded answer before after sink_before sink_after told
  Cut : told ≡ status.WriteFault → IsCut answer before after sink_before sink_after
      → IsEnded answer before after sink_before sink_after told
  Unkept : told ≡ status.WriteFault → IsUnkept answer before after
      → Appends sink_before.text sink_after.text (unkept_text after.missed)
      → IsEnded answer before after sink_before sink_after told
  UnkeptCut : told ≡ status.WriteFault → IsUnkept answer before after → Rose sink_before.faults sink_after.faults
      → AppendsFront sink_before.text sink_after.text (unkept_text after.missed)
      → IsEnded answer before after sink_before sink_after told

-- the status after a text was to be written
abbrev pub status_told : Result Status Failed → Status
status_told (Ok told) = told
status_told (Err failed) = status.WriteFault

-- the files, if visible, stay, but for the one that is kept, if one is
abbrev pub HoldsBut : Option File → Option Files → Option Files → Type 0
HoldsBut None old new = new ≡ old
HoldsBut (Some file) old new = HoldsOthers old new file.0
