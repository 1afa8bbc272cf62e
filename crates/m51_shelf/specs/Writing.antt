-- What a failed write leaves, and when a sink in memory fails.
use Rattle.std.specs.Prelude.{◌≡◌, ℕ, ◌+◌, ◌<◌, ◌⊎◌, List, ◌++◌, length, take, Contains, Option, Result, Ok, Err}
use Rattle.std.specs.Io.KnownBytes.{Appends}
use Rattle.m51_cells.specs.Outside.{one_more}

-- the bytes, if visible, have grown by a prefix of these that lacks at least their last
abbrev pub StopsWithin : Option (List ℕ) → Option (List ℕ) → List ℕ → Type 0
StopsWithin old new bytes = (count : ℕ) × (count < length bytes) × Appends old new (take count bytes)

-- A sink in memory: its text, the most bytes that it takes, the numbers of the calls that are to fail, counted from 1,
-- and how many calls there were and how many failed.
pub record MemSinkState : Type 0 where
  pub text : List ℕ
  pub room : ℕ
  pub fails : List ℕ
  pub calls : ℕ
  pub faults : ℕ

-- the next call fails at this many bytes: its number is listed, or they would pass the room
abbrev pub FailsAt : MemSinkState → ℕ → Type 0
FailsAt sink count = Contains sink.fails (one_more sink.calls) ⊎ (sink.room < length sink.text + count)

-- a call takes the whole piece, or it fails and is counted as a fault
abbrev pub IsPieceTaken : {E : Type 0} → MemSinkState → MemSinkState → List ℕ → Result ℕ E → Type 0
IsPieceTaken old new piece (Ok count) =
    (FailsAt old (length piece) → ⊥) × (count ≡ length piece)
    × (new ≡ record old { text = old.text ++ piece; calls = one_more old.calls })
IsPieceTaken old new piece (Err failed) =
    FailsAt old (length piece) × (new ≡ record old { calls = one_more old.calls; faults = one_more old.faults })

-- what contracts see of a sink: the bytes taken so far, if visible, and how many writes have failed
pub record SinkState : Type 0 where
  pub text : Option (List ℕ)
  pub faults : ℕ
