-- SP and the records.
use Rattle.std.specs.Prelude.{◌≡◌, ◌≤◌, ◌<◌, ℕ, ◌+◌, Bool, true, false, List, [], ◌∷◌, ◌++◌, length, take, drop}
use Rattle.m51_flat.specs.declared.state.Cpu.{Cpu}
use Rattle.m51_flat.specs.declared.state.Level.{Level}
use Rattle.m51_flat.specs.declared.state.Level.TheVariants.{Low, High}
use Rattle.m51_monitor.specs.declared.cause.Cause.{Cause}
use Rattle.m51_monitor.specs.declared.cause.Cause.TheVariants.{Call, Interrupt}
use Rattle.m51_monitor.specs.declared.step.Move.{Move}
use Rattle.m51_monitor.specs.declared.step.Move.TheVariants.{Return, Interrupt as InterruptTo}
use Rattle.m51_monitor.specs.Records.{ReturnRecord, Records}

-- SP is above that of the topmost record by at least this number
abbrev pub IsAbove : List ReturnRecord → ℕ → ℕ → Type 0
IsAbove [] more sp = Unit {0}
IsAbove (r ∷ rs) more sp = r.sp + more ≤ sp

-- each record's SP is a byte, and at least two above that of the record below
abbrev pub HeightsRise : List ReturnRecord → Type 0
HeightsRise [] = Unit {0}
HeightsRise (r ∷ rs) = (r.sp < 256) × IsAbove rs 2 r.sp × HeightsRise rs

-- how many interrupts are in progress, by the records and by the processor
abbrev pub one_more : Cause → ℕ → ℕ
one_more Call n = n
one_more (Interrupt source) n = n + 1

abbrev pub interrupts : List ReturnRecord → ℕ
interrupts [] = 0
interrupts (r ∷ rs) = one_more r.cause (interrupts rs)

-- the levels in progress, the uppermost first: a high one interrupts a low one
abbrev pub in_progress : Bool → Bool → List Level
in_progress false false = []
in_progress true false = Low ∷ []
in_progress false true = High ∷ []
in_progress true true = High ∷ Low ∷ []

abbrev pub levels : Cpu → List Level
levels cpu = in_progress cpu.low cpu.high

-- Each interrupt that has a record was taken at a level, of the topmost record first. These are the levels in progress,
-- so that a low one is below a high one.
pub record HaveLevels (returns : List ReturnRecord) (taken progress : List Level) : Type 0 where
  pub each : length taken ≡ interrupts returns
  pub same : taken ≡ progress

-- the record of an interrupt goes with its level
abbrev pub ended_by : Cause → List Level → List Level
ended_by Call taken = taken
ended_by (Interrupt source) taken = drop 1 taken

abbrev pub levels_left : List ReturnRecord → List Level → List Level
levels_left [] taken = taken
levels_left (r ∷ rs) taken = ended_by r.cause taken

-- the levels at which interrupts were taken, after a move: that of a new one is the uppermost in progress then
abbrev pub taken_after : Records → List Level → Move → List Level → List Level
taken_after a progress (InterruptTo source u) taken = take 1 progress ++ taken
taken_after a progress Return taken = levels_left a.returns taken
taken_after a progress other taken = taken
