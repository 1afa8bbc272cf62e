-- Boards on one serial line: the records that belong together.
use Rattle.std.specs.Prelude.{◌≡◌, ℕ, zero, suc, ◌+◌, List, [], ◌∷◌, ◌++◌, Some, None, flat_map}
use Rattle.m51_cells.specs.declared.event.Entry.{Entry}
use Rattle.m51_cells.specs.declared.event.Entry.TheVariants.{Port, Sent}
use Rattle.m51_sim.specs.declared.cycles.Timed.{Timed}
use Rattle.m51_sim.specs.Boards.{BoardState, IsStarted, separate_of}
use Rattle.m51_sim.specs.Cycles.{inputs_of, with_extra}
use Rattle.m51_sim.specs.Runs.{Machine, Record, record_of}
use Rattle.m51_sim.specs.SeparateMachine.{Separate, separate_machine}

-- a byte with a ninth bit that is sent at a cycle arrives at the other boards four cycles later; others do not arrive
abbrev pub frames_of : Entry → List Timed
frames_of (Port cycle port value) = []
frames_of (Sent cycle byte None) = []
frames_of (Sent cycle byte (Some ninth)) =
    record { cycle = cycle + 4; frame = record { byte = byte; ninth = ninth } } ∷ []

-- the frames that a record gives the other boards
abbrev pub frames_sent : {M : Type 0} → Record M → List Timed
frames_sent r = flat_map frames_of r.entries

-- a record for each board, in order
abbrev pub Family : Type 0
Family = List (Record Separate)

-- the frames from all other records than that at this index, in the order of boards
abbrev pub frames_for : ℕ → Family → List Timed
frames_for index [] = []
frames_for zero (own ∷ others) = flat_map frames_sent others
frames_for (suc index) (other ∷ rest) = frames_sent other ++ frames_for index rest

-- the machine of a board, to which these frames come after those of its script
abbrev pub machine_with : List Timed → BoardState → Machine Separate
machine_with extra b =
    separate_machine b.monitor.layout b.chip.image (with_extra extra (inputs_of b.chip.script))

-- the record of at most n steps of a single board that receives these frames
abbrev pub record_with : ℕ → List Timed → BoardState → Record Separate
record_with n extra b = record_of (machine_with extra b) n (separate_of b)

-- the records of boards, of which the first has this index, with the frames that a family gives them
abbrev pub records_from : ℕ → List BoardState → ℕ → Family → Family
records_from index [] n family = []
records_from index (b ∷ bs) n family =
    record_with n (frames_for index family) b ∷ records_from (suc index) bs n family

-- Each record of the family is the one that its board makes if it receives the frames that the other records of the
-- family give it.
abbrev pub IsFamily : List BoardState → ℕ → Family → Type 0
IsFamily boards n family = family ≡ records_from 0 boards n family

-- a board that was not stepped
abbrev pub IsFresh : BoardState → Type 0
IsFresh b = IsStarted b.monitor.layout b.chip.image b.chip.script b
