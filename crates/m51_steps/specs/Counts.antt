-- How often each instruction began, and how many cycles it took.
use Rattle.std.specs.Prelude.{◌≡◌, ℕ, zero, suc, ◌+◌, ◌*◌, ◌-◌, ◌/◌, ◌^◌, ◌==◌, ◌<◌, Bool, if◌then◌else◌, min, List, []}
use Rattle.std.specs.Prelude.{◌∷◌, ◌++◌}
use Rattle.std.specs.Prelude.{codes, count_by, sum_by, Option, Some, None, Result, Ok, Err, slice_index}
use Rattle.std.specs.Fmt.{decimal}
use Rattle.m51_cells.specs.declared.event.Event.{Event}
use Rattle.m51_cells.specs.Hex.{hex4}
use Rattle.m51_flat.specs.Vectors.{vector_of}
use Rattle.m51_isa.specs.declared.instr.Instr.{Instr}
use Rattle.m51_sim.specs.declared.attempt.Attempt.{Attempt}
use Rattle.m51_sim.specs.declared.attempt.Attempt.TheVariants.{Vectoring, Idling, Executing, Refusing}
use Rattle.m51_sim.specs.Effects.{attempt_of, instr_at}
use Rattle.m51_sim.specs.Runs.{Machine, Performed, State}
use Rattle.m51_steps.specs.Lines.{instr_text, tab}
use Rattle.m51_steps.specs.Listing.{listed_from}

-- a step that is performed: the state in which it begins, and how many cycles pass in it
pub record Begun (M : Type 0) : Type 0 where
  pub from : State M
  pub cycles : ℕ

abbrev pub begun_by : {M : Type 0} → State M → (State M → List (Begun M)) → Result (Performed M) Event → List (Begun M)
begun_by s rest (Ok step) = record { from = s; cycles = step.state.cycle - s.cycle } ∷ rest step.state
begun_by s rest (Err event) = []

-- the steps that are performed, at most this number, in their order: as many as the record of the run has
unfoldable pub begun : {M : Type 0} → Machine M → ℕ → State M → List (Begun M)
begun machine zero s = []
begun machine (suc n) s = begun_by s (begun machine n) (machine s)

-- Where a step is counted: an instruction at its address, 0 to 65535; the vectorings of the six sources at 65536 to
-- 65541, in the order of their vectors; an idle step at 65542.
abbrev pub place_of : Attempt → ℕ → ℕ
place_of (Vectoring source) pc = 65536 + vector_of source / 8
place_of Idling pc = 65542
place_of (Executing instr) pc = pc
place_of Refusing pc = pc

-- the step is counted at this place
abbrev pub is_at : {M : Type 0} → List ℕ → ℕ → Begun M → Bool
is_at image place step = place_of (attempt_of image step.from.cpu) step.from.cpu.pc == place

-- its cycles, if it is
abbrev pub cycles_at : {M : Type 0} → List ℕ → ℕ → Begun M → ℕ
cycles_at image place step = if is_at image place step then step.cycles else 0

-- for each place, how many steps began there, and how many cycles passed in them
pub record Table : Type 0 where
  pub times : ℕ → ℕ
  pub cycles : ℕ → ℕ

abbrev pub table_of : {M : Type 0} → List ℕ → List (Begun M) → Table
table_of image steps = record {
  times = λ place. count_by (is_at image place) steps;
  cycles = λ place. sum_by (cycles_at image place) steps;
}

-- The same as the program keeps it: two lists of 65,543 numbers.
pub record Kept : Type 0 where
  pub times : List ℕ
  pub cycles : List ℕ

-- a step more is counted at a place; both numbers stop at their last values
pub record IsAdded (old new : Kept) (at passed : ℕ) : Type 0 where
  pub times : (place : ℕ) → place < 65543
      → slice_index new.times place
      ≡ (if at == place then min (slice_index old.times place + 1) (2 ^ 32 - 1) else slice_index old.times place)
  pub cycles : (place : ℕ) → place < 65543
      → slice_index new.cycles place
      ≡ (if at == place then min (slice_index old.cycles place + passed) (2 ^ 64 - 1)
      else slice_index old.cycles place)

-- nothing is counted
pub record IsBlank (kept : Kept) : Type 0 where
  pub times : (place : ℕ) → place < 65543 → slice_index kept.times place ≡ 0
  pub cycles : (place : ℕ) → place < 65543 → slice_index kept.cycles place ≡ 0

-- what is kept is this table
pub record AgreesWith (kept : Kept) (t : Table) : Type 0 where
  pub times : (place : ℕ) → place < 65543 → slice_index kept.times place ≡ t.times place
  pub cycles : (place : ℕ) → place < 65543 → slice_index kept.cycles place ≡ t.cycles place

-- the table that is kept
abbrev pub table_in : Kept → Table
table_in kept = record { times = slice_index kept.times; cycles = slice_index kept.cycles }

-- what was counted at a place
abbrev pub count_text : Table → ℕ → List ℕ
count_text t place = decimal (t.times place) ++ tab ++ decimal (t.cycles place) ++ tab

-- the instruction that begins at an address; nothing for the reserved opcode
abbrev pub next_text : Option Instr → List ℕ
next_text None = []
next_text (Some instr) = instr_text instr

-- the line of an address, if a step began there
unfoldable pub address_line : List ℕ → Table → ℕ → List ℕ
address_line image t address =
    if t.times address == 0 then []
    else hex4 address ++ tab ++ count_text t address ++ next_text (instr_at image address) ++ codes "\n"

-- the line of a source, if its interrupt was taken
unfoldable pub vector_line : Table → ℕ → List ℕ
vector_line t source =
    if t.times (65536 + source) == 0 then []
    else codes "VECTOR\t" ++ count_text t (65536 + source) ++ codes "VECTOR " ++ hex4 (3 + 8 * source) ++ codes "\n"

-- the line of the idle steps, if there were some
unfoldable pub idle_line : Table → List ℕ
idle_line t =
    if t.times 65542 == 0 then [] else codes "IDLE\t" ++ count_text t 65542 ++ codes "IDLE\n"

-- the lines of the first addresses, and of the first sources
unfoldable pub address_lines : List ℕ → Table → ℕ → List ℕ
address_lines image t count = listed_from (address_line image t) [] [] count 0

unfoldable pub vector_lines : Table → ℕ → List ℕ
vector_lines t count = listed_from (vector_line t) [] [] count 0

-- the table of an image
unfoldable pub table_text : List ℕ → Table → List ℕ
table_text image t =
    codes "PC\tTIMES\tCYCLES\tNEXT\n" ++ address_lines image t 65536 ++ vector_lines t 6 ++ idle_line t
