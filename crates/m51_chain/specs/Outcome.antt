-- The outcome of the work of a verb, and the answer that is written and kept.
use Rattle.std.specs.Prelude.{ℕ, List, [], ◌++◌, codes, Bool, true, false, Option, Some, None, Result, Ok, Err, IfSome}
use Rattle.std.specs.Prelude.{option_map}
use Rattle.m51_cells.specs.declared.event.Event.{Event}
use Rattle.m51_flat.specs.Reads.{CellMap}
use Rattle.m51_party.specs.declared.party.PartyEnd.{PartyEnd}
use Rattle.m51_party.specs.declared.party.PartyEnd.TheVariants as party_ends
use Rattle.m51_party.specs.Report.{has_event}
use Rattle.m51_party.specs.Rounds.{family_of}
use Rattle.m51_party.specs.Text.{party_text}
use Rattle.m51_print.specs.Lines.{titles_of}
use Rattle.m51_sim.specs.declared.runs.RunEnd.{RunEnd}
use Rattle.m51_sim.specs.declared.runs.RunEnd.TheVariants as ends
use Rattle.m51_shelf.specs.declared.sink.Failed.{Failed}
use Rattle.m51_sim.specs.Boards.{BoardState, FlatState, flat_of, separate_of}
use Rattle.m51_sim.specs.Cycles.{inputs_of}
use Rattle.m51_sim.specs.FlatMachine.{flat_machine}
use Rattle.m51_sim.specs.Run.{record_text}
use Rattle.m51_sim.specs.Runs.{Record, record_of}
use Rattle.m51_sim.specs.SeparateMachine.{Separate, separate_machine}
use Rattle.m51_chain.specs.declared.status.Status.{Status}
use Rattle.m51_chain.specs.declared.status.Status.TheVariants as status
use Rattle.m51_chain.specs.declared.work.Finish.{Finish}
use Rattle.m51_chain.specs.declared.work.Finish.TheVariants as ending
use Rattle.m51_chain.specs.declared.work.Finished.{Finished}
use Rattle.m51_chain.specs.declared.work.Kept.{Kept}
use Rattle.m51_chain.specs.declared.work.Plan.{Plan}
use Rattle.m51_chain.specs.declared.work.Plan.TheVariants as plan
use Rattle.m51_chain.specs.declared.work.Reason.{Reason}
use Rattle.m51_chain.specs.declared.work.Reason.TheVariants as reason
use Rattle.m51_chain.specs.declared.work.Stop.{Stop}
use Rattle.m51_chain.specs.declared.work.Stop.TheVariants as stop
use Rattle.m51_shelf.specs.Shelf.{File}

-- The outcome of work: a status, the text that is written, and the bytes of the file that is kept.
pub record Outcome : Type 0 where
  pub status : Status
  pub text : List ℕ
  pub keeps : Option (List ℕ)

-- The same with the name of that file.
pub record Answer : Type 0 where
  pub status : Status
  pub text : List ℕ
  pub keeps : Option File

-- the value, and what follows from it, or the first refusal
abbrev pub then_do : {A B : Type 0} → Result A Outcome → (A → Result B Outcome) → Result B Outcome
then_do (Ok value) next = next value
then_do (Err refusal) next = Err refusal

-- the value, or the outcome that refuses it
abbrev pub or_refused : {A E : Type 0} → (E → Outcome) → Result A E → Result A Outcome
or_refused refusal (Ok value) = Ok value
or_refused refusal (Err error) = Err (refusal error)

-- the status of a reason
abbrev pub status_of : Reason → Status
status_of reason.Source = status.Source
status_of reason.Link = status.Link
status_of reason.Object = status.Object
status_of reason.Script = status.Script
status_of reason.Limit = status.Limit
status_of reason.Stack = status.Stack

-- an event ends a run before its last step
abbrev pub status_by : Option Event → Status
status_by None = status.Ran
status_by (Some event) = status.Event

-- an event ends the run of some board of a party before its last step
abbrev pub status_if : Bool → Status
status_if false = status.Ran
status_if true = status.Event

-- the run of a board, and of a flat one
abbrev pub run_of : BoardState → ℕ → Record Separate
run_of board steps =
    record_of (separate_machine board.monitor.layout board.chip.image (inputs_of board.chip.script)) steps
    (separate_of board)

abbrev pub flat_run_of : FlatState → ℕ → Record CellMap
flat_run_of board steps =
    record_of (flat_machine board.chip.image (inputs_of board.chip.script)) steps (flat_of board)

-- the status of an ending, and the text that comes with it
unfoldable pub status_at : Finish → Status
status_at ending.Ran = status.Ran
status_at ending.Event = status.Event
status_at (ending.Run board steps) = status_by (run_of board steps).event
status_at (ending.FlatRun board steps) = status_by (flat_run_of board steps).event
status_at (ending.Party boards steps) = status_if (has_event (family_of boards steps))

unfoldable pub text_at : Finish → List ℕ
text_at ending.Ran = []
text_at ending.Event = []
text_at (ending.Run board steps) = record_text (titles_of board.monitor.layout.placed) (run_of board steps)
text_at (ending.FlatRun board steps) = record_text [] (flat_run_of board steps)
text_at (ending.Party boards steps) = party_text boards steps (family_of boards steps)

-- the status after a party, by how it ended
abbrev pub party_status : PartyEnd → Result Status Failed
party_status party_ends.Finished = Ok status.Ran
party_status party_ends.Stopped = Ok status.Event
party_status party_ends.WriteFault = Err (record {})

-- the status after a run, by how it ended
abbrev pub status_after : RunEnd → Result Status Failed
status_after ends.Finished = Ok status.Ran
status_after (ends.Stopped event) = Ok status.Event
status_after ends.WriteFault = Err (record {})

-- the outcome of accepted work, and of a refusal
abbrev pub outcome_of : Finished → Outcome
outcome_of work = record {
  status = status_at work.ending;
  text = work.text ++ text_at work.ending;
  keeps = work.keeps;
}

abbrev pub refused : Reason → List ℕ → Outcome
refused why text = record { status = status_of why; text = text; keeps = None }

-- this text is written, and nothing is kept
abbrev pub written : List ℕ → Outcome
written text = record { status = status.Ran; text = text; keeps = None }

-- what stops work: a refusal; out of memory is none
abbrev pub stopped : Stop → Option Outcome
stopped (stop.Refused why text) = Some (refused why text)
stopped stop.Memory = None

-- the work has one of these outcomes, or is refused with one of them; out of memory is free
abbrev pub Comes : (Outcome → Type 0) → Result Finished Stop → Type 0
Comes Is (Ok work) = Is (outcome_of work)
Comes Is (Err why) = IfSome (stopped why) Is

abbrev pub file_of : Kept → File
file_of file = (file.target, file.bytes)

-- the answer of a plan
abbrev pub answer_of : Plan → Answer
answer_of (plan.Refused status text) = record { status = status; text = text; keeps = None }
answer_of (plan.Accepted keeps text ending) =
    record { status = status_at ending; text = text ++ text_at ending; keeps = option_map file_of keeps }

-- bytes under a name
abbrev pub under : Option (List ℕ) → Option (List ℕ) → Option File
under (Some name) (Some bytes) = Some (name, bytes)
under name None = None
under None bytes = None

-- the answer where this is the outcome, and the file that is kept has this name
abbrev pub named_answer : Option (List ℕ) → Outcome → Answer
named_answer name outcome =
    record { status = outcome.status; text = outcome.text; keeps = under name outcome.keeps }

-- a refusal before the work of a verb
abbrev pub refusal : Status → List ℕ → Answer
refusal status text = record { status = status; text = text; keeps = None }

-- faulty arguments
abbrev pub usage_answer : Answer
usage_answer =
    refusal status.Usage (codes "usage: m51 build [--control F] [--script F] [--hex F] --steps N FILE..\n")

-- more than 64 file arguments
abbrev pub many_answer : Answer
many_answer = refusal status.Limit (codes "LIMIT FILES 64\n")

-- a file of more than 1,048,576 bytes
abbrev pub long_answer : Answer
long_answer = refusal status.Limit (codes "LIMIT BYTES 1048576\n")

-- a file that could not be read
abbrev pub unread_answer : List ℕ → Answer
unread_answer file = refusal status.ReadFault (codes "READ FAULT " ++ file ++ codes "\n")
