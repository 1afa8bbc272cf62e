-- Answers as they are carried out.
use Rattle.m51_chain.proofs.Common.{BoardState, Err, IsPartyReport, List, Ok, Result, Status, ap, arith, family_of}
use Rattle.m51_chain.proofs.Common.{has_event, refl, sym, unkept_text, ℕ, ◌++◌, ◌≡◌, ◌≤◌}
use Rattle.m51_chain.specs.Outcome.{Answer, status_by, status_if, party_status, status_after}
use Rattle.m51_chain.specs.Carried.{IsUnkept, status_told, IsTextWritten, IsEnded, Unkept, UnkeptCut}
use Rattle.std.specs.Io.KnownBytes.{Appends}
use Rattle.std.proofs.KnownBytes.{Appends-trans}
use Rattle.m51_cells.specs.Outside.{Rose}
use Rattle.m51_cells.proofs.Fronts.{front_at_end}
use Rattle.m51_party.specs.declared.party.PartyEnd.{PartyEnd}
use Rattle.m51_party.specs.Text.{party_text}
use Rattle.m51_sim.specs.declared.runs.RunEnd.{RunEnd}
use Rattle.m51_shelf.specs.declared.sink.Failed.{Failed}
use Rattle.m51_sim.specs.Run.{Ended, record_text}
use Rattle.m51_sim.specs.Runs.{Machine, State, record_of}
use Rattle.m51_shelf.specs.Writing.{SinkState}
use Rattle.m51_shelf.specs.States.{KeepAt}
use Rattle.m51_party.specs.declared.party.PartyEnd.TheVariants as party_ends
use Rattle.m51_sim.specs.declared.runs.RunEnd.TheVariants as ends
use Rattle.m51_chain.specs.declared.status.Status.TheVariants as status

-- a text that was written, and then another
pub written_after : (status : Status) (front text : List ℕ) (before between after : SinkState)
    (result : Result Status Failed)
    → Appends before.text between.text front → before.faults ≤ between.faults
    → IsTextWritten status text between after result
    → IsTextWritten status (front ++ text) before after result
written_after status front text before between after (Ok told) first later written =
    (written.0, Appends-trans before.text between.text after.text front text first written.1)
written_after status front text before between after (Err failed) first later written =
    (omega (arith, later, written.0), front_at_end before.text between.text after.text front text first written.1)

-- an answer whose file could not be kept
pub unkept_ended : (answer : Answer) (before after : KeepAt) (old new : SinkState) (result : Result Status Failed)
    → IsUnkept answer before after → IsTextWritten status.WriteFault (unkept_text after.missed) old new result
    → IsEnded answer before after old new (status_told result)
unkept_ended answer before after old new (Ok told) unkept written = Unkept written.0 unkept written.1
unkept_ended answer before after old new (Err failed) unkept written = UnkeptCut refl unkept written.0 written.1

-- a run, as its record is written
pub run_written : {M : Type 0} (titles : List (List ℕ)) (machine : Machine M) (n : ℕ) (first now : State M)
    (old new : SinkState) (end : RunEnd)
    → Ended old.text new.text titles machine n first now end → (end ≡ ends.WriteFault → Rose old.faults new.faults)
    → IsTextWritten (status_by (record_of machine n first).event)
    (record_text titles (record_of machine n first)) old new
    (status_after end)
run_written titles machine n first now old new ends.WriteFault ended fault = (fault refl, ended.front)
run_written titles machine n first now old new end ended fault = (rw (ended.event_is) refl, ended.text)

-- a party, as its text is written
pub party_written : (boards : List BoardState) (n : ℕ) (old new : SinkState) (end : PartyEnd)
    → IsPartyReport boards n (family_of boards n) old.text new.text end
    → (end ≡ party_ends.WriteFault → Rose old.faults new.faults)
    → IsTextWritten (status_if (has_event (family_of boards n))) (party_text boards n (family_of boards n)) old new
    (party_status end)
party_written boards n old new party_ends.WriteFault report fault = (fault refl, report)
party_written boards n old new end report fault = (sym (ap status_if report.0), report.1)
