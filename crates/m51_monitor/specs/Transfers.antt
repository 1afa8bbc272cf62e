-- Which transfers of control are allowed, and how they change the records.
use Rattle.std.specs.Prelude.{◌≡◌, ℕ, ◌+◌, ◌*◌, Bool, true, false, not, nat_eq, nat_lt, Option, Some, None, Result}
use Rattle.std.specs.Prelude.{Ok, Err, List, [], ◌∷◌, if◌then◌else◌}
use Rattle.std.specs.List.{list_any}
use Rattle.m51_cells.specs.declared.event.Event.{Event}
use Rattle.m51_cells.specs.declared.event.Event.TheVariants.{Transfer as Undeclared}
use Rattle.m51_cells.specs.declared.event.Why.{Why}
use Rattle.m51_cells.specs.declared.event.Why.TheVariants.{NoUnit, NoEdge, NotCalled, WrongAddress, SpMoved, SpBelow}
use Rattle.m51_cells.specs.declared.event.Why.TheVariants.{NoHandler, RootBusy, PastEnd}
use Rattle.m51_flat.specs.declared.state.Cpu.{Cpu}
use Rattle.m51_flat.specs.declared.state.Effect.{Effect}
use Rattle.m51_flat.specs.declared.state.Put.{Put}
use Rattle.m51_flat.specs.declared.state.Put.TheVariants.{Byte}
use Rattle.m51_flat.specs.declared.state.Source.{Source}
use Rattle.m51_flat.specs.declared.state.Transfer.{Transfer}
use Rattle.m51_flat.specs.declared.state.Transfer.TheVariants.{Next, Jump, Call, Ret, Reti, Vector}
use Rattle.m51_flat.specs.Sfr.{latch, sp}
use Rattle.m51_module.specs.declared.parts.LayoutParts.{LayoutParts}
use Rattle.m51_module.specs.Plan.{IsUnitAt, IsRootAt}
use Rattle.m51_module.specs.Walks.{has_edge}
use Rattle.m51_monitor.specs.declared.cause.Cause.{Cause}
use Rattle.m51_monitor.specs.declared.cause.Cause.TheVariants.{Call as ByCall, Interrupt as ByInterrupt}
use Rattle.m51_monitor.specs.declared.cause.ReturnFrame.{ReturnFrame}
use Rattle.m51_monitor.specs.declared.step.Move.{Move}
use Rattle.m51_monitor.specs.declared.step.Move.TheVariants.{Stay, Local, Return, Jump as JumpTo, Call as CallTo}
use Rattle.m51_monitor.specs.declared.step.Move.TheVariants.{Interrupt as InterruptTo}
use Rattle.m51_monitor.specs.Records.{ReturnRecord, Records, named_over, first_or, current}
use Rattle.m51_flat.specs.Vectors.{vector_of}

-- refused where the test holds
abbrev pub refused_if : Bool → Why → Result Move Why → Result Move Why
refused_if true why rest = Err why
refused_if false why rest = rest

-- SP is less than that of the topmost return record plus this number
abbrev pub is_sp_below : List ReturnRecord → ℕ → ℕ → Bool
is_sp_below [] more sp_after = false
is_sp_below (r ∷ rs) more sp_after = nat_lt sp_after (r.sp + more)

-- the unit is the one at the target
abbrev pub is_at : Option ℕ → ℕ → Bool
is_at None u = false
is_at (Some v) u = nat_eq v u

-- what a jump or a call within the current unit does, and one to another unit
abbrev pub within : Bool → Move
within true = Local
within false = Stay

abbrev pub move_to : Bool → ℕ → Move
move_to true u = CallTo u
move_to false u = JumpTo u

-- A jump or a call to the unit at the target: within the current unit, or along an edge.
abbrev pub jump_or_call : LayoutParts → ℕ → Bool → Bool → Option ℕ → Result Move Why
jump_or_call l from low call None = Err NoUnit
jump_or_call l from low call (Some u) =
    if nat_eq u from then refused_if low SpBelow (Ok (within call))
    else refused_if (not (has_edge l.edges from u)) NoEdge (refused_if low SpBelow (Ok (move_to call u)))

-- a return to where a record says, where in_unit says whether the target lies in the unit that is current afterwards
abbrev pub returns_to : ℕ → ℕ → ℕ → ℕ → Bool → Result Move Why
returns_to recorded return_address sp_before to in_unit =
    refused_if (not (nat_eq sp_before recorded)) SpMoved
    (refused_if (not (nat_eq to return_address)) WrongAddress (refused_if (not in_unit) PastEnd (Ok Return)))

-- the record was made by a call, or by an interrupt
abbrev pub is_call : Cause → Bool
is_call ByCall = true
is_call (ByInterrupt source) = false

abbrev pub is_by : Bool → Cause → Bool
is_by true cause = is_call cause
is_by false cause = not (is_call cause)

abbrev pub return_move : List ℕ → List ReturnRecord → Bool → ℕ → ℕ → Option ℕ → Result Move Why
return_move reset [] call sp_before to at = Err NotCalled
return_move reset (r ∷ rs) call sp_before to at =
    refused_if (not (is_by call r.cause)) NotCalled
    (returns_to r.sp r.return_address sp_before to (is_at at (first_or (named_over reset rs) 0)))

-- the same of a frame
abbrev pub returns_from : ReturnFrame → Bool → ℕ → ℕ → Bool → Result Move Why
returns_from f call sp_before to inside =
    refused_if (not (is_by call f.cause)) NotCalled (returns_to f.sp f.return_address sp_before to inside)

-- the record is of the root at the vector
abbrev pub is_of_root : ℕ → Cause → Bool
is_of_root vector ByCall = false
is_of_root vector (ByInterrupt source) = nat_eq (vector_of source) vector

abbrev pub is_busy : List ReturnRecord → ℕ → Bool
is_busy returns vector = list_any (λ r. is_of_root vector r.cause) returns

abbrev pub interrupts_to : Records → Source → Bool → Option ℕ → Result Move Why
interrupts_to a source low None = Err NoHandler
interrupts_to a source low (Some root) =
    refused_if (is_busy a.returns (vector_of source)) RootBusy (refused_if low SpBelow (Ok (InterruptTo source root)))

-- The table. The target is to, at is the unit there, and root the one that begins at the vector.
abbrev pub judged_as : LayoutParts → Records → ℕ → ℕ → ℕ → Transfer → Option ℕ → Option ℕ → Result Move Why
judged_as l a sp_before sp_after to Next at root =
    refused_if (not (is_at at (current a))) PastEnd (refused_if (is_sp_below a.returns 0 sp_after) SpBelow (Ok Stay))
judged_as l a sp_before sp_after to Jump at root =
    jump_or_call l (current a) (is_sp_below a.returns 0 sp_after) false at
judged_as l a sp_before sp_after to Call at root =
    jump_or_call l (current a) (is_sp_below a.returns 2 sp_after) true at
judged_as l a sp_before sp_after to Ret at root = return_move a.reset a.returns true sp_before to at
judged_as l a sp_before sp_after to Reti at root = return_move a.reset a.returns false sp_before to at
judged_as l a sp_before sp_after to (Vector source) at root =
    interrupts_to a source (is_sp_below a.returns 2 sp_after) root

abbrev pub judged : LayoutParts → Records → Cpu → Effect → Option ℕ → Option ℕ → Result Move Why
judged l a cpu e at root = judged_as l a (latch cpu sp) (latch e.cpu sp) e.cpu.pc e.transfer at root

-- the unit at the address, or that there is none
abbrev pub IsFoundAt : LayoutParts → ℕ → Option ℕ → Type 0
IsFoundAt l address (Some u) = IsUnitAt l address u
IsFoundAt l address None = (u : ℕ) → IsUnitAt l address u → ⊥

abbrev pub IsRootFound : LayoutParts → ℕ → Option ℕ → Type 0
IsRootFound l vector (Some u) = IsRootAt l vector u
IsRootFound l vector None = (u : ℕ) → IsRootAt l vector u → ⊥

abbrev pub IsRootWanted : LayoutParts → Transfer → Option ℕ → Type 0
IsRootWanted l (Vector source) root = IsRootFound l (vector_of source) root
IsRootWanted l other root = Unit {0}

-- what the table says of a step of the processor with this effect
pub record Judges (l : LayoutParts) (a : Records) (cpu : Cpu) (e : Effect) (answer : Result Move Why) : Type 0 where
  pub at : Option ℕ
  pub root : Option ℕ
  pub at_is : IsFoundAt l e.cpu.pc at
  pub root_is : IsRootWanted l e.transfer root
  pub is : answer ≡ judged l a cpu e at root

-- a refusal as the event that a step is stopped by
abbrev pub as_event : ℕ → ℕ → Result Move Why → Result Move Event
as_event from to (Ok step) = Ok step
as_event from to (Err why) = Err (Undeclared why from to)

-- the move, or the event
pub record IsMoveOrEvent (l : LayoutParts) (a : Records) (cpu : Cpu) (e : Effect)
    (result : Result Move Event) : Type 0 where
  pub answer : Result Move Why
  pub judges : Judges l a cpu e answer
  pub is : result ≡ as_event cpu.pc e.cpu.pc answer

-- the byte that a put stores; where a record is made, both puts are bytes
abbrev pub byte_put : Put → ℕ
byte_put (Byte address value) = value
byte_put _ = 0

-- the return address: the number that the two puts store, the low byte first
abbrev pub return_address_of : Effect → ℕ
return_address_of e = byte_put e.first + 256 * byte_put e.second

-- the unit is appended to the top record
abbrev pub jumped : List ℕ → List ReturnRecord → ℕ → Records
jumped reset [] u = record { reset = u ∷ reset; returns = [] }
jumped reset (r ∷ rs) u = record { reset = reset; returns = record r { units = u ∷ r.units } ∷ rs }

-- one more record, on top
abbrev pub return_pushed : Records → Cause → ℕ → ℕ → List ℕ → Records
return_pushed a cause return_address sp_after units = record {
  reset = a.reset;
  returns = record { cause = cause; return_address = return_address; sp = sp_after; units = units } ∷ a.returns;
}

abbrev pub without_top : List ReturnRecord → List ReturnRecord
without_top [] = []
without_top (r ∷ rs) = rs

-- the records after a move
abbrev pub moved : Records → Effect → Move → Records
moved a e Stay = a
moved a e (JumpTo u) = jumped a.reset a.returns u
moved a e Local = return_pushed a ByCall (return_address_of e) (latch e.cpu sp) []
moved a e (CallTo u) = return_pushed a ByCall (return_address_of e) (latch e.cpu sp) (u ∷ [])
moved a e (InterruptTo source u) = return_pushed a (ByInterrupt source) (return_address_of e) (latch e.cpu sp) (u ∷ [])
moved a e Return = record { reset = a.reset; returns = without_top a.returns }
