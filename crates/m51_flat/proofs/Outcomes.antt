-- From what holds of every plan to what holds of every outcome.
use Rattle.m51_flat.proofs.Common.{◌≡◌, ℕ, Bool, true, false, cond, List, length, Option, Some, None, Result, Ok, Err}
use Rattle.m51_flat.proofs.Common.{refl, ap, Cell, and_then, Instr, Cpu, Pins, Effect, NoEffect, States}
use Rattle.m51_flat.proofs.Common.{Reads, Ends, Read, CellMap, Agrees, access_seen, value_or_missing, sp, action_of}
use Rattle.m51_flat.proofs.Common.{concluded, plan_of, started, unless_shut, Always, HasParity}
use Rattle.m51_flat.specs.declared.state.NoEffect.TheVariants as lacks
use Rattle.m51_flat.specs.Outcome.{Outcome, Done, Outside, Unset, PowerDown}
use Rattle.m51_flat.specs.States.{shut_of}
use Rattle.m51_flat.specs.Reads.{answer}
use Rattle.m51_flat.specs.Sfr.{flag, has_register, latch, pcon}
use Rattle.m51_flat.specs.Meaning.{instruction_outcome, outcome_over}
use Rattle.m51_flat.specs.Laws.{Follows, IfDone, next_address}
use Rattle.m51_flat.specs.Reset.{reset_cpu}
use Rattle.m51_flat.proofs.Readings.{readings}
use Rattle.m51_flat.proofs.Parity.{IsRight, plan_right}
use Rattle.m51_flat.specs.LevelLaws.{LevelsFollow, writes_ie_or_ip}
use Rattle.m51_flat.proofs.Flows.{flow_is_kept}
use Rattle.m51_flat.proofs.Levels.{levels_are_kept}
use Rattle.m51_isa.specs.Table.{flow_of}

-- the outcome of an instruction over a store is its outcome over every map that agrees with the store
pub outcomes_agree : (m : CellMap) (cpu : Cpu) (s : States) (barred : Cell → Bool) (instr : Instr) (image : List ℕ)
    (ext : Pins) → Agrees s m → instruction_outcome cpu s barred instr image ext
    ≡ outcome_over m cpu s barred instr image ext
unfolding instruction_outcome outcome_over
outcomes_agree m cpu s barred instr image ext g = ap (concluded barred) (readings (plan_of cpu instr image ext) s m g)

unless_done : (P : Effect → Type 0) (one two : Option Cell) (down : Bool) (e : Effect) → P e
    → IfDone (unless_shut one (unless_shut two (cond down PowerDown (Done e)))) P
unless_done P None None false e h = h
unless_done P None None true e h = tt
unless_done P None (Some c) down e h = tt
unless_done P (Some c) two down e h = tt

after_value : (P : Effect → Type 0) (barred : Cell → Bool) (r : Result ℕ NoEffect) (f : ℕ → Result Effect NoEffect)
    → ((v : ℕ) → IfDone (concluded barred (f v)) P) → IfDone (concluded barred (and_then r f)) P
after_value P barred (Ok v) f h = h v
after_value P barred (Err (lacks.Outside c)) f h = tt
after_value P barred (Err (lacks.Unset c)) f h = tt
after_value P barred (Err lacks.PowerDown) f h = tt

-- what holds whatever is read holds of the effect over a store
pub always_done : (P : Effect → Type 0) (barred : Cell → Bool) (s : States) (p : Reads Effect) → Always P p
    → IfDone (concluded barred (answer s p)) P
always_done P barred s (Ends e) h = unless_done P (shut_of barred e.first) (shut_of barred e.second) (flag e.cpu pcon 1)
    e h
always_done P barred s (Read x go) h =
    after_value P barred (value_or_missing (access_seen s x)) (λ v. answer s (go v))
    (λ v. always_done P barred s (go v) (h v))

pub right_of : (cpu : Cpu) → length cpu.regs ≡ 128 → HasParity cpu → IsRight cpu
unfolding latch has_register
right_of cpu len h = record { len = len; parity = h }

pub parity_of_right : (cpu : Cpu) → IsRight cpu → HasParity cpu
unfolding latch has_register
parity_of_right cpu r = r.parity

pub done_weaker : (P Q : Effect → Type 0) (outcome : Outcome) → ((e : Effect) → P e → Q e) → IfDone outcome P
    → IfDone outcome Q
done_weaker P Q (Done e) f h = f e h
done_weaker P Q (Outside c) f h = tt
done_weaker P Q (Unset c) f h = tt
done_weaker P Q PowerDown f h = tt

-- an instruction keeps the parity
pub outcome_parity : (cpu : Cpu) (s : States) (barred : Cell → Bool) (instr : Instr) (image : List ℕ) (ext : Pins)
    → length cpu.regs ≡ 128 → HasParity cpu
    → IfDone (instruction_outcome cpu s barred instr image ext) (λ e. HasParity e.cpu)
unfolding instruction_outcome
outcome_parity cpu s barred instr image ext len h =
    let before = right_of cpu len h in
    let start : IsRight (started cpu instr).cpu = record { len = before.len; parity = before.parity } in
    done_weaker (λ e. IsRight e.cpu) (λ e. HasParity e.cpu) (concluded barred (answer s (plan_of cpu instr image ext)))
    (λ e r. parity_of_right e.cpu r)
    (always_done (λ e. IsRight e.cpu) barred s (plan_of cpu instr image ext)
    (plan_right image ext (started cpu instr) (action_of instr) start))

-- control continues by the flow of the instruction
pub outcome_control : (cpu : Cpu) (s : States) (barred : Cell → Bool) (instr : Instr) (image : List ℕ) (ext : Pins)
    → length cpu.regs ≡ 128
    → IfDone (instruction_outcome cpu s barred instr image ext)
    (λ e. Follows (flow_of instr) (next_address cpu instr) (latch cpu sp) e)
unfolding instruction_outcome
outcome_control cpu s barred instr image ext len =
    always_done (λ e. Follows (flow_of instr) (next_address cpu instr) (latch cpu sp) e) barred s
    (plan_of cpu instr image ext)
    (flow_is_kept cpu instr image ext len)

pub reset_parity : HasParity reset_cpu
unfolding latch has_register lib.Count.ones
reset_parity = refl

-- so do the levels in progress
pub outcome_levels : (cpu : Cpu) (s : States) (barred : Cell → Bool) (instr : Instr) (image : List ℕ) (ext : Pins)
    → IfDone (instruction_outcome cpu s barred instr image ext)
    (λ e. LevelsFollow (flow_of instr) (writes_ie_or_ip cpu instr) cpu e)
unfolding instruction_outcome
outcome_levels cpu s barred instr image ext =
    always_done (λ e. LevelsFollow (flow_of instr) (writes_ie_or_ip cpu instr) cpu e) barred s
    (plan_of cpu instr image ext) (levels_are_kept cpu instr image ext)
