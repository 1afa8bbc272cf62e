-- Every write of a register leaves bit 0 of PSW the parity of ACC, and so does every action.
use Rattle.m51_flat.proofs.Common.{◌≡◌, ◌≢◌, ℕ, ◌+◌, ◌-◌, ◌%◌, ◌<◌, Bool, false, List, length, refl, sym}
use Rattle.m51_flat.proofs.Common.{ap, ◌∙◌, arith, lit<, get_or-set_same, get_or-set_other, slice_index, slice_set}
use Rattle.m51_flat.proofs.Common.{◌==◌, bit_at, bit_of, parity_of, Cpu, Pins, Effect, ReturnFrom, Subroutine}
use Rattle.m51_flat.proofs.Common.{Interrupt, Action, JumpIndirect, CallTo, CallNear, Return, Reads, acc, psw, sbuf, sp}
use Rattle.m51_flat.proofs.Common.{plan, Always}
use Rattle.std.proofs.Common.{length-set}
use Rattle.m51_flat.specs.Sfr.{has_register, latch, with_bit, with_parity, with_sfr}
use Rattle.m51_flat.specs.Transfers.{called, returned, stacked}
use Rattle.m51_flat.proofs.BitLaws.{bit_same}
use Rattle.m51_flat.proofs.EveryAction.{IsKept, one_of, walk}

-- there are 128 registers, and bit 0 of PSW is the parity of ACC
pub record IsRight (cpu : Cpu) : Type 0 where
  pub len : length cpu.regs ≡ 128
  pub parity : bit_at (slice_index cpu.regs (psw - 0x80)) 0 ≡ bit_of (parity_of (slice_index cpu.regs (acc - 0x80)))

abbrev pub AlwaysRight : Reads Effect → Type 0
AlwaysRight p = Always (λ e. IsRight e.cpu) p

other_place : (n : ℕ) → 80 < n → n ≢ 80
other_place n h e = omega (arith, h, e)

-- a list of registers whose parity was set
parity_right : (cpu : Cpu) (regs : List ℕ) → length regs ≡ 128 → cpu.regs ≡ with_parity regs → IsRight cpu
unfolding with_parity
parity_right cpu regs len e =
    let byte = with_bit (slice_index regs 80) 0 (parity_of (slice_index regs 96)) in
    let inside : 80 < length regs = omega (arith, len) in
    let low : 0 < 8 = omega arith in
    let at80 = ap (λ r. slice_index r 80) e ∙ get_or-set_same regs 80 byte 0 inside in
    let at96 = ap (λ r. slice_index r 96) e ∙ get_or-set_other regs 80 96 byte 0 (other_place 96 (lit< tt)) in
    record {
      len = ap length e ∙ length-set regs 80 byte ∙ len;
      parity =
          ap (λ n. bit_at n 0) at80 ∙ bit_same (slice_index regs 80) 0 (parity_of (slice_index regs 96)) low
          ∙ ap (λ n. bit_of (parity_of n)) (sym at96);
    }

pub sfr_right : (a v : ℕ) (e : Effect) → IsRight e.cpu → IsRight (with_sfr a v e).cpu
unfolding with_sfr
sfr_right a v e r =
    one_of (λ e. IsRight e.cpu) (a == sbuf) (has_register a) _ _ e r
    (parity_right _ (slice_set e.cpu.regs (a - 128) v) (length-set e.cpu.regs (a - 128) v ∙ r.len) refl) r

-- only the registers count
same_right : {old : Cpu} {pc : ℕ} {low high held : Bool} → IsRight old
    → IsRight (record old { pc = pc; low = low; high = high; held = held })
same_right r = record { len = r.len; parity = r.parity }

pub called_right : (e : Effect) (target : ℕ) → IsRight e.cpu → IsRight (called e target).cpu
unfolding called stacked
called_right e target r = same_right (sfr_right sp ((latch e.cpu sp + 2) % 256) e r)

returned_right : (e : Effect) (from : ReturnFrom) → IsRight e.cpu → AlwaysRight (returned e from)
unfolding returned
returned_right e Interrupt r high low = same_right (sfr_right sp ((latch e.cpu sp + 254) % 256) e r)
returned_right e Subroutine r high low = same_right (sfr_right sp ((latch e.cpu sp + 254) % 256) e r)

abbrev Right : Bool → Effect → Type 0
Right _ e = IsRight e.cpu

-- no register is watched, and control may go anywhere
right_kept : (n : ℕ) → IsKept (λ _. false) Right Right n (λ _. Unit {0})
right_kept n = record {
  apart = (refl, refl, refl, refl, refl);
  low = λ a h. refl;
  register = sfr_right;
  memory = λ put e r. r;
  ends = λ b e r. r;
  jump = λ b to e j r. same_right r;
  branch = λ b rel e j r. same_right r;
}

pub plan_right : (image : List ℕ) (ext : Pins) (e : Effect) (action : Action) → IsRight e.cpu
    → AlwaysRight (plan image ext e action)
plan_right image ext e JumpIndirect r = same_right r
plan_right image ext e (CallTo target) r = called_right e _ r
plan_right image ext e (CallNear address) r = called_right e _ r
plan_right image ext e (Return from) r = returned_right e from r
plan_right image ext e action r = walk (λ _. false) Right Right e.cpu.pc (λ _. Unit {0}) (right_kept e.cpu.pc) image ext
    e action refl tt r
