-- Each action ends as its flow says.
use Rattle.m51_flat.proofs.Common.{◌≡◌, ◌≢◌, ◌+◌, ◌*◌, ◌%◌, ◌<◌, ◌∙◌, arith, lit<, length, get_or-set_same}
use Rattle.m51_flat.proofs.Common.{get_or-set_other, ℕ, Bool, true, false, List, refl, subst, ◌==◌, ◌&&◌}
use Rattle.m51_flat.proofs.Common.{slice_index, slice_set, Instr, parity_of, Cpu, Pins, Effect, ReturnFrom, Subroutine}
use Rattle.m51_flat.proofs.Common.{Interrupt, Action, JumpIndirect, CallTo, CallNear, Return, sbuf, sp, action_of, plan}
use Rattle.m51_flat.proofs.Common.{plan_of, started, Always}
use Rattle.std.proofs.Common.{◌⊎◌, inr, Option, Some, None}
use Rattle.m51_isa.specs.declared.instr.Flow.{Flow}
use Rattle.m51_isa.specs.declared.instr.Flow.TheVariants.{Next as FlowNext, Branch, Call as FlowCall, Ret as FlowRet}
use Rattle.m51_isa.specs.declared.instr.Flow.TheVariants.{Reti as FlowReti}
use Rattle.m51_isa.specs.declared.instr.Instr.TheVariants.{Nop}
use Rattle.m51_isa.specs.Table.{flow_of}
use Rattle.m51_flat.specs.declared.state.Transfer.TheVariants.{Next, Jump}
use Rattle.m51_flat.specs.Sfr.{has_register, latch, with_bit, with_parity, with_sfr}
use Rattle.m51_flat.specs.Parts.{jumped}
use Rattle.m51_flat.specs.Transfers.{called, returned, stacked}
use Rattle.m51_flat.specs.Laws.{FlowIsKept, Follows, FallsThrough, IsCall, next_address}
use Rattle.m51_flat.proofs.EveryAction.{IsKept, one_of, target_by, walk}

-- control continues with the next instruction, or jumps by a branch
abbrev Goes : Flow → ℕ → Effect → Type 0
Goes Branch next e = FallsThrough next e ⊎ (e.transfer ≡ Jump)
Goes _ next e = FallsThrough next e

abbrev MayJump : Flow → Type 0
MayJump Branch = Unit {0}
MayJump _ = ⊥

goes_on : (flow : Flow) (n : ℕ) (e : Effect) → FallsThrough n e → Goes flow n e
goes_on flow n e h = grind arith

goes_jumped : (flow : Flow) (n to : ℕ) (e : Effect) → MayJump flow → Goes flow n (jumped to Jump e)
goes_jumped flow n to e j = grind arith

sfr_next : (n : ℕ) (a v : ℕ) (e : Effect) → FallsThrough n e → FallsThrough n (with_sfr a v e)
unfolding with_sfr
sfr_next n a v e h = one_of (FallsThrough n) (a == sbuf) (has_register a) _ _ e h h h

goes_kept : (flow : Flow) (n : ℕ)
    → IsKept (λ _. false) (λ _ e. FallsThrough n e) (λ _ e. Goes flow n e) n (λ _. MayJump flow)
goes_kept flow n = record {
  apart = (refl, refl, refl, refl, refl);
  low = λ a h. refl;
  register = sfr_next n;
  memory = λ put e h. h;
  ends = λ b e h. goes_on flow n e h;
  jump = λ b to e j h. goes_jumped flow n to e j;
  branch = λ b rel e j h. goes_jumped flow n _ e j;
}

other_place : (n : ℕ) → n < 80 → n ≢ 80
other_place n h e = omega (arith, h, e)

-- SP reads as it was written
pub sp_written : (v : ℕ) (e : Effect) → length e.cpu.regs ≡ 128 → latch (with_sfr sp v e).cpu sp ≡ v
unfolding with_sfr latch has_register with_parity
sp_written v e len =
    let regs = slice_set e.cpu.regs 1 v in
    let byte = with_bit (slice_index regs 80) 0 (parity_of (slice_index regs 96)) in
    let inside : 1 < length e.cpu.regs = omega (arith, len) in
    get_or-set_other regs 80 1 byte 0 (other_place 1 (lit< tt)) ∙ get_or-set_same e.cpu.regs 1 v 0 inside

-- registers do not depend on PC
pub latch_of : (cpu : Cpu) (pc a : ℕ) → latch (record cpu { pc = pc }) a ≡ latch cpu a
unfolding latch
latch_of cpu pc a = refl

pub called_calls : (e : Effect) (target : ℕ) → length e.cpu.regs ≡ 128
    → IsCall e.cpu.pc (latch e.cpu sp) (called e target)
unfolding called stacked
called_calls e target len =
    let top = latch e.cpu sp in
    let raised = with_sfr sp ((top + 2) % 256) e in
    record {
      transfer = refl;
      low = refl;
      high = refl;
      stack = latch_of raised.cpu target sp ∙ sp_written ((top + 2) % 256) e len;
    }

unfoldable pub returns_by : ReturnFrom → Flow
returns_by Subroutine = FlowRet
returns_by Interrupt = FlowReti

latch_at_end : (cpu : Cpu) (pc a : ℕ) (low high held : Bool)
    → latch (record cpu { pc = pc; low = low; high = high; held = held }) a ≡ latch cpu a
unfolding latch
latch_at_end cpu pc a low high held = refl

returned_returns : (next : ℕ) (e : Effect) (from : ReturnFrom) → length e.cpu.regs ≡ 128
    → Always (λ end. Follows (returns_by from) next (latch e.cpu sp) end) (returned e from)
unfolding returned returns_by
returned_returns next e Subroutine len = λ high low.
    let lowered = with_sfr sp ((latch e.cpu sp + 254) % 256) e in
    record {
      transfer = refl;
      stack = latch_of lowered.cpu (high * 256 + low) sp ∙ sp_written ((latch e.cpu sp + 254) % 256) e len;
    }
returned_returns next e Interrupt len = λ high low.
    let lowered = with_sfr sp ((latch e.cpu sp + 254) % 256) e in
    record {
      transfer = refl;
      stack = latch_at_end lowered.cpu (high * 256 + low) sp (lowered.cpu.high && lowered.cpu.low) false true
          ∙ sp_written ((latch e.cpu sp + 254) % 256) e len;
    }

-- the flow of an action: a branch where there is an address to which it may jump
abbrev flow_to : Option ℕ → Flow
flow_to (Some target) = Branch
flow_to None = FlowNext

abbrev pub action_flow : Action → Flow
action_flow JumpIndirect = Branch
action_flow (CallTo target) = FlowCall
action_flow (CallNear address) = FlowCall
action_flow (Return from) = returns_by from
action_flow action = flow_to (target_by action 0)

plan_flow : (image : List ℕ) (ext : Pins) (e : Effect) (action : Action) → length e.cpu.regs ≡ 128 → e.transfer ≡ Next
    → Always (λ end. Follows (action_flow action) e.cpu.pc (latch e.cpu sp) end) (plan image ext e action)
plan_flow image ext e JumpIndirect len h = inr refl
plan_flow image ext e (CallTo target) len h = called_calls e _ len
plan_flow image ext e (CallNear address) len h = called_calls e _ len
plan_flow image ext e (Return from) len h = returned_returns e.cpu.pc e from len
plan_flow image ext e action len h =
    walk (λ _. false) (λ _ end. FallsThrough e.cpu.pc end) (λ _ end. Goes (action_flow action) e.cpu.pc end) e.cpu.pc
    (λ _. MayJump (action_flow action))
    (goes_kept (action_flow action) e.cpu.pc) image ext e action refl tt (h, refl)

pub same_flow : (instr : Instr) → action_flow (action_of instr) ≡ flow_of instr
unfolding returns_by
same_flow Nop = refl
same_flow _ = refl

pub flow_is_kept : FlowIsKept
unfolding latch
flow_is_kept cpu instr image ext len =
    subst (λ flow. Always (λ e. Follows flow (next_address cpu instr) (latch cpu sp) e) (plan_of cpu instr image ext))
    (same_flow instr)
    (plan_flow image ext (started cpu instr) (action_of instr) len refl)
