-- The machine cycles of a step that is performed.
use Rattle.m51_sim.proofs.Common.{◌≡◌, ℕ, ◌≤◌, Bool, true, false, ◌&&◌, List, refl, arith, Instr, Cpu, Effect, Pins}
use Rattle.m51_sim.proofs.Common.{plan_of, sp, zero, suc, ◌+◌, ◌-◌, Result, Ok, Err, Event, LayoutParts, Source}
use Rattle.m51_sim.proofs.Common.{Vectoring, Idling, Allowed, Inputs, Performed, Separate, State}
use Rattle.std.proofs.lemmas.Bool.{and_parts, cond_both, ltb-true}
use Rattle.std.specs.Prelude.{◌==◌, nat_lt, min}
use Rattle.m51_isa.specs.Table.{cycles_of}
use Rattle.m51_flat.specs.Actions.{action_of}
use Rattle.m51_flat.specs.Laws.{Always}
use Rattle.m51_flat.specs.Meaning.{started}
use Rattle.m51_flat.specs.Sfr.{has_register, sbuf, with_sfr}
use Rattle.m51_flat.specs.Transfers.{called, returned, stacked}
use Rattle.m51_flat.proofs.EveryAction.{IsKept, walk}
use Rattle.std.proofs.Common.{◌^◌}
use Rattle.m51_irq.specs.Vectoring.{vectoring}
use Rattle.m51_sim.specs.declared.attempt.Attempt.{Attempt}
use Rattle.m51_sim.specs.declared.attempt.Attempt.TheVariants.{Executing, Refusing}
use Rattle.m51_sim.specs.declared.cycles.Passing.{Passing}
use Rattle.m51_sim.specs.Cycles.{cycle_passed, cycles_passed, next_cycle}
use Rattle.m51_sim.specs.Effects.{attempt_of, changed_by, performed}
use Rattle.m51_sim.specs.SeparateMachine.{memory_after, separate_performs}
use Rattle.m51_sim.specs.StepLaws.{IsShort, StepsAreShort, Takes}
use Rattle.m51_sim.proofs.Preparing.{Any, Holds, HoldsIn, always_holds, attempted}
use Rattle.m51_isa.specs.declared.instr.Instr.TheVariants as row

-- no write of a register and no jump changes their number
module _ (n : ℕ) where
  abbrev Lasts : Bool → Effect → Type 0
  Lasts _ e = e.cycles ≡ n

  sfr_lasts : (a v : ℕ) (e : Effect) → Lasts false e → Lasts false (with_sfr a v e)
  unfolding with_sfr
  sfr_lasts a v e h =
      cond_both (a == sbuf) _ _ (Lasts false) (λ _. h)
      (λ _. cond_both (has_register a) _ e (Lasts false) (λ _. h) (λ _. h))

  lasts_kept : (next : ℕ) → IsKept (λ _. false) Lasts Lasts next (λ _. Unit {0})
  lasts_kept next = record {
    apart = (refl, refl, refl, refl, refl);
    low = λ a h. refl;
    register = sfr_lasts;
    memory = λ put e h. h;
    ends = λ b e h. h;
    jump = λ b to e j h. h;
    branch = λ b rel e j h. h;
  }

-- every effect of an instruction takes those of its row
row_takes : (cpu : Cpu) (instr : Instr) (image : List ℕ) (ext : Pins)
    → Always (λ e. e.cycles ≡ cycles_of instr) (plan_of cpu instr image ext)
unfolding called returned stacked
row_takes cpu row.JmpAtADptr image ext = refl
row_takes cpu (row.LcallAddr16 target) image ext = sfr_lasts _ sp _ (started cpu (row.LcallAddr16 target)) refl
row_takes cpu (row.AcallAddr11 address) image ext = sfr_lasts _ sp _ (started cpu (row.AcallAddr11 address)) refl
row_takes cpu row.Ret image ext = λ high low. sfr_lasts _ sp _ (started cpu row.Ret) refl
row_takes cpu row.Reti image ext = λ high low. sfr_lasts _ sp _ (started cpu row.Reti) refl
row_takes cpu instr image ext =
    let e = started cpu instr in
    walk (λ _. false) (Lasts e.cycles) (Lasts e.cycles) e.cpu.pc (λ _. Unit {0}) (lasts_kept e.cycles e.cpu.pc) image
    ext e (action_of instr) refl tt refl

-- which are one to four
short_row : (instr : Instr) → (nat_lt 0 (cycles_of instr) && nat_lt (cycles_of instr) 5) ≡ true
short_row row.Nop = refl
short_row _ = refl

row_some : (instr : Instr) → 1 ≤ cycles_of instr
row_some instr = ltb-true 0 _ (and_parts _ (nat_lt (cycles_of instr) 5) (short_row instr)).0

row_few : (instr : Instr) → cycles_of instr ≤ 4
row_few instr = omega (arith, ltb-true _ 5 (and_parts (nat_lt 0 (cycles_of instr)) _ (short_row instr)).1)

-- a machine cycle counts one
pub one_counts : (inputs : Inputs) (p : Passing) → (cycle_passed inputs p).cycle ≡ next_cycle p.cycle
unfolding cycle_passed
one_counts inputs p = refl

-- each cycle that passes is counted
some_count : (inputs : Inputs) (count : ℕ) (p : Passing) → 1 ≤ count
    → (cycles_passed inputs count p).cycle ≡ min (p.cycle + count) (2 ^ 64 - 1)
unfolding cycles_passed
some_count inputs zero p some = absurd (omega (arith, some))
some_count inputs (suc zero) p some = one_counts inputs p
some_count inputs (suc (suc more)) p some =
    let before = some_count inputs (suc more) p (omega arith) in
    omega (arith, one_counts inputs (cycles_passed inputs (suc more) p), before)

vectoring_takes : (cpu : Cpu) (source : Source) → (vectoring cpu source).cycles ≡ 2
unfolding vectoring stacked with_sfr has_register
vectoring_takes cpu source = refl

-- an attempt that is performed takes one to four cycles
few : (t : Attempt) (n : ℕ) → Takes t n → (1 ≤ n) × (n ≤ 4)
few (Vectoring source) n is = (omega (arith, is), omega (arith, is))
few Idling n is = (omega (arith, is), omega (arith, is))
few (Executing instr) n is = (omega (arith, is, row_some instr), omega (arith, is, row_few instr))
few Refusing n is = absurd is

module _ (l : LayoutParts) (image : List ℕ) (inputs : Inputs) (s : State Separate) where
  takes : (t : Attempt) → HoldsIn (λ e. Takes t e.cycles) Any l s.cpu s.memory image (inputs.pins s.cycle) t
  takes (Vectoring source) = vectoring_takes s.cpu source
  takes Idling = refl
  takes (Executing instr) =
      always_holds _ l s.cpu s.memory image _ instr (row_takes s.cpu instr image (inputs.pins s.cycle))
  takes Refusing = tt

  short_by : (r : Result Allowed Event) (done : Performed Separate)
      → Holds (λ e. Takes (attempt_of image s.cpu) e.cycles) Any r → separate_performs l inputs s r ≡ Ok done
      → IsShort image s done.state
  short_by (Ok a) done c h =
      let e = a.effect in
      let n = few (attempt_of image s.cpu) e.cycles c in
      let is : performed inputs s e (memory_after l s.memory a) ≡ done = cc h in
      rw (← is) (record {
        count = e.cycles;
        takes = c;
        some = n.0;
        few = n.1;
        cycle = some_count inputs e.cycles (changed_by s.cycle s.periph e) n.0;
      })
  short_by (Err event) done c h = cc h

pub steps_short : StepsAreShort
steps_short l image inputs s done h =
    let t = attempt_of image s.cpu in
    short_by l image inputs s _ done
    (attempted _ _ l s.cpu s.memory image (inputs.pins s.cycle) t (takes l image inputs s t)) h
