-- A plain instruction keeps every register but A, B, PSW, SP and DPTR, as a vectoring does after its acknowledgement.
use Rattle.m51_sim.proofs.Common.{◌≡◌, ℕ, ◌-◌, ◌<◌, ◌≤◌, Bool, true, false, cond, List, [], ◌∷◌, None, Ok}
use Rattle.m51_sim.proofs.Common.{Err, refl, sym, ap, subst, ◌∙◌, arith, ◌&&◌, Event, Instr, LayoutParts, Cpu, Effect}
use Rattle.m51_sim.proofs.Common.{Pins, plan_of, CellMap, sp, Allowed, Separate, if◌then◌else◌, flag, Source}
use Rattle.std.proofs.Common.{◌≢◌, inl, inr}
use Rattle.std.proofs.lemmas.Bool.{cases_lt, cond_both, eqb-true, leb-true}
use Rattle.std.proofs.lemmas.Bool.Decides.{nat_tests}
use Rattle.std.proofs.lemmas.List.{get_or-set_other}
use Rattle.std.specs.Option.{option_or}
use Rattle.std.specs.Prelude.{◌==◌, map, nat_le, slice_set}
use Rattle.m51_isa.specs.declared.instr.Instr.TheVariants as row
use Rattle.m51_isa.specs.declared.instr.Written.{Written}
use Rattle.m51_isa.specs.Changes.{written_of}
use Rattle.m51_cells.proofs.Passing.{same_Ok}
use Rattle.m51_sfr.specs.Manual.{Printed, manual}
use Rattle.m51_flat.specs.declared.state.Put.{Put}
use Rattle.m51_flat.specs.declared.state.Transfer.{Transfer}
use Rattle.m51_flat.specs.Actions.{action_of}
use Rattle.m51_flat.specs.LevelLaws.{is_written}
use Rattle.m51_flat.specs.Laws.{Always}
use Rattle.m51_flat.specs.Meaning.{started}
use Rattle.m51_flat.specs.Parts.{jumped}
use Rattle.m51_flat.specs.Reads.{Ends, Read, Reads, result_over}
use Rattle.m51_flat.specs.Sfr.{has_register, is_one_of, latch, port_of, psw, sbuf, with_parity}
use Rattle.m51_flat.specs.Sfr.{with_sfr}
use Rattle.m51_flat.specs.Transfers.{called, returned, stacked}
use Rattle.m51_flat.proofs.EveryAction.{IsKept, same_written, walk, written_by}
use Rattle.m51_flat.proofs.RegisterLaws.{apart}
use Rattle.m51_sim.specs.declared.attempt.Attempt.{Attempt}
use Rattle.m51_sim.specs.declared.attempt.Attempt.TheVariants.{Executing, Vectoring}
use Rattle.m51_sim.specs.Effects.{attempt_of, instr_at}
use Rattle.m51_sim.specs.FlatMachine.{flat_effect, instr_effect}
use Rattle.m51_irq.specs.Vectoring.{interrupted, vectoring}
use Rattle.m51_sim.specs.Plain.{KeepsDevices, KeepsOthers, is_other, is_plain, is_plain_step, leaves_others}
use Rattle.m51_sim.specs.SeparateMachine.{separate_effect}
use Rattle.m51_sim.proofs.Taken.{others_keep, taken_keeps}
use Rattle.m51_sim.proofs.Preparing.{Any, Holds, always_holds, attempt_tells, attempted}

-- an address below 80H is that of no register
abbrev all_high : List ℕ → Bool
all_high [] = true
all_high (x ∷ xs) = nat_le 128 x && all_high xs

none_below : (a : ℕ) (xs : List ℕ) → a < 128 → all_high xs ≡ true → is_one_of xs a ≡ false
none_below a [] l h = refl
none_below a (x ∷ xs) l h = grind (arith, nat_tests, none_below a xs)

low_none : (a : ℕ) → a < 128 → has_register a ≡ false
unfolding has_register
low_none a l = none_below a (map (λ (p : Printed). p.address) manual) l refl

high_there : (a : ℕ) → has_register a ≡ true → 128 ≤ a
high_there a h = elim (cases_lt a 128) [
  | inl l ↦ absurd (cc (low_none a l))
  | inr g ↦ g
]

low_own : (a : ℕ) → a < 128 → is_other a ≡ false
low_own a l = grind (arith, nat_tests)

differs : (a b : ℕ) → is_other a ≡ false → is_other b ≡ true → a ≢ b
differs a b h k e = let t : true ≡ false = sym k ∙ ap is_other (sym e) ∙ h in cc t

no_port : (a : ℕ) → is_other a ≡ false → port_of a ≡ None
unfolding port_of
no_port a h = grind (arith, nat_tests)

-- another register, where one that a program has for itself is written, and the parity set
other_stays : (cpu : Cpu) (a b v : ℕ) (held : Bool) → 128 ≤ a → 128 ≤ b → is_other a ≡ false → is_other b ≡ true
    → latch (record cpu { regs = with_parity (slice_set cpu.regs (a - 128) v); held = held }) b ≡ latch cpu b
unfolding latch with_parity
other_stays cpu a b v held la lb own other =
    let far : b - 128 ≢ psw - 128 = apart psw b (leb-true 128 psw refl) lb (λ e. differs psw b refl other (sym e)) in
    let near : b - 128 ≢ a - 128 = apart a b la lb (λ e. differs a b own other (sym e)) in
    ap (λ x. cond (has_register b) x 0)
    (get_or-set_other (slice_set cpu.regs (a - 128) v) (psw - 128) (b - 128) _ 0 far
    ∙ get_or-set_other cpu.regs (a - 128) (b - 128) v 0 near)

module _ (old : Cpu) where
  -- nothing is said where another register was written
  abbrev Keeps : Bool → Effect → Type 0
  Keeps true e = Unit {0}
  Keeps false e = KeepsOthers old e

  own_written : (a v : ℕ) (e : Effect) → is_other a ≡ false → KeepsOthers old e → KeepsOthers old (with_sfr a v e)
  unfolding with_sfr
  own_written a v e own h =
      cond_both (a == sbuf) _ _ (KeepsOthers old)
      (λ is. absurd (differs a sbuf own refl (eqb-true a sbuf is)))
      (λ no. cond_both (has_register a) _ e (KeepsOthers old)
      (λ there. record {
        registers = λ b lb other.
            other_stays e.cpu a b v _ (high_there a there) lb own other ∙ h.registers b lb other;
        line = h.line;
        port = ap (λ k. option_or k e.port) (no_port a own) ∙ h.port;
      })
      (λ none. h))

  written_by_bool : (b : Bool) (a v : ℕ) (e : Effect) → is_other a ≡ b → KeepsOthers old e → Keeps b (with_sfr a v e)
  written_by_bool true a v e p h = tt
  written_by_bool false a v e p h = own_written a v e p h

  -- registers depend on nothing else
  alone_keeps : (e : Effect) (pc : ℕ) (low high held : Bool) (first second : Put) (t : Transfer) → KeepsOthers old e
      → KeepsOthers old (record e {
        cpu = record e.cpu { pc = pc; low = low; high = high; held = held };
        first = first;
        second = second;
        transfer = t;
      })
  unfolding latch
  alone_keeps e pc low high held first second t h =
      record { registers = h.registers; line = h.line; port = h.port }

  jumped_keeps : (b : Bool) (to : ℕ) (t : Transfer) (e : Effect) → Keeps b e → Keeps b (jumped to t e)
  jumped_keeps true to t e h = tt
  jumped_keeps false to t e h = alone_keeps e _ _ _ _ _ _ _ h

  others_kept : (n : ℕ) → IsKept is_other Keeps Keeps n (λ _. Unit {0})
  others_kept n = record {
    apart = (refl, refl, refl, refl, refl);
    low = low_own;
    register = λ a v e h. written_by_bool (is_other a) a v e refl h;
    memory = λ put e h. alone_keeps e _ _ _ _ put _ _ h;
    ends = λ b e h. h;
    jump = λ b to e j h. jumped_keeps b to _ e h;
    branch = λ b rel e j h. jumped_keeps b _ _ e h;
  }

  begun : (instr : Instr) → KeepsOthers old (started old instr)
  unfolding latch
  begun instr = record { registers = λ a least other. refl; line = refl; port = refl }

  instr_keeps : (image : List ℕ) (ext : Pins) (instr : Instr)
      → Always (λ end. Keeps (is_written is_other (started old instr).cpu (written_by (action_of instr))) end)
      (plan_of old instr image ext)
  unfolding called returned stacked
  instr_keeps image ext row.JmpAtADptr = jumped_keeps false _ _ (started old row.JmpAtADptr) (begun row.JmpAtADptr)
  instr_keeps image ext (row.LcallAddr16 target) =
      alone_keeps _ _ _ _ _ _ _ _ (own_written sp _ _ refl (begun (row.LcallAddr16 target)))
  instr_keeps image ext (row.AcallAddr11 address) =
      alone_keeps _ _ _ _ _ _ _ _ (own_written sp _ _ refl (begun (row.AcallAddr11 address)))
  instr_keeps image ext row.Ret = λ high low. alone_keeps _ _ _ _ _ _ _ _ (own_written sp _ _ refl (begun row.Ret))
  instr_keeps image ext row.Reti = λ high low. alone_keeps _ _ _ _ _ _ _ _ (own_written sp _ _ refl (begun row.Reti))
  instr_keeps image ext instr =
      walk is_other Keeps Keeps (started old instr).cpu.pc (λ _. Unit {0}) (others_kept (started old instr).cpu.pc)
      image ext (started old instr) (action_of instr) refl tt (begun instr)

-- what is written at the address of an operand
none_written : (cpu : Cpu) (w : Written) → leaves_others w ≡ true → is_written is_other cpu w ≡ false
none_written cpu w h = grind arith

plain_keeps : (cpu : Cpu) (instr : Instr) (image : List ℕ) (ext : Pins) → leaves_others (written_of instr) ≡ true
    → Always (λ e. KeepsOthers cpu e) (plan_of cpu instr image ext)
plain_keeps cpu instr image ext plain =
    let e = started cpu instr in
    let none = ap (is_written is_other e.cpu) (same_written instr) ∙ none_written e.cpu (written_of instr) plain in
    subst (λ b. Always (λ end. Keeps cpu b end) (plan_of cpu instr image ext)) none (instr_keeps cpu image ext instr)

always_result : (P : Effect → Type 0) (m : CellMap) (p : Reads Effect) → Always P p → P (result_over m p)
always_result P m (Ends e) h = h
always_result P m (Read x go) h = always_result P m (go _) (h _)

unless_event : (b : Bool) (event : Event) (e r : Effect) → Ok e ≡ (if b then Err event else Ok r) → r ≡ e
unless_event true event e r h = cc h
unless_event false event e r h = cc h

pub plain_step : (image : List ℕ) (cpu : Cpu) (instr : Instr) → attempt_of image cpu ≡ Executing instr
    → is_plain (instr_at image cpu.pc) ≡ true → is_plain_step (attempt_of image cpu) ≡ true
plain_step image cpu instr h plain = rw h (rw (rw h at (attempt_tells image cpu)) at plain)

vectoring_keeps : (cpu : Cpu) (s : Source) → KeepsDevices cpu (vectoring cpu s)
unfolding vectoring stacked
vectoring_keeps cpu s =
    let e = interrupted cpu s in
    taken_keeps cpu s _
    (alone_keeps e.cpu _ _ _ _ _ _ _ _
    (own_written e.cpu sp _ e refl (record { registers = λ a least other. refl; line = refl; port = refl })))

-- the effect of a plain step of the flat machine, and of the separate one
pub flat_keeps : (image : List ℕ) (cpu : Cpu) (m : CellMap) (pins : Pins) (attempt : Attempt) {e : Effect}
    → is_plain_step attempt ≡ true → Ok e ≡ flat_effect image cpu m pins attempt → KeepsDevices cpu e
unfolding flat_effect instr_effect
flat_keeps image cpu m pins (Executing instr) {e} plain is =
    let r = result_over m (plan_of cpu instr image pins) in
    others_keep cpu e (subst (KeepsOthers cpu) (unless_event (flag r.cpu 135 1) _ e r is)
    (always_result (KeepsOthers cpu) m (plan_of cpu instr image pins) (plain_keeps cpu instr image pins plain)))
flat_keeps image cpu m pins (Vectoring source) {e} plain is =
    rw (same_Ok {A = Effect} {E = Event} e (vectoring cpu source) is) (vectoring_keeps cpu source)
flat_keeps image cpu m pins _ plain is = cc plain

pub separate_keeps : (l : LayoutParts) (image : List ℕ) (cpu : Cpu) (m : Separate) (pins : Pins) (attempt : Attempt)
    {a : Allowed}
    → is_plain_step attempt ≡ true → Ok a ≡ separate_effect l image cpu m pins attempt → KeepsDevices cpu a.effect
separate_keeps l image cpu m pins (Executing instr) {a} plain is =
    others_keep cpu a.effect (subst (Holds (KeepsOthers cpu) Any) (sym is)
    (attempted (KeepsOthers cpu) Any l cpu m image pins (Executing instr)
    (always_holds _ l cpu m image pins instr (plain_keeps cpu instr image pins plain))))
separate_keeps l image cpu m pins (Vectoring source) plain is =
    subst (Holds (KeepsDevices cpu) Any) (sym is)
    (attempted (KeepsDevices cpu) Any l cpu m image pins (Vectoring source) (vectoring_keeps cpu source))
separate_keeps l image cpu m pins _ plain is = cc plain
