-- Every action but the return from an interrupt keeps both levels in progress, and holds interrupts off where it writes
-- IE or IP.
use Rattle.m51_flat.proofs.Common.{◌≡◌, ℕ, Bool, true, false, List, refl, subst, sym, ap, ◌∙◌, ◌<◌, arith, ◌==◌}
use Rattle.m51_flat.proofs.Common.{◌&&◌, Cpu, Pins, Effect, ReturnFrom, Subroutine, Interrupt, Action, JumpIndirect}
use Rattle.m51_flat.proofs.Common.{CallTo, CallNear, Return, Reads, sbuf, sp, action_of, plan, plan_of, started, Always}
use Rattle.std.proofs.lemmas.Bool.{eqb-true, ne_eqb}
use Rattle.std.specs.Prelude.{◌+◌, ◌%◌, ◌||◌}
use Rattle.m51_flat.specs.Sfr.{flag, has_register, ie, ip, latch, with_sfr}
use Rattle.m51_flat.specs.Transfers.{called, returned, stacked}
use Rattle.m51_flat.specs.LevelLaws.{KeepsLevels, LevelsAreKept, LevelsFollow, holds_off, is_written, writes_ie_or_ip}
use Rattle.m51_flat.proofs.EveryAction.{IsKept, one_of, same_written, walk, written_by}
use Rattle.m51_flat.proofs.Flows.{action_flow, returns_by, same_flow}

same_held : (h b c : Bool) → (b || c) ≡ false → (h || b || c) ≡ h
same_held h b c e = grind arith

-- one of the two registers is meant, or neither
by_register : (X : Bool → Type 0) (b c : Bool) → (b ≡ true → X (true || c)) → (c ≡ true → X (b || true))
    → ((b || c) ≡ false → X false) → X (b || c)
by_register X true c f g h = f refl
by_register X false true f g h = g refl
by_register X false false f g h = h refl

-- an address of internal RAM is no register
low_holds : (a : ℕ) → a < 128 → holds_off a ≡ false
low_holds a h = ap (λ b. b || a == ip) (ne_eqb a ie (λ e. omega (arith, h, e))) ∙ ne_eqb a ip (λ e. omega (arith, h, e))

module _ (old : Cpu) where
  abbrev Keeps : Bool → Effect → Type 0
  Keeps w e = KeepsLevels w old e

  plain_keeps : (w : Bool) (a v : ℕ) (e : Effect) → holds_off a ≡ false → Keeps w e → Keeps w (with_sfr a v e)
  unfolding with_sfr
  plain_keeps w a v e p h =
      one_of (Keeps w) (a == sbuf) (has_register a) _ _ e
      (record { low = h.low; high = h.high; held = h.held })
      (record { low = h.low; high = h.high; held = same_held e.cpu.held (a == ie) (a == ip) p ∙ h.held })
      h

  ie_written : (v : ℕ) (e : Effect) → Keeps false e → Keeps true (with_sfr ie v e)
  unfolding with_sfr has_register
  ie_written v e h = record { low = h.low; high = h.high; held = ap (λ b. b || true || false) h.held }

  ip_written : (v : ℕ) (e : Effect) → Keeps false e → Keeps true (with_sfr ip v e)
  unfolding with_sfr has_register
  ip_written v e h = record { low = h.low; high = h.high; held = ap (λ b. b || false || true) h.held }

  sfr_written : (a v : ℕ) (e : Effect) → Keeps false e → Keeps (holds_off a) (with_sfr a v e)
  sfr_written a v e h =
      by_register (λ b. Keeps b (with_sfr a v e)) (a == ie) (a == ip)
      (λ is. subst (λ n. Keeps true (with_sfr n v e)) (sym (eqb-true a ie is)) (ie_written v e h))
      (λ is. subst (λ n. Keeps (n == ie || true) (with_sfr n v e)) (sym (eqb-true a ip is)) (ip_written v e h))
      (λ none. plain_keeps false a v e none h)

  levels_kept : (n : ℕ) → IsKept holds_off Keeps Keeps n (λ _. Unit {0})
  levels_kept n = record {
    apart = (refl, refl, refl, refl, refl);
    low = low_holds;
    register = sfr_written;
    memory = λ put e h. record { low = h.low; high = h.high; held = h.held };
    ends = λ b e h. h;
    jump = λ b to e j h. record { low = h.low; high = h.high; held = h.held };
    branch = λ b rel e j h. record { low = h.low; high = h.high; held = h.held };
  }

  called_keeps : (e : Effect) (target : ℕ) → Keeps false e → Keeps false (called e target)
  unfolding called stacked
  called_keeps e target h =
      let s = plain_keeps false sp ((latch e.cpu sp + 2) % 256) e refl h in
      record { low = s.low; high = s.high; held = s.held }

  returned_levels : (e : Effect) (from : ReturnFrom) → Keeps false e
      → Always (λ end. LevelsFollow (returns_by from) false old end) (returned e from)
  unfolding returned returns_by
  returned_levels e Subroutine h = λ high low.
      let s = plain_keeps false sp ((latch e.cpu sp + 254) % 256) e refl h in
      record { low = s.low; high = s.high; held = s.held }
  returned_levels e Interrupt h = λ high low.
      let s = plain_keeps false sp ((latch e.cpu sp + 254) % 256) e refl h in
      record {
        low = ap (λ h. h && (with_sfr sp ((latch e.cpu sp + 254) % 256) e).cpu.low) s.high
            ∙ ap (λ l. old.high && l) s.low;
        high = refl;
        held = refl;
      }

  plan_levels : (image : List ℕ) (ext : Pins) (e : Effect) (action : Action) → Keeps false e
      → Always (λ end. LevelsFollow (action_flow action) (is_written holds_off e.cpu (written_by action)) old end)
      (plan image ext e action)
  plan_levels image ext e JumpIndirect h = record { low = h.low; high = h.high; held = h.held }
  plan_levels image ext e (CallTo target) h = called_keeps e _ h
  plan_levels image ext e (CallNear address) h = called_keeps e _ h
  plan_levels image ext e (Return from) h = returned_levels e from h
  plan_levels image ext e action h =
      walk holds_off Keeps Keeps e.cpu.pc (λ _. Unit {0}) (levels_kept e.cpu.pc) image ext e action refl tt h

-- the levels of interrupts follow the flow, whatever an instruction reads
pub levels_are_kept : LevelsAreKept
unfolding flag latch
levels_are_kept cpu instr image ext =
    let action = action_of instr in
    let p : Reads Effect = plan_of cpu instr image ext in
    subst (λ flow. Always (λ e. LevelsFollow flow (writes_ie_or_ip cpu instr) cpu e) p) (same_flow instr)
    (subst (λ w. Always (λ e. LevelsFollow (action_flow action) (is_written holds_off cpu w) cpu e) p)
    (same_written instr)
    (plan_levels cpu image ext (started cpu instr) action (record { low = refl; high = refl; held = refl })))
