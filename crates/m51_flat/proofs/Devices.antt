-- What a device that stores a register keeps, and what is on the stack after a call.
use Rattle.m51_flat.proofs.Common.{◌≡◌, ◌≢◌, ◌+◌, ◌-◌, ◌%◌, ◌≤◌, ℕ, Bool, false, length, sym, ◌∙◌, refl}
use Rattle.m51_flat.proofs.Common.{Cpu, Effect, acc, psw, sp, HasParity}
use Rattle.std.proofs.Common.{slice_set, length-set}
use Rattle.std.proofs.Common.{lit≤, arith}
use Rattle.std.proofs.lemmas.Bool.{cond_both}
use Rattle.std.specs.Prelude.{◌||◌}
use Rattle.m51_flat.specs.Sfr.{has_register, latch, with_bit, with_flag, with_latch, with_parity}
use Rattle.m51_flat.specs.Sfr.{with_sfr}
use Rattle.m51_flat.specs.Transfers.{called, stacked}
use Rattle.m51_flat.specs.DeviceLaws.{CallsAreMade, FlagsKeepTheRest, KeepsTheRest, PcIsStacked, SameControl}
use Rattle.m51_flat.specs.DeviceLaws.{StoresKeepTheRest}
use Rattle.m51_flat.proofs.Flows.{called_calls, sp_written}
use Rattle.m51_flat.proofs.Outcomes.{parity_of_right, right_of}
use Rattle.m51_flat.proofs.Parity.{called_right, sfr_right}
use Rattle.m51_flat.proofs.RegisterLaws.{apart, other}

same_parity : (old new : Cpu) → latch new psw ≡ latch old psw → latch new acc ≡ latch old acc → HasParity old
    → HasParity new
same_parity old new p a h = rw (p, a) h

keeps_itself : (a : ℕ) (cpu : Cpu) → length cpu.regs ≡ 128 → KeepsTheRest a cpu cpu
keeps_itself a cpu len = record {
  registers = len;
  control = record { pc = refl; low = refl; high = refl; held = refl };
  others = λ b low far. refl;
  parity = λ p q h. h;
}

keeps_others : (a v : ℕ) (cpu : Cpu) → length cpu.regs ≡ 128 → 128 ≤ a
    → KeepsTheRest a cpu (record cpu { regs = slice_set cpu.regs (a - 128) v })
keeps_others a v cpu len low =
    let new : Cpu = record cpu { regs = slice_set cpu.regs (a - 128) v } in
    let far : (b : ℕ) → 128 ≤ b → b ≢ a → latch new b ≡ latch cpu b = λ b h ne. other cpu a b v (apart a b low h ne) in
    record {
      registers = length-set cpu.regs (a - 128) v ∙ len;
      control = record { pc = refl; low = refl; high = refl; held = refl };
      others = far;
      parity = λ p q h. same_parity cpu new (far psw (lit≤ tt) (λ e. p (sym e))) (far acc (lit≤ tt) (λ e. q (sym e))) h;
    }

pub stores_keep_the_rest : StoresKeepTheRest
unfolding with_latch
stores_keep_the_rest cpu a v len low =
    cond_both (has_register a) _ cpu (KeepsTheRest a cpu)
    (λ yes. keeps_others a v cpu len low) (λ no. keeps_itself a cpu len)

pub flags_keep_the_rest : FlagsKeepTheRest
unfolding with_flag
flags_keep_the_rest cpu a k b len low = stores_keep_the_rest cpu a (with_bit (latch cpu a) k b) len low

held_on : (h : Bool) → (h || false || false) ≡ h
held_on h = grind arith

sp_control : (v : ℕ) (e : Effect) → SameControl e.cpu (with_sfr sp v e).cpu
unfolding with_sfr has_register
sp_control v e = record { pc = refl; low = refl; high = refl; held = held_on e.cpu.held }

sp_length : (v : ℕ) (e : Effect) → length e.cpu.regs ≡ 128 → length (with_sfr sp v e).cpu.regs ≡ 128
unfolding with_sfr has_register with_parity
sp_length v e len = length-set (slice_set e.cpu.regs 1 v) 80 _ ∙ length-set e.cpu.regs 1 v ∙ len

pub pc_is_stacked : PcIsStacked
unfolding stacked
pc_is_stacked e len =
    let v = (latch e.cpu sp + 2) % 256 in
    record {
      registers = sp_length v e len;
      control = sp_control v e;
      low = refl;
      high = refl;
      stack = sp_written v e len;
      parity = λ h. parity_of_right (with_sfr sp v e).cpu (sfr_right sp v e (right_of e.cpu len h));
    }

called_length : (e : Effect) (target : ℕ) → length e.cpu.regs ≡ 128 → length (called e target).cpu.regs ≡ 128
unfolding called stacked
called_length e target len = sp_length ((latch e.cpu sp + 2) % 256) e len

called_at : (e : Effect) (target : ℕ) → (called e target).cpu.pc ≡ target
unfolding called
called_at e target = refl

pub calls_are_made : CallsAreMade
calls_are_made e target len = record {
  call = called_calls e target len;
  jumps = called_at e target;
  registers = called_length e target len;
  parity = λ h. parity_of_right (called e target).cpu (called_right e target (right_of e.cpu len h));
}
