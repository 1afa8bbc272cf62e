-- What an acknowledgement keeps.
use Rattle.std.proofs.Common.{◌≡◌, ℕ, Bool, true, false, length, length-set, refl, ◌∙◌, arith, lit≤}
use Rattle.std.specs.Prelude.{not, ◌&&◌, ◌==◌, nat_le}
use Rattle.std.proofs.lemmas.Bool.{cond_both}
use Rattle.std.proofs.lemmas.Bool.Decides.{nat_tests}
use Rattle.m51_flat.specs.declared.state.Cpu.{Cpu}
use Rattle.m51_flat.specs.declared.state.Source.{Source}
use Rattle.m51_flat.specs.declared.state.Source.TheVariants.{Ie0, Tf0, Ie1, Tf1, Serial, Timer2}
use Rattle.m51_flat.specs.Flags.{idl, ie0, ie1, it0, it1, tf0, tf1}
use Rattle.m51_flat.specs.Laws.{HasParity}
use Rattle.m51_flat.specs.Sfr.{acc, flag, has_register, latch, pcon, psw, sp, tcon, with_flag, with_latch}
use Rattle.m51_flat.proofs.Devices.{flags_keep_the_rest}
use Rattle.m51_flat.specs.declared.state.Level.{Level}
use Rattle.m51_flat.specs.declared.state.Level.TheVariants.{Low, High}
use Rattle.m51_irq.specs.Sources.{level_of}
use Rattle.m51_irq.specs.Vectoring.{acknowledged, cleared, edge_cleared, entered}

-- the levels in progress and the number of registers stay, whatever that number is
pub record HasShape (old new : Cpu) : Type 0 where
  pub low : new.low ≡ old.low
  pub high : new.high ≡ old.high
  pub len : length new.regs ≡ length old.regs

-- of 128 registers, SP and the parity stay, and so does PC
pub record IsKept (old new : Cpu) : Type 0 where
  pub pc : new.pc ≡ old.pc
  pub stack : latch new sp ≡ latch old sp
  pub len : length new.regs ≡ 128
  pub parity : HasParity old → HasParity new

record Keeps (old new : Cpu) : Type 0 where
  shape : HasShape old new
  kept : length old.regs ≡ 128 → IsKept old new

itself : (cpu : Cpu) → Keeps cpu cpu
itself cpu = record {
  shape = record { low = refl; high = refl; len = refl };
  kept = λ n. record { pc = refl; stack = refl; len = n; parity = λ h. h };
}

twice : {a b c : Cpu} → Keeps a b → Keeps b c → Keeps a c
twice h k =
    let one = h.shape in
    let two = k.shape in
    record {
      shape = record { low = two.low ∙ one.low; high = two.high ∙ one.high; len = two.len ∙ one.len };
      kept = λ n.
          let first = h.kept n in
          let second = k.kept first.len in
          record {
            pc = second.pc ∙ first.pc;
            stack = second.stack ∙ first.stack;
            len = second.len;
            parity = λ p. second.parity (first.parity p);
          };
    }

flag_shape : (a k : ℕ) (b : Bool) (cpu : Cpu) → HasShape cpu (with_flag cpu a k b)
unfolding with_flag with_latch
flag_shape a k b cpu =
    cond_both (has_register a) _ cpu (HasShape cpu)
    (λ e. record { low = refl; high = refl; len = length-set cpu.regs _ _ }) (λ e. (itself cpu).shape)

-- a register that is none of PSW, ACC and SP
flag_keeps : (a k : ℕ) (b : Bool) (cpu : Cpu)
    → (nat_le 128 a && not (a == psw) && not (a == acc) && not (a == sp)) ≡ true → Keeps cpu (with_flag cpu a k b)
flag_keeps a k b cpu h = record {
  shape = flag_shape a k b cpu;
  kept = λ len.
      let rest = flags_keep_the_rest cpu a k b len (grind (arith, nat_tests, h)) in
      record {
        pc = rest.control.pc;
        stack = rest.others sp (lit≤ tt) (λ e. grind (arith, nat_tests, h, e));
        len = rest.registers;
        parity = rest.parity (λ e. grind (arith, nat_tests, h, e)) (λ e. grind (arith, nat_tests, h, e));
      };
}

edge_keeps : (k edge : ℕ) (cpu : Cpu) → Keeps cpu (edge_cleared k edge cpu)
edge_keeps k edge cpu =
    cond_both (flag cpu tcon edge) _ cpu (Keeps cpu) (λ e. flag_keeps tcon k false cpu refl) (λ e. itself cpu)

cleared_keeps : (s : Source) (cpu : Cpu) → Keeps cpu (cleared s cpu)
unfolding cleared
cleared_keeps Ie0 cpu = edge_keeps ie0 it0 cpu
cleared_keeps Tf0 cpu = flag_keeps tcon tf0 false cpu refl
cleared_keeps Ie1 cpu = edge_keeps ie1 it1 cpu
cleared_keeps Tf1 cpu = flag_keeps tcon tf1 false cpu refl
cleared_keeps Serial cpu = itself cpu
cleared_keeps Timer2 cpu = itself cpu

-- before its level is entered, an acknowledgement keeps them
before_entry : (s : Source) (cpu : Cpu) → Keeps cpu (with_flag (cleared s cpu) pcon idl false)
before_entry s cpu = twice (cleared_keeps s cpu) (flag_keeps pcon idl false (cleared s cpu) refl)

pub shape_before : (s : Source) (cpu : Cpu) → HasShape cpu (with_flag (cleared s cpu) pcon idl false)
shape_before s cpu = (before_entry s cpu).shape

-- and the number of registers to its end
length_entered : (l : Level) (cpu : Cpu) → length (entered l cpu).regs ≡ length cpu.regs
length_entered Low cpu = refl
length_entered High cpu = refl

pub length_acknowledged : (s : Source) (cpu : Cpu) → length (acknowledged s cpu).regs ≡ length cpu.regs
length_acknowledged s cpu = length_entered (level_of cpu s) _ ∙ (shape_before s cpu).len

entered_kept : (l : Level) (old cpu : Cpu) (held : Bool) → IsKept old cpu
    → IsKept old (record (entered l cpu) { held = held })
unfolding latch
entered_kept Low old cpu held k = record { pc = k.pc; stack = k.stack; len = k.len; parity = k.parity }
entered_kept High old cpu held k = record { pc = k.pc; stack = k.stack; len = k.len; parity = k.parity }

-- the whole of it keeps PC, SP and the parity
pub acknowledged_kept : (s : Source) (cpu : Cpu) → length cpu.regs ≡ 128
    → IsKept cpu (record (acknowledged s cpu) { held = false })
acknowledged_kept s cpu len = entered_kept (level_of cpu s) cpu _ false ((before_entry s cpu).kept len)
