-- Sending on the serial line, from the family manual.
use Rattle.std.specs.Prelude.{ℕ, ◌+◌, ◌-◌, ◌*◌, Bool, true, ◌||◌, ◌==◌, nat_le, if◌then◌else◌, Option, Some, None}
use Rattle.m51_alu.specs.Arithmetic.{bit_of}
use Rattle.m51_flat.specs.declared.state.Cpu.{Cpu}
use Rattle.m51_flat.specs.Sfr.{flag, with_flag, pcon, scon, t2con}
use Rattle.m51_timers_uart.specs.declared.periph.Periph.{Periph}
use Rattle.m51_timers_uart.specs.declared.periph.Sent.{Sent}
use Rattle.m51_flat.specs.Flags.{sm0, sm1, smod, tb8, tclk, ti}

-- the mode of the serial line
unfoldable pub serial_mode : Cpu → ℕ
serial_mode cpu = 2 * bit_of (flag cpu scon sm0) + bit_of (flag cpu scon sm1)

-- in modes 2 and 3 a ninth bit goes with the byte
abbrev pub has_ninth : ℕ → Bool
has_ninth mode = mode == 2 || mode == 3

-- the bit times of a byte in modes 0, 1, 2 and 3
abbrev pub bit_times : ℕ → ℕ
bit_times mode = if mode == 0 then 8 else (if mode == 1 then 9 else 10)

-- a write to SBUF: a byte begins, and one that is not finished is lost
unfoldable pub begun : Cpu → ℕ → Periph → Periph
begun cpu byte p = record p {
  mode = serial_mode cpu;
  byte = byte;
  ninth = if has_ninth (serial_mode cpu) then Some (flag cpu scon tb8) else None;
  left = bit_times (serial_mode cpu);
  count = 0;
}

-- what `count` grows by in modes 1 to 3: the twelve oscillator periods of a cycle in mode 2, else the overflows in
-- this tick of the timer that gives the rate
unfoldable pub growth : Cpu → ℕ → Bool → ℕ → ℕ
growth cpu mode timer1 timer2 =
    if mode == 2 then 12 else (if flag cpu t2con tclk then timer2 else bit_of timer1)

-- a number, or half of it with SMOD
abbrev pub by_smod : Cpu → ℕ → ℕ → ℕ
by_smod cpu full half = if flag cpu pcon smod then half else full

-- what a bit time takes in modes 1 to 3: oscillator periods in mode 2, else overflows
unfoldable pub bit_time : Cpu → ℕ → ℕ
bit_time cpu mode =
    if mode == 2 then by_smod cpu 64 32 else (if flag cpu t2con tclk then 16 else by_smod cpu 32 16)

-- where `count` reaches what a bit time takes, one bit time passes and that number is taken off
unfoldable pub clocked : ℕ → ℕ → Periph → Periph
clocked grown takes p =
    if nat_le takes (p.count + grown) then record p { left = p.left - 1; count = p.count + grown - takes }
    else record p { count = p.count + grown }

-- a tick of a byte on its way: in mode 0 one bit time passes
unfoldable pub moved : Cpu → Bool → ℕ → Periph → Periph
moved cpu timer1 timer2 p =
    if p.mode == 0 then record p { left = p.left - 1 }
    else clocked (growth cpu p.mode timer1 timer2) (bit_time cpu p.mode) p

-- the processor and the line after a tick, and the byte that was sent
pub record Ticked : Type 0 where
  pub cpu : Cpu
  pub periph : Periph
  pub sent : Option Sent

-- when no bit time is left, TI is set and the byte is sent
abbrev pub sent_at_end : Cpu → Periph → Ticked
sent_at_end cpu p =
    if p.left == 0
    then record {
      cpu = with_flag cpu scon ti true;
      periph = p;
      sent = Some (record { byte = p.byte; ninth = p.ninth });
    }
    else record { cpu = cpu; periph = p; sent = None }

unfoldable pub sending_ticked : Bool → ℕ → Cpu → Periph → Ticked
sending_ticked timer1 timer2 cpu p =
    if p.left == 0 then record { cpu = cpu; periph = p; sent = None } else sent_at_end cpu (moved cpu timer1 timer2 p)
