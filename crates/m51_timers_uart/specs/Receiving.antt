-- Receiving on the serial line, from the family manual.
use Rattle.std.specs.Prelude.{Bool, true, not, ◌&&◌, ◌||◌, ◌==◌, if◌then◌else◌, List, [], ◌∷◌}
use Rattle.m51_flat.specs.declared.state.Cpu.{Cpu}
use Rattle.m51_flat.specs.Sfr.{flag, with_flag, with_latch, sbuf, scon}
use Rattle.m51_timers_uart.specs.declared.receiving.Frame.{Frame}
use Rattle.m51_flat.specs.Flags.{rb8, ren, ri, sm2}
use Rattle.m51_timers_uart.specs.Sending.{serial_mode}

-- a frame is taken where REN is 1, RI is 0 and, in modes 1 to 3, SM2 is 0 or its ninth bit is 1
unfoldable pub takes_frame : Cpu → Frame → Bool
takes_frame cpu f =
    flag cpu scon ren && not (flag cpu scon ri)
    && (serial_mode cpu == 0 || not (flag cpu scon sm2) || f.ninth)

-- in modes 1 to 3 RB8 is the ninth bit, in mode 1 the stop bit
unfoldable pub with_ninth : Bool → Cpu → Cpu
with_ninth bit cpu = if serial_mode cpu == 0 then cpu else with_flag cpu scon rb8 bit

-- SBUF reads as the byte and RI is set
abbrev pub taken : Frame → Cpu → Cpu
taken f cpu = with_ninth f.ninth (with_flag (with_latch cpu sbuf f.byte) scon ri true)

-- a frame that is not taken is lost
unfoldable pub frame_met : Frame → Cpu → Cpu
frame_met f cpu = if takes_frame cpu f then taken f cpu else cpu

-- frames one after another
abbrev pub received : List Frame → Cpu → Cpu
received [] cpu = cpu
received (f ∷ fs) cpu = received fs (frame_met f cpu)
