-- What is read when no line is left.
use Rattle.std.proofs.Common.{◌≡◌, ℕ, ◌≤◌, true, List, [], Result, Ok, refl, sym, ◌∙◌, arith}
use Rattle.std.specs.Str.Lines.{lines as lines_of}
use Rattle.m51_script.specs.declared.error.ScriptError.{ScriptError}
use Rattle.m51_timers_uart.specs.declared.receiving.Frame.{Frame}
use Rattle.m51_script.specs.declared.pin_lines.Change.{Change}
use Rattle.m51_script.specs.declared.reading.Reading.{Reading}
use Rattle.m51_script.specs.declared.script.Script.{Script}
use Rattle.m51_script.specs.Reading.{IsRead, script_from}
use Rattle.m51_script.specs.Timing.{with_timed_line, IsTimed}
use Rattle.m51_script.proofs.TimedLaws.{ascends_up, timed_push}

pub all_read : (number : ℕ) (r : Reading) (rest : List ℕ) (whole : Result Script ScriptError) → rest ≡ []
    → script_from number r (lines_of rest) ≡ whole → whole ≡ Ok r.script
all_read number r rest whole is h = sym h ∙ rw is refl

-- lines stay in order up to a later cycle
pub timed_up : {A : Type 0} (high top : ℕ) (cycles : List ℕ) (items : List A) → IsTimed high cycles items → high ≤ top
    → IsTimed top cycles items
timed_up high top cycles items t le = record { ascends = ascends_up 0 high top cycles t.ascends le; same = t.same }

-- one more PIN line
pub pin_kept : (r : Reading) (s : Script) (cycle : ℕ) (c : Change) → IsRead r → r.latest ≤ cycle
    → s ≡ record r.script { pins = with_timed_line cycle c r.script.pins }
    → IsRead (record { script = s; begun = true; latest = cycle })
pin_kept r s cycle c h le is =
    rw is (record {
      pins = timed_push cycle cycle r.script.pins.cycles _ r.script.pins.items _ c refl refl
          (ascends_up 0 r.latest cycle r.script.pins.cycles h.pins.ascends le) h.pins.same (omega arith);
      frames = timed_up r.latest cycle r.script.frames.cycles r.script.frames.items h.frames le;
    })

-- one more RX line
pub frame_kept : (r : Reading) (s : Script) (cycle : ℕ) (f : Frame) → IsRead r → r.latest ≤ cycle
    → s ≡ record r.script { frames = with_timed_line cycle f r.script.frames }
    → IsRead (record { script = s; begun = true; latest = cycle })
frame_kept r s cycle f h le is =
    rw is (record {
      pins = timed_up r.latest cycle r.script.pins.cycles r.script.pins.items h.pins le;
      frames = timed_push cycle cycle r.script.frames.cycles _ r.script.frames.items _ f refl refl
          (ascends_up 0 r.latest cycle r.script.frames.cycles h.frames.ascends le) h.frames.same (omega arith);
    })
