-- What a board script says, line by line.
use Rattle.std.specs.Prelude.{ℕ, ◌+◌, true, false, ◌==◌, nat_lt, if◌then◌else◌, List, [], ◌∷◌, length, Option, Some}
use Rattle.std.specs.Prelude.{None, Result, Ok, Err}
use Rattle.std.specs.Str.Lines.{lines as lines_of}
use Rattle.m51_cells.specs.declared.limits.TheConstants.{MOST_SCRIPT_LINES}
use Rattle.m51_script.specs.declared.error.ScriptError.{ScriptError}
use Rattle.m51_script.specs.declared.error.ScriptError.TheVariants.{S1, S2, S3, Limit, Memory}
use Rattle.m51_script.specs.declared.forms.LineForm.{LineForm}
use Rattle.m51_script.specs.declared.forms.LineForm.TheVariants.{Fill, Pin, Receive}
use Rattle.m51_script.specs.declared.reading.Reading.{Reading}
use Rattle.m51_script.specs.declared.script.Script.{Script}
use Rattle.m51_cells.specs.Blanks.{is_skipped}
use Rattle.m51_script.specs.Grammar.{line_form}
use Rattle.m51_script.specs.Timing.{IsTimed, latest_cycle, with_timed_line}

-- no lines: the fill is 00H, the levels are FFH, and no frame arrives
abbrev pub plain_script : Script
plain_script = record {
  fill = 0;
  pins = record { cycles = []; items = [] };
  frames = record { cycles = []; items = [] };
}

-- nothing is read: there was neither a FILL nor a timed line
abbrev pub unread : Reading
unread = record { script = plain_script; begun = false; latest = 0 }

-- FILL is written at most once, and before timed lines
unfoldable pub with_fill : ℕ → Reading → ℕ → Result Reading ScriptError
with_fill number r byte =
    if r.begun then Err (S1 number)
    else if nat_lt 255 byte then Err (S3 number)
    else Ok (record r { script = record r.script { fill = byte }; begun = true })

-- PIN: a cycle is at most 99,999,999, a port at most 3, a byte at most FFH, and no cycle below an earlier one
unfoldable pub pinned : ℕ → Reading → ℕ → ℕ → ℕ → Result Reading ScriptError
pinned number r cycle port level =
    if nat_lt latest_cycle cycle then Err (S3 number)
    else if nat_lt 3 port then Err (S3 number)
    else if nat_lt 255 level then Err (S3 number)
    else if nat_lt cycle r.latest then Err (S2 number)
    else Ok (record {
      script = record r.script { pins = with_timed_line cycle (record { port = port; level = level }) r.script.pins };
      begun = true;
      latest = cycle;
    })

-- RX: the same, and its cycle is not 0, and a bit at most 1
unfoldable pub received_in : ℕ → Reading → ℕ → ℕ → ℕ → Result Reading ScriptError
received_in number r cycle byte bit =
    if cycle == 0 then Err (S3 number)
    else if nat_lt latest_cycle cycle then Err (S3 number)
    else if nat_lt 255 byte then Err (S3 number)
    else if nat_lt 1 bit then Err (S3 number)
    else if nat_lt cycle r.latest then Err (S2 number)
    else Ok (record {
      script = record r.script
          { frames = with_timed_line cycle (record { byte = byte; ninth = bit == 1 }) r.script.frames };
      begun = true;
      latest = cycle;
    })

-- what a line adds to what is read, or why the line with this number is refused
abbrev pub with_form : ℕ → Reading → Option LineForm → Result Reading ScriptError
with_form number r None = Err (S1 number)
with_form number r (Some (Fill byte)) = with_fill number r byte
with_form number r (Some (Pin cycle port level)) = pinned number r cycle port level
with_form number r (Some (Receive cycle byte bit)) = received_in number r cycle byte bit

abbrev pub with_text : ℕ → Reading → List ℕ → Result Reading ScriptError
with_text number r line = if is_skipped line then Ok r else with_form number r (line_form line)

-- continues with what is read, or stays with the first refusal
abbrev pub go_on : Result Reading ScriptError → (Reading → Result Script ScriptError) → Result Script ScriptError
go_on (Ok r) go = go r
go_on (Err error) go = Err error

-- the script of lines, of which the first has this number, after what is read; lines that are skipped count
abbrev pub script_from : ℕ → Reading → List (List ℕ) → Result Script ScriptError
script_from number r [] = Ok r.script
script_from number r (line ∷ more) = go_on (with_text number r line) (λ r. script_from (number + 1) r more)

-- the script of at most 65,536 lines
abbrev pub script_of_lines : List (List ℕ) → Result Script ScriptError
script_of_lines all = if nat_lt MOST_SCRIPT_LINES (length all) then Err Limit else script_from 1 unread all

-- the script of a file: its lines end in LF or CR LF, which the last may lack
abbrev pub script_of : List ℕ → Result Script ScriptError
script_of bytes = script_of_lines (lines_of bytes)

-- why a file is refused; out of memory is no refusal
abbrev pub script_refusal : ScriptError → Option ScriptError
script_refusal Memory = None
script_refusal refusal = Some refusal

-- what is kept while lines are read: no line has a cycle above the latest
pub record IsRead (r : Reading) : Type 0 where
  pub pins : IsTimed r.latest r.script.pins.cycles r.script.pins.items
  pub frames : IsTimed r.latest r.script.frames.cycles r.script.frames.items
