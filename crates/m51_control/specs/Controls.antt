-- The controls of a file of control lines.
use Rattle.std.specs.Prelude.{ℕ, ◌+◌, ◌≤◌, nat_lt, if◌then◌else◌, List, [], ◌∷◌, length, Option, Some, None, Result, Ok}
use Rattle.std.specs.Prelude.{Err}
use Rattle.std.specs.List.{All}
use Rattle.std.specs.Str.Lines.{lines}
use Rattle.m51_cells.specs.declared.limits.TheConstants.{MOST_CONTROL_LINES}
use Rattle.m51_cells.specs.Blanks.{is_skipped}
use Rattle.m51_control.specs.declared.control.Control.{Control}
use Rattle.m51_control.specs.declared.control.Control.TheVariants.{Reserve}
use Rattle.m51_control.specs.declared.error.ControlError.{ControlError}
use Rattle.m51_control.specs.declared.error.ControlError.TheVariants.{C1, Limit, Memory}
use Rattle.m51_control.specs.Reserve.{IsRange}
use Rattle.m51_control.specs.Grammar.{control_of}

-- controls with the numbers of their lines, or why there are none
abbrev pub Read : Type 0
Read = Result (List (ℕ × Control)) ControlError

-- the control of the line with this number, before those of the lines after it
abbrev pub with_line : ℕ → Option Control → Read → Read
with_line number None after = Err (C1 number)
with_line number (Some control) (Ok controls) = Ok ((number, control) ∷ controls)
with_line number (Some control) (Err error) = Err error

-- The controls of lines, of which the first has this number; or the number of the first line that is not in the
-- grammar. Lines that are skipped count.
abbrev pub controls_from : ℕ → List (List ℕ) → Read
controls_from number [] = Ok []
controls_from number (line ∷ more) =
    if is_skipped line then controls_from (number + 1) more
    else with_line number (control_of line) (controls_from (number + 1) more)

-- the controls of at most 1,000 lines
abbrev pub read_lines : List (List ℕ) → Read
read_lines all = if nat_lt MOST_CONTROL_LINES (length all) then Err Limit else controls_from 1 all

-- the controls of a file: its lines end in LF or CR LF, which the last may lack
abbrev pub controls_of : List ℕ → Read
controls_of bytes = read_lines (lines bytes)

-- why a file is refused; out of memory is no refusal
abbrev pub control_refusal : ControlError → Option ControlError
control_refusal Memory = None
control_refusal refusal = Some refusal

-- a control as the type of controls keeps it: a reserve is a range of internal RAM or of external data memory
abbrev pub IsAllowed : Control → Type 0
IsAllowed (Reserve space low high) = IsRange space low high
IsAllowed other = Unit {0}

-- what the type of controls keeps
pub record AreKept (controls : List (ℕ × Control)) : Type 0 where
  pub few : length controls ≤ MOST_CONTROL_LINES
  pub each : All (λ entry. IsAllowed entry.1) controls
