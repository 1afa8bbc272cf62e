-- The states that have a note, and what the note of a state is.
use Rattle.std.specs.Prelude.{◌≡◌, ℕ, ◌<◌, Bool, ◌&&◌, nat_le, if◌then◌else◌, List, []}
use Rattle.m51_module.specs.declared.parts.LayoutParts.{LayoutParts}
use Rattle.m51_sim.specs.Runs.{State}
use Rattle.m51_sim.specs.SeparateMachine.{Separate, cells_of}
use Rattle.m51_steps.specs.declared.shape.Window.{Window}
use Rattle.m51_steps.specs.declared.shape.Shape.{Shape}
use Rattle.m51_steps.specs.declared.shape.Shape.TheVariants.{Lines, Ram, Counts}
use Rattle.m51_steps.specs.Lines.{state_line}
use Rattle.m51_steps.specs.Noted.{Notes}
use Rattle.m51_steps.specs.Ram.{byte_code, nothing_shown, ram_line}

-- the state after this number of steps is one of the window
abbrev pub in_window : Window → ℕ → Bool
in_window w steps = nat_le w.first steps && nat_le steps w.last

-- The note of the state after a number of steps, where this was shown of each byte of internal RAM before: its line, or
-- its line with the active units and the bytes that are not as they were shown.
abbrev pub note_by : Shape → LayoutParts → List ℕ → (ℕ → ℕ) → ℕ → State Separate → List ℕ
note_by (Lines w) l image shown steps s = if in_window w steps then state_line l image steps s else []
note_by (Ram w) l image shown steps s = if in_window w steps then ram_line l image steps shown s else []
note_by Counts l image shown steps s = []

-- what was shown of each byte before: nothing before the first line of the window
abbrev pub shown_from : ℕ → LayoutParts → ℕ → State Separate → ℕ → ℕ
shown_from first l steps before address =
    if nat_le steps first then nothing_shown else byte_code (cells_of l before.memory) address

abbrev pub shown_before : Shape → LayoutParts → ℕ → State Separate → (ℕ → ℕ)
shown_before (Lines w) l steps before = λ address. nothing_shown
shown_before (Ram w) l steps before = shown_from w.first l steps before
shown_before Counts l steps before = λ address. nothing_shown

-- the same where `before` is the state from which the last step was made: the bytes are those that are not as they were
-- in it, and in the first line of the window all
abbrev pub note_of : Shape → LayoutParts → List ℕ → Notes Separate
note_of shape l image steps before s = note_by shape l image (shown_before shape l steps before) steps s

-- what is shown of each byte after the note of a state
abbrev pub IsShown : Shape → LayoutParts → ℕ → State Separate → (ℕ → ℕ) → (ℕ → ℕ) → Type 0
IsShown (Lines w) l steps s old new = Unit {0}
IsShown (Ram w) l steps s old new =
    (a : ℕ) → a < 256 → new a ≡ (if in_window w steps then byte_code (cells_of l s.memory) a else old a)
IsShown Counts l steps s old new = Unit {0}
