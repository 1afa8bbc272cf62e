-- Names of which some are read, and controls of lines of which some are read.
use Rattle.std.proofs.Common.{◌≡◌, ℕ, ◌+◌, ◌≤◌, false, cond, List, [], ◌∷◌, ◌++◌, length, Some, Ok, Err, refl, sym, ap}
use Rattle.std.proofs.Common.{◌∙◌, append_assoc, length-append, arith}
use Rattle.std.specs.List.{All}
use Rattle.std.proofs.lemmas.List.Elements.{All-append, All-from_recursion}
use Rattle.m51_control.specs.declared.control.Control.{Control}
use Rattle.m51_control.specs.Grammar.{control_of}
use Rattle.m51_cells.specs.Blanks.{is_skipped}
use Rattle.m51_control.specs.Controls.{Read, with_line, controls_from, IsAllowed}

-- controls before those that follow
abbrev pub before : List (ℕ × Control) → Read → Read
before front (Ok controls) = Ok (front ++ controls)
before front (Err error) = Err error

-- the first `number` lines are read, `controls` are those in them, and `left` are the lines that remain of `all`
pub record Goes (controls : List (ℕ × Control)) (number : ℕ) (left all : List (List ℕ)) : Type 0 where
  pub told : before controls (controls_from (number + 1) left) ≡ controls_from 1 all
  pub few : length controls ≤ number
  pub rest : number + length left ≡ length all
  pub each : All (λ entry. IsAllowed entry.1) controls

two_fronts : (front : List (ℕ × Control)) (number : ℕ) (control : Control) (after : Read)
    → before front (with_line number (Some control) after) ≡ before (front ++ (number, control) ∷ []) after
two_fronts front number control (Ok controls) = ap Ok (sym (append_assoc front ((number, control) ∷ []) controls))
two_fronts front number control (Err error) = refl

first_read : (number : ℕ) (line : List ℕ) (more : List (List ℕ)) (control : Control) → is_skipped line ≡ false
    → control_of line ≡ Some control
    → controls_from number (line ∷ more) ≡ with_line number (Some control) (controls_from (number + 1) more)
first_read number line more control told is =
    ap (λ skipped. cond skipped (controls_from (number + 1) more)
    (with_line number (control_of line) (controls_from (number + 1) more))) told
    ∙ ap (λ found. with_line number found (controls_from (number + 1) more)) is

-- one more line is read, which says a control
pub line_step : (controls : List (ℕ × Control)) (number : ℕ) (line : List ℕ) (more all : List (List ℕ))
    (control : Control)
    → Goes controls number (line ∷ more) all → is_skipped line ≡ false → control_of line ≡ Some control
    → IsAllowed control
    → Goes (controls ++ (number + 1, control) ∷ []) (number + 1) more all
line_step controls number line more all control h told is allowed = record {
  told = sym (two_fronts controls (number + 1) control (controls_from (number + 1 + 1) more))
      ∙ ap (before controls) (sym (first_read (number + 1) line more control told is)) ∙ h.told;
  few = omega (arith, h.few, length-append controls ((number + 1, control) ∷ []));
  rest = omega (arith, h.rest);
  each = All-append (λ entry. IsAllowed entry.1) controls ((number + 1, control) ∷ []) h.each
      (All-from_recursion (λ entry. IsAllowed entry.1) ((number + 1, control) ∷ []) (allowed, tt));
}
