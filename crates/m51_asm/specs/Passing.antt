-- The result of pass 1 over a text, by the assignment that fits it.
use Rattle.std.specs.Prelude.{◌≡◌, ℕ, Bool, false, nat_le, List, length, slice_get, Option, Some, None}
use Rattle.m51_text.specs.Answer.{LineTree}
use Rattle.m51_asm.specs.declared.passing.Passed.{Passed}
use Rattle.m51_asm.specs.declared.passing.Passed.TheVariants as passed
use Rattle.m51_asm.specs.declared.placing.PassOneState.{PassOneState}
use Rattle.m51_asm.specs.declared.stepping.LinePlace.{LinePlace}
use Rattle.m51_asm.specs.Assignment.{Assignment}
use Rattle.m51_asm.specs.Placing.{IsAt, IsPlaceOf}
use Rattle.m51_asm.specs.FirstFault.{AreFree, IsFirstFault}

-- the first line that repeats is line k or above it
abbrev pub is_reached : Option ℕ → ℕ → Bool
is_reached (Some first) k = nat_le first k
is_reached None k = false

-- these are the places of the first lines
abbrev pub ArePlaces : List LineTree → Assignment → List LinePlace → Type 0
ArePlaces lines a places = (j : ℕ) (p : LinePlace) → slice_get places j ≡ Some p → IsPlaceOf lines a j p

-- the first k lines have no fault, these are their places, and this is kept of them
pub record IsPassedTo (lines : List LineTree) (a : Assignment) (k : ℕ) (places : List LinePlace) (end : PassOneState)
    : Type 0 where
  pub free : AreFree lines a k
  pub counted : length places ≡ k
  pub each : ArePlaces lines a places
  pub at : IsAt lines a k end

-- no line has a fault, these are the places of all, and this is kept of them
abbrev pub IsPlaced : List LineTree → Assignment → List LinePlace → PassOneState → Type 0
IsPlaced lines a places end = IsPassedTo lines a (length lines) places end

-- it is the first fault; or no line has one, and all are placed
abbrev pub IsPassed : List LineTree → Assignment → Passed → Type 0
IsPassed lines a (passed.Fault k number) = IsFirstFault lines a k number
IsPassed lines a (passed.Placed places end) = IsPlaced lines a places end
