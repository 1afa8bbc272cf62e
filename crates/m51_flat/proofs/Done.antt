-- Where the outcome of an instruction is an effect, its puts are open, and over each map that agrees with the store the
-- effect is the same.
use Rattle.m51_flat.proofs.Common.{◌≡◌, ℕ, Bool, true, false, List, ◌∷◌, Option, Some, None, refl, ap, Cell}
use Rattle.m51_flat.proofs.Common.{and_then, NoEffect, Result, Instr, Cpu, Pins, Effect, Seen, Value, CellState, Holds}
use Rattle.m51_flat.proofs.Common.{Absent, Fresh}
use Rattle.m51_flat.proofs.Common.{States, Access, Agrees, CellMap, access_seen, accesses_over, first_missing}
use Rattle.m51_flat.proofs.Common.{result_over, value_or_missing, concluded, plan_of, unless_shut}
use Rattle.std.proofs.Common.{[]}
use Rattle.std.specs.Prelude.{if◌then◌else◌}
use Rattle.m51_flat.specs.declared.state.Seen.TheVariants.{Outside as SeenOutside, Unset as SeenUnset}
use Rattle.m51_flat.specs.Outcome.{Outcome, Done, PowerDown}
use Rattle.m51_flat.specs.States.{shut_of}
use Rattle.m51_flat.specs.Sfr.{flag, pcon}
use Rattle.m51_flat.specs.Meaning.{instruction_outcome}
use Rattle.m51_flat.specs.OutcomeLaws.{EffectsAreDone, PowerGoesDown}
use Rattle.m51_flat.proofs.Readings.{readings}

record IsOpen (barred : Cell → Bool) (a e : Effect) : Type 0 where
  first : shut_of barred a.first ≡ None
  second : shut_of barred a.second ≡ None
  powered : flag a.cpu pcon 1 ≡ false
  is : a ≡ e

-- what an outcome says of the effect at the end of an instruction
abbrev EndsAs : (Cell → Bool) → Effect → Outcome → Type 0
EndsAs barred a (Done e) = IsOpen barred a e
EndsAs barred a PowerDown = flag a.cpu pcon 1 ≡ true
EndsAs barred a _ = Unit {0}

at_end : (barred : Cell → Bool) (a : Effect) (one two : Option Cell) (down : Bool) → shut_of barred a.first ≡ one
    → shut_of barred a.second ≡ two → flag a.cpu pcon 1 ≡ down
    → EndsAs barred a (unless_shut one (unless_shut two (if down then PowerDown else Done a)))
at_end barred a None None false p q r = record { first = p; second = q; powered = r; is = refl }
at_end barred a None None true p q r = r
at_end barred a None (Some c) down p q r = tt
at_end barred a (Some c) two down p q r = tt

-- a read that has a value is followed by the others
after_read : (r : Seen) (barred : Cell → Bool) (a : Effect) (others : Result Effect NoEffect)
    → EndsAs barred a (concluded barred others)
    → EndsAs barred a (concluded barred (and_then (value_or_missing r) (λ v. others)))
after_read (Value v) barred a others h = h
after_read (SeenOutside c) barred a others h = tt
after_read (SeenUnset c) barred a others h = tt

ends_as : (barred : Cell → Bool) (s : States) (xs : List Access) (a : Effect)
    → EndsAs barred a (concluded barred (first_missing s xs a))
ends_as barred s [] a = at_end barred a _ _ _ refl refl refl
ends_as barred s (x ∷ xs) a =
    after_read (access_seen s x) barred a (first_missing s xs a) (ends_as barred s xs a)

-- what cells hold, as a map
abbrev value_of : CellState → ℕ
value_of (Holds v) = v
value_of Absent = 0
value_of Fresh = 0

abbrev map_of : States → CellMap
map_of s = record { ram = λ n. value_of (s.ram n); xram = λ n. value_of (s.xram n) }

map_agrees : (s : States) → Agrees s (map_of s)
map_agrees s = record { ram = λ n v e. ap value_of e; xram = λ n v e. ap value_of e }

-- what the outcome over a store says of the effect over a map that agrees with it
over : (cpu : Cpu) (cells : States) (barred : Cell → Bool) (instr : Instr) (image : List ℕ) (ext : Pins) (m : CellMap)
    → Agrees cells m
    → EndsAs barred (result_over m (plan_of cpu instr image ext)) (instruction_outcome cpu cells barred instr image ext)
unfolding instruction_outcome
over cpu cells barred instr image ext m g =
    let p = plan_of cpu instr image ext in
    rw (readings p cells m g) (ends_as barred cells (accesses_over m p) (result_over m p))

open_over : (cpu : Cpu) (cells : States) (barred : Cell → Bool) (instr : Instr) (image : List ℕ) (ext : Pins)
    (m : CellMap) (e : Effect) → instruction_outcome cpu cells barred instr image ext ≡ Done e → Agrees cells m
    → IsOpen barred (result_over m (plan_of cpu instr image ext)) e
open_over cpu cells barred instr image ext m e h g = rw h at (over cpu cells barred instr image ext m g)

pub effects_are_done : EffectsAreDone
effects_are_done cpu cells barred instr image ext e h =
    let o = open_over cpu cells barred instr image ext (map_of cells) e h (map_agrees cells) in
    record {
      first = rw o.is at o.first;
      second = rw o.is at o.second;
      powered = rw o.is at o.powered;
      over_map = λ m g. (open_over cpu cells barred instr image ext m e h g).is;
    }

pub power_goes_down : PowerGoesDown
power_goes_down cpu cells barred instr image ext m h g = rw h at (over cpu cells barred instr image ext m g)
