-- The units of a generated program: the parent, the depth and the size of each, by draws.
use Rattle.std.specs.Prelude.{ℕ, zero, suc, ◌+◌, ◌-◌, ◌*◌, ◌/◌, ◌%◌, ◌==◌, if◌then◌else◌, List, [], ◌∷◌, ◌++◌}
use Rattle.std.specs.Prelude.{slice_get}
use Rattle.std.specs.Option.{option_map_or}
use Rattle.m51_generator.specs.declared.unit.DrawnUnit.{DrawnUnit}

-- A draw changes the seed to the next one, and gives a number below `many` by it.
abbrev pub next_seed : ℕ → ℕ
next_seed seed = (1664525 * seed + 1013904223) % 4294967296

abbrev pub draw : ℕ → ℕ → ℕ
draw many seed = (seed / 65536) % many

-- the depth of a unit, by its number from 1; 0, the loop of MAIN, has depth 0
abbrev pub depth_of : List DrawnUnit → ℕ → ℕ
depth_of units number = if number == 0 then 0 else option_map_or (λ unit. unit.depth) (slice_get units (number - 1)) 0

-- The parent of the unit of this number is drawn among 0 and the units before it; the first has 0, without a draw.
abbrev pub seed_of_parent : ℕ → ℕ → ℕ
seed_of_parent number seed = if number == 1 then seed else next_seed seed

abbrev pub drawn_parent : ℕ → ℕ → ℕ
drawn_parent number seed = if number == 1 then 0 else draw number seed

-- a parent of depth 8 is replaced by 0
abbrev pub parent_of : List DrawnUnit → ℕ → ℕ
parent_of units drawn = if depth_of units drawn == 8 then 0 else drawn

-- the unit with this parent: one deeper than that, with 1 to 4 bytes
abbrev pub child_of : List DrawnUnit → ℕ → ℕ → DrawnUnit
child_of units parent seed = record { parent = parent; depth = depth_of units parent + 1; size = 1 + draw 4 seed }

-- units, and the seed after their draws
pub record Drawn : Type 0 where
  pub units : List DrawnUnit
  pub seed : ℕ

-- one more unit, which has this number: its parent is drawn, then its size
abbrev pub with_unit : ℕ → Drawn → Drawn
with_unit number before =
    let seed = seed_of_parent number before.seed in
    let parent = parent_of before.units (drawn_parent number seed) in
    record {
      units = before.units ++ child_of before.units parent (next_seed seed) ∷ [];
      seed = next_seed seed;
    }

-- the units 1 to the given number, drawn from the start, and the seed after their draws
abbrev pub drawn : ℕ → ℕ → Drawn
drawn zero start = record { units = []; seed = start }
drawn (suc before) start = with_unit (suc before) (drawn before start)
