-- Of the code: tables from names and from joined numbers to units.
use Rattle.std.specs.Prelude.{◌≡◌, ℕ, ◌+◌, ◌≤◌, nat_eq, if◌then◌else◌, List, [], ◌∷◌, length, position, slice_index_or}
use Rattle.std.specs.Prelude.{Option, Some, None}
use Rattle.std.specs.Map.{lookup}
use Rattle.std.specs.Str.{bytes_eq}
use Rattle.m51_cells.specs.Kinds.{is_code}
use Rattle.m51_cells.specs.declared.limits.TheConstants.{MOST_UNITS}
use Rattle.m51_resolve.specs.declared.segment.JoinedSegment.{JoinedSegment}
use Rattle.m51_graph.specs.Units.{named}

-- what a table has of a name
abbrev pub number_by_name : List (List ℕ × ℕ) → List ℕ → Option ℕ
number_by_name numbers name = lookup (bytes_eq name) numbers

-- the table has the first unit of each of the titles
pub record AreNumbers (titles : List (List ℕ)) (numbers : List (List ℕ × ℕ)) : Type 0 where
  pub few : length titles ≤ MOST_UNITS
  pub each : (name : List ℕ) → number_by_name numbers name ≡ named titles name

-- for each of these segments which unit it is, if it is one; the first unit among them has that number
abbrev pub units_by_segment : ℕ → List JoinedSegment → List (Option ℕ)
units_by_segment unit [] = []
units_by_segment unit (j ∷ more) =
    if is_code j.kind then Some unit ∷ units_by_segment (unit + 1) more else None ∷ units_by_segment unit more

-- the table has the unit of each joined number
pub record IsUnitTable (units : List ℕ) (table : List (Option ℕ)) : Type 0 where
  pub few : length units ≤ MOST_UNITS
  pub each : (number : ℕ) → slice_index_or table number None ≡ position (nat_eq number) units
