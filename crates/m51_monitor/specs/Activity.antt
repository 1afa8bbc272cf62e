-- What the monitor keeps beside the return addresses: the units that are active, how many records name each, how many
-- of them own each segment, and the memory of their segments.
use Rattle.std.specs.Prelude.{◌≡◌, ℕ, ◌<◌, Bool, ◌&&◌, nat_eq, List, [], ◌∷◌, length, slice_index}
use Rattle.std.specs.List.{Contains}
use Rattle.m51_cells.specs.declared.cell.Cell.{Cell}
use Rattle.m51_module.specs.declared.parts.LayoutParts.{LayoutParts}
use Rattle.m51_module.specs.Plan.{owners_of}
use Rattle.m51_monitor.specs.declared.activity.TheConstants.{MOST_NAMED}
use Rattle.m51_monitor.specs.Records.{is_unit_among, one_more_where}
use Rattle.m51_monitor.specs.Related.{AreRelatedAll}
use Rattle.m51_monitor.specs.Shared.{Shared}
use Rattle.m51_monitor.specs.Stores.{Stores, StandsFor, has_cell, live_by, unset_dead}

-- the units that are active, the last first, each once for each record that names it
pub record Activity : Type 0 where
  pub layout : LayoutParts
  pub units : List ℕ
  pub store : Shared

-- how often the list has the number
abbrev pub times : List ℕ → ℕ → ℕ
times [] u = 0
times (v ∷ vs) u = one_more_where (nat_eq v u) (times vs u)

-- a number for each unit, which says how often it is named
pub record AreTimes (l : LayoutParts) (units numbers : List ℕ) : Type 0 where
  pub len : length numbers ≡ length l.units
  pub number : (u : ℕ) → u < length l.units → slice_index numbers u ≡ times units u
  pub below : (u : ℕ) → Contains units u → u < length l.units

-- how many of these units own the segment, each counted as often as the list has it
abbrev pub holding : LayoutParts → List ℕ → ℕ → ℕ
holding l [] t = 0
holding l (u ∷ us) t = one_more_where (is_unit_among (owners_of l.owners t) u) (holding l us t)

-- a number for each placed extent, which says how many of the units own it
pub record AreHolders (l : LayoutParts) (units holders : List ℕ) : Type 0 where
  pub len : length holders ≡ length l.placed
  pub number : (t : ℕ) → t < length l.placed → slice_index holders t ≡ holding l units t

pub record IsActivity (l : LayoutParts) (units numbers holders : List ℕ) (store : Shared) : Type 0 where
  pub times_are : AreTimes l units numbers
  pub holders_are : AreHolders l units holders
  pub related : AreRelatedAll l units
  pub stands : (s : Stores) × StandsFor l (live_by l units) store s

-- the unit may be named once more
pub record MayEnter (l : LayoutParts) (units : List ℕ) (unit : ℕ) : Type 0 where
  pub unit_is : unit < length l.units
  pub room : length units < MOST_NAMED
  pub few : times units unit < 3
  pub related : AreRelatedAll l (unit ∷ units)

-- If the memory represents some separate stores, it represents them after the change, with dead segments unset.
abbrev pub KeepsStores : Activity → Activity → Type 0
KeepsStores old new = (s : Stores) → StandsFor old.layout (live_by old.layout old.units) old.store s
    → StandsFor new.layout (live_by new.layout new.units) new.store (unset_dead (live_by new.layout new.units) s)

-- the segment of that number is live and over the cell, which is one of data memory
abbrev pub answers_in : LayoutParts → List ℕ → Cell → ℕ → Bool
answers_in l units c t = live_by l units t && has_cell l t c
