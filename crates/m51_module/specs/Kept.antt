-- Tables of the code: what a layout keeps besides its parts, so that a run looks nothing up by going over a list.
use Rattle.std.specs.Prelude.{◌≡◌, ◌≢◌, ℕ, ◌+◌, ◌<◌, ◌≤◌, Bool, true, false, List, [], ◌∷◌, ◌++◌, length}
use Rattle.std.specs.Prelude.{slice_index_or, replicate, Option, Some, None, ◌↔◌}
use Rattle.std.specs.List.{All, AllPairs, Contains}
use Rattle.m51_module.specs.declared.image.TheConstants.{IMAGE_LEN}
use Rattle.m51_module.specs.declared.parts.LayoutParts.{LayoutParts}
use Rattle.m51_module.specs.Rising.{Rises}
use Rattle.m51_module.specs.Plan.{owners_of, IsUnitAt}
use Rattle.m51_module.specs.Sound.{IsSound}
use Rattle.m51_module.specs.Walks.{Edges, HasEdge}

-- a row for each segment below the count: its owners
pub record AreOwnerRows (owners : List (ℕ × ℕ)) (count : ℕ) (rows : List (List ℕ)) : Type 0 where
  pub len : length rows ≡ count
  pub each : (s : ℕ) → s < count → slice_index_or rows s [] ≡ owners_of owners s

-- each pair is of a segment below the count
abbrev pub HaveRows : ℕ → List (ℕ × ℕ) → Type 0
HaveRows count owners = (s u : ℕ) → Contains owners (s, u) → s < count

-- `count` empty rows
pub record AreEmptyRows (count : ℕ) (rows : List (List ℕ)) : Type 0 where
  pub len : length rows ≡ count
  pub each : (s : ℕ) → slice_index_or rows s [] ≡ []

-- no number occurs twice
abbrev pub AreDifferent : List ℕ → Type 0
AreDifferent units = AllPairs (λ one two. one ≢ two) units

-- a row of different units below the count
pub record IsRowAlong (count : ℕ) (row : List ℕ) : Type 0 where
  pub units : All (λ unit. unit < count) row
  pub different : AreDifferent row

-- the segment is put at the end of the rows of these units, and the other rows stay
pub record IsAddedAt (units : List ℕ) (segment : ℕ) (old new : List (List ℕ)) : Type 0 where
  pub len : length new ≡ length old
  pub added : (u : ℕ) → Contains units u → slice_index_or new u [] ≡ slice_index_or old u [] ++ segment ∷ []
  pub same : (u : ℕ) → (Contains units u → ⊥) → slice_index_or new u [] ≡ slice_index_or old u []

-- the segments below the count whose rows contain the unit, ascending
pub record AreSegmentsOf (rows : List (List ℕ)) (unit count : ℕ) (segments : List ℕ) : Type 0 where
  pub rising : Rises segments
  pub listed : (s : ℕ) → Contains segments s → (s < count) × Contains (slice_index_or rows s []) unit
  pub all : (s : ℕ) → s < count → Contains (slice_index_or rows s []) unit → Contains segments s

-- a row for each unit: the segments below the count whose rows contain it
pub record AreLocalRows (owner_rows : List (List ℕ)) (units count : ℕ) (rows : List (List ℕ)) : Type 0 where
  pub len : length rows ≡ units
  pub each : (u : ℕ) → u < units → AreSegmentsOf owner_rows u count (slice_index_or rows u [])

-- a row of bits for each unit, with a bit for each unit: whether an edge leads from the first to the second
pub record AreEdgeRows (edges : Edges) (units : ℕ) (rows : List (List Bool)) : Type 0 where
  pub len : length rows ≡ units
  pub wide : (u : ℕ) → u < units → length (slice_index_or rows u []) ≡ units
  pub each : (u v : ℕ) → u < units → v < units
      → (slice_index_or (slice_index_or rows u []) v false ≡ true) ↔ HasEdge edges u v

-- each edge leads from a unit below the count to one below it
abbrev pub LeadsWithin : ℕ → Edges → Type 0
LeadsWithin count edges = (u v : ℕ) → HasEdge edges u v → (u < count) × (v < count)

-- a row of `wide` bits for each of `units` units, no bit of them set
pub record AreClear (units wide : ℕ) (rows : List (List Bool)) : Type 0 where
  pub len : length rows ≡ units
  pub each : (u : ℕ) → u < units → slice_index_or rows u [] ≡ replicate wide false

-- a table of `count` addresses, none of them with a unit
pub record IsEmptyTable (count : ℕ) (units_at : List (Option ℕ)) : Type 0 where
  pub len : length units_at ≡ count
  pub each : (address : ℕ) → slice_index_or units_at address None ≡ None

-- the unit is entered at each of `size` addresses from the base, and the other addresses stay the same
pub record IsEntered (base size unit : ℕ) (old new : List (Option ℕ)) : Type 0 where
  pub len : length new ≡ length old
  pub within : (address : ℕ) → base ≤ address → address < base + size → slice_index_or new address None ≡ Some unit
  pub before : (address : ℕ) → address < base → slice_index_or new address None ≡ slice_index_or old address None
  pub after : (address : ℕ) → base + size ≤ address → slice_index_or new address None ≡ slice_index_or old address None

-- for each address the unit that covers it, of those below the count
pub record AreUnitsAt (l : LayoutParts) (count : ℕ) (units_at : List (Option ℕ)) : Type 0 where
  pub len : length units_at ≡ IMAGE_LEN
  pub some : (address unit : ℕ) → address < IMAGE_LEN → slice_index_or units_at address None ≡ Some unit
      → (unit < count) × IsUnitAt l address unit
  pub only : (address unit : ℕ) → address < IMAGE_LEN → unit < count → IsUnitAt l address unit
      → slice_index_or units_at address None ≡ Some unit

-- a layout is sound, and its tables are those of its parts
pub record IsKept (l : LayoutParts) (owner_rows local_rows : List (List ℕ)) (edge_rows : List (List Bool))
    (by_address : List (Option ℕ)) : Type 0 where
  pub sound : IsSound l
  pub owners : AreOwnerRows l.owners (length l.placed) owner_rows
  pub locals : AreLocalRows owner_rows (length l.units) (length owner_rows) local_rows
  pub edges : AreEdgeRows l.edges (length l.units) edge_rows
  pub units_at : AreUnitsAt l (length l.units) by_address
