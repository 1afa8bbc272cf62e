-- Depths in a table by starts, none above 256, and how they are raised.
use Rattle.std.specs.Prelude.{◌≡◌, ◌⊎◌, ℕ, ◌+◌, ◌<◌, ◌≤◌, min, Bool, true, false, List, length, sum}
use Rattle.std.specs.Prelude.{slice_set, slice_index}
use Rattle.std.specs.List.{Contains}
use Rattle.m51_module.specs.declared.parts.LayoutParts.{LayoutParts}
use Rattle.m51_stackbound.specs.declared.point.Point.{Point}
use Rattle.m51_module.specs.declared.start.Start.{Start}
use Rattle.m51_module.specs.declared.start.Start.TheVariants.{At}
use Rattle.m51_stackbound.specs.declared.calls.Call.{Call}
use Rattle.m51_stackbound.specs.Callers.{calls_of}
use Rattle.m51_stackbound.specs.Depths.{CallsAt, IsDepth, Takes}
use Rattle.m51_stackbound.specs.Rules.{rank}

-- a depth above 255 counts as 256
abbrev pub cap : ℕ → ℕ
cap bytes = min bytes 256

-- the depth in the table
abbrev pub depth_in : List ℕ → Start → ℕ
depth_in depths start = slice_index depths (rank start)

-- what a start takes by a call
abbrev pub depth_by : List ℕ → Call → ℕ
depth_by depths call = cap (call.height + 2 + depth_in depths (At call.to))

-- the calls of the program, or some of them
abbrev pub AreCalls : LayoutParts → List ℕ → List Call → Type 0
AreCalls l image calls = (c : Call) → Contains calls c → CallsAt l image c.from c.height c.to

-- the start and what it calls take this number of bytes, by a path
pub record TakesDepth (l : LayoutParts) (image : List ℕ) (start : Start) (depth : ℕ) : Type 0 where
  pub path : List Start
  pub bytes : ℕ
  pub takes : Takes l image start path bytes
  pub depth_is : depth ≡ cap bytes

-- a table of depths: each is taken, or not raised yet
pub record AreTaken (l : LayoutParts) (image : List ℕ) (depths : List ℕ) : Type 0 where
  pub len : length depths ≡ 65537
  pub most : (i : ℕ) → i < length depths → slice_index depths i ≤ 256
  pub taken : (start : Start) → (depth_in depths start ≡ 0) ⊎ TakesDepth l image start (depth_in depths start)

-- a table of zeros
pub record IsBlank (depths : List ℕ) : Type 0 where
  pub len : length depths ≡ 65537
  pub each : (i : ℕ) → i < length depths → slice_index depths i ≡ 0

-- a depth is raised above what it was, or stays
abbrev pub Raises : Start → ℕ → List ℕ → List ℕ → Bool → Type 0
Raises start depth old new true = (depth_in old start < depth) × (new ≡ slice_set old (rank start) depth)
Raises start depth old new false = (depth ≤ depth_in old start) × (new ≡ old)

-- the table while it climbs: no depth is less than the height of one of these points
pub record IsClimbing (l : LayoutParts) (image : List ℕ) (points : List Point) (depths : List ℕ) : Type 0 where
  pub are : AreTaken l image depths
  pub own : (p : Point) → Contains points p → cap p.height ≤ depth_in depths p.start

-- the calls are looked at: no depth is less than it was; where none rose, none is less than what its start takes by one
-- of the calls
pub record IsRaised
    (l : LayoutParts) (image : List ℕ) (calls : List Call) (old new : List ℕ) (rose : Bool)
    : Type 0 where
  pub are : AreTaken l image new
  pub grown : (start : Start) → depth_in old start ≤ depth_in new start
  pub high : rose ≡ false → (c : Call) → Contains calls c → depth_by new c ≤ depth_in new c.from
  pub not_less : sum old ≤ sum new
  pub more : rose ≡ true → sum old < sum new

-- the table is settled: no depth is less than a height of its start, or than what the start takes by a call
pub record AreSettled (l : LayoutParts) (image : List ℕ) (points : List Point) (depths : List ℕ) : Type 0 where
  pub are : AreTaken l image depths
  pub own : (p : Point) → Contains points p → cap p.height ≤ depth_in depths p.start
  pub calls : (c : Call) → Contains (calls_of l image points) c → depth_by depths c ≤ depth_in depths c.from

-- what a settled table says of a start
abbrev pub SaysDepth : LayoutParts → List ℕ → Start → ℕ → Type 0
SaysDepth l image start depth =
    ((depth ≤ 255) × IsDepth l image start depth)
    ⊎ ((depth ≡ 256) × ((path : List Start) × ((bytes : ℕ) × (Takes l image start path bytes × (255 < bytes)))))
