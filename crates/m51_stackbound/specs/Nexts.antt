-- Where the path of each start continues, in a table by starts. Private contracts cite it.
use Rattle.std.specs.Prelude.{◌≡◌, ◌⊎◌, ℕ, ◌+◌, ◌<◌, ◌≤◌, min, nat_eq, if◌then◌else◌, List, [], ◌∷◌, ◌++◌, length}
use Rattle.std.specs.Prelude.{slice_index, slice_index_or, Option, Some, None}
use Rattle.std.specs.List.{Contains}
use Rattle.m51_module.specs.declared.parts.LayoutParts.{LayoutParts}
use Rattle.m51_module.specs.declared.stack_bound.RootDepth.{RootDepth}
use Rattle.m51_module.specs.declared.start.Start.{Start}
use Rattle.m51_module.specs.declared.start.Start.TheVariants.{Reset, At}
use Rattle.m51_module.specs.Plan.{IsRootAt}
use Rattle.m51_stackbound.specs.declared.paths.Next.{Next}
use Rattle.m51_stackbound.specs.declared.paths.Next.TheVariants.{Unknown, Ends, Calls}
use Rattle.m51_stackbound.specs.declared.point.Point.{Point}
use Rattle.m51_stackbound.specs.Bounds.{AreEach}
use Rattle.m51_stackbound.specs.Climb.{depth_in}
use Rattle.m51_stackbound.specs.Points.{call_of}
use Rattle.m51_stackbound.specs.Rules.{rank}

-- how a point that calls this start gives the depth of its own start
abbrev pub next_called : List ℕ → Point → Option ℕ → Next
next_called depths p None = Unknown
next_called depths p (Some to) =
    if nat_eq (p.height + 2 + depth_in depths (At to)) (depth_in depths p.start) then Calls to else Unknown

unfoldable pub next_by : List ℕ → Point → Option ℕ → Next
next_by depths p called = if nat_eq p.height (depth_in depths p.start) then Ends else next_called depths p called

-- the path that comes first
abbrev pub earlier : Next → Next → Next
earlier Unknown Unknown = Unknown
earlier Unknown Ends = Ends
earlier Unknown (Calls two) = Calls two
earlier Ends two = Ends
earlier (Calls one) Unknown = Calls one
earlier (Calls one) Ends = Ends
earlier (Calls one) (Calls two) = Calls (min one two)

-- the first comes no later than the second
abbrev pub IsNoLater : Next → Next → Type 0
IsNoLater one Unknown = Unit {0}
IsNoLater Ends Ends = Unit {0}
IsNoLater Ends (Calls b) = Unit {0}
IsNoLater Unknown Ends = ⊥
IsNoLater Unknown (Calls b) = ⊥
IsNoLater (Calls a) Ends = ⊥
IsNoLater (Calls a) (Calls b) = a ≤ b

-- one of the points, of this start, gives its depth so
pub record Gives
    (l : LayoutParts) (image : List ℕ) (points : List Point) (depths : List ℕ) (start : Start) (next : Next)
    : Type 0 where
  pub point : Point
  pub listed : Contains points point
  pub start_is : point.start ≡ start
  pub next_is : next_by depths point (call_of l image point) ≡ next

-- of the ways in which the points give the depth of this start it is the one that comes first
pub record IsEarliest
    (l : LayoutParts) (image : List ℕ) (points : List Point) (depths : List ℕ) (start : Start) (next : Next)
    : Type 0 where
  pub given : (next ≡ Unknown) ⊎ Gives l image points depths start next
  pub earliest : (p : Point) → Contains points p → p.start ≡ start
      → IsNoLater next (next_by depths p (call_of l image p))

abbrev pub next_in : List Next → Start → Next
next_in nexts start = slice_index_or nexts (rank start) Unknown

-- a table of the ways that come first
pub record AreNexts
    (l : LayoutParts) (image : List ℕ) (points : List Point) (depths : List ℕ) (nexts : List Next)
    : Type 0 where
  pub len : length nexts ≡ 65537
  pub each : (start : Start) → IsEarliest l image points depths start (next_in nexts start)

-- the start with which the path continues
abbrev pub called_next : Next → Option ℕ
called_next Unknown = None
called_next Ends = None
called_next (Calls to) = Some to

-- the path from a start, by the table
pub data Leads (nexts : List Next) : Start → List Start → Type 0 where
  Stop : (start : Start) → called_next (next_in nexts start) ≡ None → Leads nexts start []
  Go : (start : Start) (to : ℕ) (more : List Start) → called_next (next_in nexts start) ≡ Some to
      → Leads nexts (At to) more → Leads nexts start (At to ∷ more)

-- each call of a path leads to a start of less depth
abbrev pub Falls : List ℕ → List Next → Type 0
Falls depths nexts =
    (start : Start) (to : ℕ) → called_next (next_in nexts start) ≡ Some to
    → depth_in depths (At to) < depth_in depths start

-- tables of depths and of paths that belong together
pub record AreTables (depths : List ℕ) (nexts : List Next) : Type 0 where
  pub depths_len : length depths ≡ 65537
  pub most : (i : ℕ) → i < length depths → slice_index depths i ≤ 256
  pub nexts_len : length nexts ≡ 65537
  pub falls : Falls depths nexts

-- the path so far, up to this last start: what leads on from it leads on from the first
pub record IsPassed (nexts : List Next) (first last : Start) (path : List Start) : Type 0 where
  pub done : List Start
  pub path_is : path ≡ first ∷ done
  pub leads : (more : List Start) → Leads nexts last more → Leads nexts first (done ++ more)

-- the depth and the path of a root, by the tables
pub record IsRow (depths : List ℕ) (nexts : List Next) (root : ℕ) (start : Start) (r : RootDepth) : Type 0 where
  pub root_is : r.root ≡ root
  pub depth : r.depth ≡ depth_in depths start
  pub more : List Start
  pub path_is : r.path ≡ start ∷ more
  pub leads : Leads nexts start more

-- a root that begins at the vector, with the depth and the path of its start
pub record IsRowAt
    (l : LayoutParts) (depths : List ℕ) (nexts : List Next) (start : Start) (vector : ℕ) (r : RootDepth)
    : Type 0 where
  pub root : ℕ
  pub is_root : IsRootAt l vector root
  pub row : IsRow depths nexts root start r

-- the roots of the reset and of these interrupts, by the tables
pub record AreRootRows
    (l : LayoutParts) (depths : List ℕ) (nexts : List Next) (vectors : List ℕ) (roots : List RootDepth)
    : Type 0 where
  pub reset : RootDepth
  pub interrupts : List RootDepth
  pub roots_are : roots ≡ reset ∷ interrupts
  pub reset_is : IsRowAt l depths nexts Reset 0 reset
  pub interrupts_are : AreEach (λ vector. IsRowAt l depths nexts (At vector) vector) vectors interrupts
