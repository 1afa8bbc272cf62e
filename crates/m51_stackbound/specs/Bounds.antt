-- The stack bound of a program, and why it has none.
use Rattle.std.specs.Prelude.{◌≡◌, ◌≢◌, ◌⊎◌, ℕ, ◌+◌, ◌<◌, ◌≤◌, List, [], ◌∷◌, map, Option, Some, None, Result, Ok, Err}
use Rattle.std.specs.List.{Contains}
use Rattle.m51_module.specs.declared.parts.LayoutParts.{LayoutParts}
use Rattle.m51_module.specs.Plan.{IsUnitAt, IsRootAt}
use Rattle.m51_module.specs.Rising.{Rises}
use Rattle.m51_stackbound.specs.declared.judging.Rule.{Rule}
use Rattle.m51_stackbound.specs.declared.judging.Rule.TheVariants.{WritesSp, Computed, PopsBelow, PushesAbove}
use Rattle.m51_stackbound.specs.declared.point.ReachedAddress.{ReachedAddress}
use Rattle.m51_stackbound.specs.declared.point.Point.{Point}
use Rattle.m51_module.specs.declared.stack_bound.Proc.{Proc}
use Rattle.m51_module.specs.declared.stack_bound.RootDepth.{RootDepth}
use Rattle.m51_module.specs.declared.stack_bound.StackBound.{StackBound}
use Rattle.m51_module.specs.declared.stack_bound.StackError.{StackError}
use Rattle.m51_module.specs.declared.stack_bound.StackError.TheVariants.{K1, K2, K3, K4, K5, K6, Limit, Memory}
use Rattle.m51_module.specs.declared.start.Start.{Start}
use Rattle.m51_module.specs.declared.start.Start.TheVariants.{Reset, At}
use Rattle.m51_stackbound.specs.Depths.{CallsThrough, HasHeight, IsDepth, IsPath, Takes}
use Rattle.m51_stackbound.specs.Points.{IsPoint}
use Rattle.m51_stackbound.specs.Rules.{IsBroken, IsLeast, reached_address, rank}
use Rattle.m51_stackbound.specs.Search.{ArePoints, HasTooMany}
use Rattle.m51_stackbound.specs.Units.{handlers}

-- each root is that of its vector, and none is left over
abbrev pub AreEach : (ℕ → RootDepth → Type 0) → List ℕ → List RootDepth → Type 0
AreEach Is [] [] = Unit {0}
AreEach Is [] (r ∷ more) = ⊥
AreEach Is (v ∷ vectors) [] = ⊥
AreEach Is (v ∷ vectors) (r ∷ more) = Is v r × AreEach Is vectors more

module _ (l : LayoutParts) (image : List ℕ) where
  -- a point of the program breaks the rule at the reached address
  abbrev pub Breaks : Rule → ReachedAddress → Type 0
  Breaks rule = IsBroken l image rule (IsPoint l image)

  -- no point breaks the rule
  abbrev pub Keeps : Rule → Type 0
  Keeps rule = (reached : ReachedAddress) → Breaks rule reached → ⊥

  -- there are not too many points
  abbrev pub AreFew : Type 0
  AreFew = (points : List Point) × ArePoints l image points

  -- the reached address is the first at which the rule is broken
  abbrev pub IsFirst : Rule → Start → ℕ → Type 0
  IsFirst rule start at = IsLeast (Breaks rule) (Some (record { start = start; address = at }))

  -- K1 to K3 are kept
  pub record KeepsRules : Type 0 where
    pub few : AreFew
    pub writes : Keeps WritesSp
    pub computed : Keeps Computed
    pub pops : Keeps PopsBelow

  -- K4: the start calls itself, directly or through others; the reset is called by none
  abbrev pub IsCyclic : Start → Type 0
  IsCyclic Reset = ⊥
  IsCyclic (At address) = CallsThrough l image (At address) address

  pub record IsFirstCyclic (start : Start) : Type 0 where
    pub cyclic : IsCyclic start
    pub first : (other : Start) → IsCyclic other → rank start ≤ rank other

  -- the first start that calls itself, if there is one
  abbrev pub HasFirstCyclic : Option Start → Type 0
  HasFirstCyclic None = (start : Start) → IsCyclic start → ⊥
  HasFirstCyclic (Some start) = IsFirstCyclic start

  -- no start calls itself
  pub record KeepsApart : Type 0 where
    pub rules : KeepsRules
    pub no_cycle : (start : Start) → IsCyclic start → ⊥

  -- K5: two points have the reached address and different heights
  pub record HasTwoHeights (reached : ReachedAddress) : Type 0 where
    pub one : Point
    pub two : Point
    pub one_is : IsPoint l image one
    pub two_is : IsPoint l image two
    pub place_one : reached_address one ≡ reached
    pub place_two : reached_address two ≡ reached
    pub heights : one.height ≢ two.height

  -- each address of a start has one height
  pub record KeepsHeights : Type 0 where
    pub apart : KeepsApart
    pub one_height : (reached : ReachedAddress) → HasTwoHeights reached → ⊥

  -- what interrupts add: at most two different ones, each with two bytes for its return address
  pub data Adds : ℕ → Type 0 where
    Nothing : Adds 0
    One : (v d : ℕ) (path : List Start) → Contains (handlers l) v → Takes l image (At v) path d → Adds (2 + d)
    Two : (v w d e : ℕ) (path other : List Start) → Contains (handlers l) v → Contains (handlers l) w → v ≢ w
        → Takes l image (At v) path d → Takes l image (At w) other e → Adds (2 + d + (2 + e))

  -- a value that SP may get: what the reset takes, and what interrupts add
  pub record ComesTo (value : ℕ) : Type 0 where
    pub path : List Start
    pub reset : ℕ
    pub more : ℕ
    pub takes : Takes l image Reset path reset
    pub adds : Adds more
    pub value_is : value ≡ reset + more

  -- the total: the greatest of these values, which is the depth of the reset and the two greatest that interrupts add
  pub record IsTotal (total : ℕ) : Type 0 where
    pub comes : ComesTo total
    pub most : (value : ℕ) → ComesTo value → value ≤ total

  -- K6: PUSH is at height 255, or a value is above 255
  abbrev pub IsTooDeep : Type 0
  IsTooDeep = ((reached : ReachedAddress) × Breaks PushesAbove reached) ⊎ ((value : ℕ) × ComesTo value × (255 < value))

  -- the start is that of a point
  abbrev pub IsStart : Start → Type 0
  IsStart start = (height : ℕ) × HasHeight l image start height

  -- a start other than the reset, with its unit and depth
  pub record IsProc (p : Proc) : Type 0 where
    pub is_start : IsStart (At p.at)
    pub unit : IsUnitAt l p.at p.unit
    pub depth : IsDepth l image (At p.at) p.depth

  -- a root that begins at the vector, with the depth and the path of its start
  pub record IsRootDepth (start : Start) (vector : ℕ) (r : RootDepth) : Type 0 where
    pub root : IsRootAt l vector r.root
    pub depth : IsDepth l image start r.depth
    pub path : IsPath l image start r.path

  -- the bound of the program
  pub record IsBound (b : StackBound) : Type 0 where
    pub kept : KeepsHeights
    pub no_push : Keeps PushesAbove
    pub total : IsTotal b.total
    pub rising : Rises (map (λ p. p.at) b.procs)
    pub procs : (p : Proc) → Contains b.procs p → IsProc p
    pub all : (at : ℕ) → IsStart (At at) → Contains (map (λ p. p.at) b.procs) at
    pub reset : RootDepth
    pub interrupts : List RootDepth
    pub roots : b.roots ≡ reset ∷ interrupts
    pub reset_is : IsRootDepth Reset 0 reset
    pub interrupts_are : AreEach (λ vector. IsRootDepth (At vector) vector) (handlers l) interrupts

  -- what the call answers: the bound, or the first refusal of the list; out of memory says nothing
  abbrev pub Answers : Result StackBound StackError → Type 0
  Answers (Ok b) = IsBound b
  Answers (Err Limit) = HasTooMany l image
  Answers (Err (K1 start at)) = AreFew × IsFirst WritesSp start at
  Answers (Err (K2 start at)) = AreFew × Keeps WritesSp × IsFirst Computed start at
  Answers (Err (K3 start at)) = AreFew × Keeps WritesSp × Keeps Computed × IsFirst PopsBelow start at
  Answers (Err (K4 start)) = KeepsRules × IsFirstCyclic start
  Answers (Err (K5 start at)) = KeepsApart × IsLeast HasTwoHeights (Some (record { start = start; address = at }))
  Answers (Err K6) = KeepsHeights × IsTooDeep
  Answers (Err Memory) = Unit {0}

  -- which of K1 to K3 is broken, if one is
  abbrev pub IsBreach : Option StackError → Type 0
  IsBreach None = KeepsRules
  IsBreach (Some error) = Answers (Err error)
