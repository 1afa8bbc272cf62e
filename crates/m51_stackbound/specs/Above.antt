-- What the parts of `bound` answer. Private contracts cite it.
use Rattle.std.specs.Prelude.{◌≡◌, ℕ, ◌≤◌, Bool, true, false, Option, Some, None, Err, ◌∷◌, List, map}
use Rattle.std.specs.List.{Contains}
use Rattle.m51_module.specs.declared.parts.LayoutParts.{LayoutParts}
use Rattle.m51_module.specs.declared.stack_bound.Proc.{Proc}
use Rattle.m51_module.specs.declared.stack_bound.RootDepth.{RootDepth}
use Rattle.m51_module.specs.declared.stack_bound.StackBound.{StackBound}
use Rattle.m51_module.specs.declared.stack_bound.StackError.{StackError}
use Rattle.m51_module.specs.declared.start.Start.{Start}
use Rattle.m51_module.specs.declared.start.Start.TheVariants.{Reset, At}
use Rattle.m51_module.specs.Rising.{Rises}
use Rattle.m51_stackbound.specs.declared.judging.Rule.TheVariants.{PushesAbove}
use Rattle.m51_stackbound.specs.Bounds.{AreEach, Answers, IsProc, IsRootDepth, IsStart, IsTooDeep, Keeps, KeepsHeights}
use Rattle.m51_stackbound.specs.Climb.{depth_in}
use Rattle.m51_stackbound.specs.Units.{handlers}

-- no depth in the table is above 255
abbrev pub AreLow : List ℕ → Type 0
AreLow depths = (start : Start) → depth_in depths start ≤ 255

-- K6 holds; or no PUSH is after 255 bytes and no depth is above 255, so that only a total may be
abbrev pub IsAbove : LayoutParts → List ℕ → List ℕ → Bool → Type 0
IsAbove l image depths true = IsTooDeep l image
IsAbove l image depths false = Keeps l image PushesAbove × AreLow depths

-- K1 to K5 are kept; or a refusal that is right
abbrev pub IsTangle : LayoutParts → List ℕ → Option StackError → Type 0
IsTangle l image None = KeepsHeights l image
IsTangle l image (Some error) = Answers l image (Err error)

-- the lists of a bound, and its total
pub record HasLists (l : LayoutParts) (image : List ℕ) (total : ℕ) (b : StackBound) : Type 0 where
  pub total_is : b.total ≡ total
  pub rising : Rises (map (λ p. p.at) b.procs)
  pub procs : (p : Proc) → Contains b.procs p → IsProc l image p
  pub all : (at : ℕ) → IsStart l image (At at) → Contains (map (λ p. p.at) b.procs) at
  pub reset : RootDepth
  pub interrupts : List RootDepth
  pub roots : b.roots ≡ reset ∷ interrupts
  pub reset_is : IsRootDepth l image Reset 0 reset
  pub interrupts_are : AreEach (λ vector. IsRootDepth l image (At vector) vector) (handlers l) interrupts
