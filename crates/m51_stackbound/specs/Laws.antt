-- Laws of the answer: the total in other words, and that no two different answers are right.
use Rattle.std.specs.Prelude.{◌≡◌, ◌≢◌, ℕ, ◌+◌, ◌≤◌, ◌↔◌, List, Result, Ok, Err}
use Rattle.std.specs.List.{Contains}
use Rattle.m51_module.specs.declared.parts.LayoutParts.{LayoutParts}
use Rattle.m51_module.specs.declared.stack_bound.StackBound.{StackBound}
use Rattle.m51_module.specs.declared.stack_bound.StackError.{StackError}
use Rattle.m51_module.specs.declared.stack_bound.StackError.TheVariants.{Memory}
use Rattle.m51_module.specs.declared.start.Start.TheVariants.{Reset, At}
use Rattle.m51_module.specs.Sound.{IsSound}
use Rattle.m51_stackbound.specs.Bounds.{Answers, IsTotal}
use Rattle.m51_stackbound.specs.Depths.{IsDepth}
use Rattle.m51_stackbound.specs.Units.{handlers}

module _ (l : LayoutParts) (image : List ℕ) where
  -- what at most two different handlers add: 2 and the depth of each
  pub data DepthsAdd : ℕ → Type 0 where
    NoHandler : DepthsAdd 0
    OneHandler : (v d : ℕ) → Contains (handlers l) v → IsDepth l image (At v) d → DepthsAdd (2 + d)
    TwoHandlers : (v w d e : ℕ) → Contains (handlers l) v → Contains (handlers l) w → v ≢ w
        → IsDepth l image (At v) d → IsDepth l image (At w) e
        → DepthsAdd (2 + d + (2 + e))

  -- the depth of the reset plus the greatest sum of 2 and the depth over at most two different handlers
  pub record IsSumOfDepths (total : ℕ) : Type 0 where
    pub reset : ℕ
    pub more : ℕ
    pub reset_is : IsDepth l image Reset reset
    pub adds : DepthsAdd more
    pub greatest : (other : ℕ) → DepthsAdd other → other ≤ more
    pub total_is : total ≡ reset + more

  -- the roots have depths
  pub record HaveDepths : Type 0 where
    pub reset : (depth : ℕ) × IsDepth l image Reset depth
    pub handler : (v : ℕ) → Contains (handlers l) v → (depth : ℕ) × IsDepth l image (At v) depth

-- where the roots have depths, both say the same of the total
abbrev pub TotalIsSumOfDepths : Type 0
TotalIsSumOfDepths =
    (l : LayoutParts) (image : List ℕ) → HaveDepths l image → (total : ℕ)
    → IsTotal l image total ↔ IsSumOfDepths l image total

-- the answer is one that the clause ties to the program: not out of memory, and its total is a byte
abbrev pub IsTied : Result StackBound StackError → Type 0
IsTied (Ok b) = b.total ≤ 255
IsTied (Err Memory) = ⊥
IsTied (Err other) = Unit {0}

-- no two different answers meet the clause of `bound` for one sound layout and image
abbrev pub AnswerIsUnique : Type 0
AnswerIsUnique =
    (l : LayoutParts) (image : List ℕ) → IsSound l → (one two : Result StackBound StackError)
    → IsTied one → IsTied two → Answers l image one → Answers l image two → one ≡ two
