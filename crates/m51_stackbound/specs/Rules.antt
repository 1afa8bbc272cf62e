-- Rules that a point may break, and the order of reached addresses.
use Rattle.std.specs.Prelude.{◌≡◌, ◌⊎◌, ℕ, ◌+◌, ◌<◌, ◌≤◌, Bool, true, false, ◌&&◌, ◌||◌, nat_eq, nat_lt, nat_le}
use Rattle.std.specs.Prelude.{if◌then◌else◌, List, Option, Some, None}
use Rattle.std.specs.List.{Contains}
use Rattle.m51_isa.specs.declared.instr.Instr.{Instr}
use Rattle.m51_module.specs.declared.parts.LayoutParts.{LayoutParts}
use Rattle.m51_stackbound.specs.declared.judging.Rule.{Rule}
use Rattle.m51_stackbound.specs.declared.judging.Rule.TheVariants.{WritesSp, Computed, PopsBelow, PushesAbove}
use Rattle.m51_stackbound.specs.declared.point.ReachedAddress.{ReachedAddress}
use Rattle.m51_stackbound.specs.declared.point.Point.{Point}
use Rattle.m51_module.specs.declared.start.Start.{Start}
use Rattle.m51_module.specs.declared.start.Start.TheVariants.{Reset, At}
use Rattle.m51_stackbound.specs.Instructions.{is_computed}
use Rattle.m51_stackbound.specs.Points.{instruction, pops_below, pushes_above, sets_stack}

-- the reset comes before all other starts, which come by their addresses
abbrev pub rank : Start → ℕ
rank Reset = 0
rank (At address) = address + 1

-- the first reached address is no later than the second: by starts, and then by addresses
abbrev pub NoLater : ReachedAddress → ReachedAddress → Type 0
NoLater p q = (rank p.start < rank q.start) ⊎ ((rank p.start ≡ rank q.start) × (p.address ≤ q.address))

unfoldable pub no_later : ReachedAddress → ReachedAddress → Bool
no_later p q =
    nat_lt (rank p.start) (rank q.start) || (nat_eq (rank p.start) (rank q.start) && nat_le p.address q.address)

-- the first of the reached addresses that were met and of one more
unfoldable pub lesser : Option ReachedAddress → ReachedAddress → ReachedAddress
lesser None reached = reached
lesser (Some old) reached = if no_later old reached then old else reached

-- the first of all reached addresses that are so, if there is one
abbrev pub IsLeast : (ReachedAddress → Type 0) → Option ReachedAddress → Type 0
IsLeast Is None = (reached : ReachedAddress) → Is reached → ⊥
IsLeast Is (Some least) = Is least × ((reached : ReachedAddress) → Is reached → NoLater least reached)

-- a point with this instruction breaks the rule
abbrev pub breaks : Rule → Point → Instr → Bool
breaks WritesSp p instr = sets_stack p instr
breaks Computed p instr = is_computed instr
breaks PopsBelow p instr = pops_below p instr
breaks PushesAbove p instr = pushes_above p instr

unfoldable pub breaks_by : Rule → Point → Option Instr → Bool
breaks_by rule p None = false
breaks_by rule p (Some instr) = breaks rule p instr

abbrev pub reached_address : Point → ReachedAddress
reached_address p = record { start = p.start; address = p.address }

-- one of these points breaks the rule at the reached address
pub record IsBroken
    (l : LayoutParts) (image : List ℕ) (rule : Rule) (Is : Point → Type 0) (reached : ReachedAddress)
    : Type 0 where
  pub point : Point
  pub is_point : Is point
  pub breaks : breaks_by rule point (instruction l image point.address) ≡ true
  pub place_is : reached_address point ≡ reached

-- the first reached address at which one of the listed points breaks the rule
abbrev pub IsFirstBreach : LayoutParts → List ℕ → Rule → List Point → Option ReachedAddress → Type 0
IsFirstBreach l image rule points = IsLeast (IsBroken l image rule (Contains points))
