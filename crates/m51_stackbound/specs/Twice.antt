-- ReachedAddresses that two points have.
use Rattle.std.specs.Prelude.{◌≡◌, ◌⊎◌, ℕ, ◌<◌, Bool, true, false, List, [], ◌∷◌, ◌++◌, length, take, slice_index_or}
use Rattle.std.specs.List.{Contains}
use Rattle.m51_stackbound.specs.declared.point.ReachedAddress.{ReachedAddress}
use Rattle.m51_stackbound.specs.declared.point.Point.{Point}
use Rattle.m51_stackbound.specs.Rules.{reached_address}

-- a reached address is added, unless it is in the list
abbrev pub NotesPlace : List ReachedAddress → ReachedAddress → List ReachedAddress → Bool → Type 0
NotesPlace old reached new again =
    ((again ≡ true) × (new ≡ old) × Contains old reached)
    ⊎ ((again ≡ false) × (new ≡ old ++ reached ∷ []) × (Contains old reached → ⊥))

-- one of the first points, of this number, has the reached address, and a point before it has it too
pub record HasTwo (points : List Point) (count : ℕ) (reached : ReachedAddress) : Type 0 where
  pub second : ℕ
  pub below : second < count
  pub inside : second < length points
  pub one : Point
  pub before : Contains (take second points) one
  pub place_one : reached_address one ≡ reached
  pub place_two : (d : Point) → reached_address (slice_index_or points second d) ≡ reached
