-- The two greatest numbers of bytes that interrupts add, by a table of depths. Private contracts cite it.
use Rattle.std.specs.Prelude.{◌≡◌, ◌≢◌, ◌⊎◌, ℕ, ◌+◌, ◌≤◌, nat_lt, if◌then◌else◌, List}
use Rattle.std.specs.List.{Contains}
use Rattle.m51_module.specs.declared.start.Start.TheVariants.{Reset, At}
use Rattle.m51_stackbound.specs.declared.totals.Greatest.{Greatest}
use Rattle.m51_stackbound.specs.Climb.{depth_in}

-- what an interrupt adds: two bytes for its return address, and its depth
abbrev pub added : List ℕ → ℕ → ℕ
added depths vector = depth_in depths (At vector) + 2

-- the two greatest of three numbers
unfoldable pub with_bytes : Greatest → ℕ → Greatest
with_bytes old bytes =
    if nat_lt old.first bytes then record { first = bytes; second = old.first }
    else if nat_lt old.second bytes then record { first = old.first; second = bytes } else old

-- one of the interrupts adds this number of bytes
pub record OneAdds (depths vectors : List ℕ) (bytes : ℕ) : Type 0 where
  pub vector : ℕ
  pub listed : Contains vectors vector
  pub bytes_are : bytes ≡ added depths vector

-- two different interrupts add these numbers of bytes
pub record TwoAdd (depths vectors : List ℕ) (one two : ℕ) : Type 0 where
  pub first : OneAdds depths vectors one
  pub second : OneAdds depths vectors two
  pub different : first.vector ≢ second.vector

-- the two greatest numbers that these interrupts add; 0 where there is none
pub record AreGreatest (depths vectors : List ℕ) (g : Greatest) : Type 0 where
  pub one : (g.first ≡ 0) ⊎ OneAdds depths vectors g.first
  pub two : (g.second ≡ 0) ⊎ TwoAdd depths vectors g.first g.second
  pub order : g.second ≤ g.first
  pub most : (v : ℕ) → Contains vectors v → added depths v ≤ g.first
  pub sum : (v w : ℕ) → Contains vectors v → Contains vectors w → v ≢ w
      → added depths v + added depths w ≤ g.first + g.second

-- the depth of the reset and the two greatest numbers that these interrupts add
pub record IsSum (depths vectors : List ℕ) (total : ℕ) : Type 0 where
  pub greatest : Greatest
  pub are : AreGreatest depths vectors greatest
  pub total_is : total ≡ depth_in depths Reset + greatest.first + greatest.second
