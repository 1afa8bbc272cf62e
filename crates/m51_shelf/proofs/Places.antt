-- Buffers for files that are kept in memory.
use Rattle.std.proofs.Common.{ℕ, ◌≤◌, List, arith}
use Rattle.std.specs.Prelude.{Vec}
use Rattle.std.specs.declared.alloc.Global.{Global}
use Rattle.std.specs.List.{All}
use Rattle.m51_shelf.specs.Memory.{IsPlace}

less_room : (room less : ℕ) (buffer : Vec ℕ Global) → less ≤ room → IsPlace room buffer → IsPlace less buffer
less_room room less buffer below h = record { enough = omega (arith, below, h.enough); empty = h.empty }

-- buffers that have this room have also less
pub all_less : (room less : ℕ) (buffers : List (Vec ℕ Global)) → less ≤ room → All (IsPlace room) buffers
    → All (IsPlace less) buffers
all_less room less buffers below h = λ k d low. less_room room less _ below (h k d low)
