-- Loop invariant, not part of the format: pieces that end before the last fixup's field. The search for the next
-- continues after them.
use Rattle.std.specs.Prelude.{◌≡◌, ℕ, ◌-◌, ◌≤◌, Bool, true, ◌&&◌, ◌||◌, ◌==◌, nat_le, nat_lt, List, length, take}
use Rattle.std.specs.Prelude.{Option, Some, None}
use Rattle.std.specs.List.{All}
use Rattle.m51_module.specs.declared.content.Fixup.{Fixup}
use Rattle.m51_module.specs.declared.content.Piece.{Piece}

-- the piece is in an earlier segment, or in this one and ends at the offset or below it
abbrev pub ends_by : ℕ → ℕ → Piece → Bool
ends_by segment offset p =
    nat_lt p.segment segment
    || ((p.segment == segment) && (nat_le p.offset offset && nat_le (length p.bytes) (offset - p.offset)))

abbrev pub EndBy : ℕ → ℕ → List Piece → Type 0
EndBy segment offset pieces = All (λ p. ends_by segment offset p ≡ true) pieces

-- the first `passed` pieces end by the field of the fixup before; without a fixup before `passed` is 0
pub record ArePassed (pieces : List Piece) (passed : ℕ) (previous : Option Fixup) : Type 0 where
  pub few : passed ≤ length pieces
  pub none : previous ≡ None → passed ≡ 0
  pub some : (f : Fixup) → previous ≡ Some f → EndBy f.segment f.offset (take passed pieces)
