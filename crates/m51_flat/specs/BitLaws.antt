-- Flags and rotations bit by bit, by the family manual.
use Rattle.std.specs.Prelude.{◌≡◌, ◌≢◌, ℕ, ◌+◌, ◌%◌, ◌<◌, Bool, nat_eq, if◌then◌else◌}
use Rattle.std.specs.Int.{bit_at}
use Rattle.m51_alu.specs.declared.sum.Sum.{Sum}
use Rattle.m51_alu.specs.Arithmetic.{bit_of}
use Rattle.m51_flat.specs.declared.actions.Turning.TheVariants.{RotateRight, RotateRightCarry, RotateLeft}
use Rattle.m51_flat.specs.declared.actions.Turning.TheVariants.{RotateLeftCarry, SwapDigits, Complement}
use Rattle.m51_flat.specs.Sfr.{with_bit}
use Rattle.m51_flat.specs.Parts.{with_flags}
use Rattle.m51_flat.specs.Arithmetic.{turned}

-- of a byte with one bit replaced that bit is new, and all others stay
abbrev pub OneBitIsReplaced : Type 0
OneBitIsReplaced =
    (byte k j : ℕ) (b : Bool) → k < 8 → j < 8
    → bit_at (with_bit byte k b) j ≡ (if nat_eq j k then bit_of b else bit_at byte j)

-- bits 7, 6 and 2 are CY, AC and OV, and the others are as before
pub record HasFlags (s : Sum) (old new : ℕ) : Type 0 where
  pub cy : bit_at new 7 ≡ bit_of s.cy
  pub ac : bit_at new 6 ≡ bit_of s.ac
  pub ov : bit_at new 2 ≡ bit_of s.ov
  pub others : (k : ℕ) → k < 8 → k ≢ 7 → k ≢ 6 → k ≢ 2 → bit_at new k ≡ bit_at old k

-- the flags of a sum are written and no other bit of PSW is
abbrev pub FlagsAreWritten : Type 0
FlagsAreWritten = (s : Sum) (psw : ℕ) → HasFlags s psw (with_flags s psw)

-- where each bit of A comes from after RR, RL, SWAP, CPL, RRC and RLC, and where CY comes from
pub record TurnsBits (a : ℕ) (cy ac : Bool) : Type 0 where
  pub right : (k : ℕ) → k < 8 → bit_at (turned RotateRight a cy ac).0 k ≡ bit_at a ((k + 1) % 8)
  pub left : (k : ℕ) → k < 8 → bit_at (turned RotateLeft a cy ac).0 k ≡ bit_at a ((k + 7) % 8)
  pub swapped : (k : ℕ) → k < 8 → bit_at (turned SwapDigits a cy ac).0 k ≡ bit_at a ((k + 4) % 8)
  pub complement : (k : ℕ) → k < 8 → bit_at (turned Complement a cy ac).0 k + bit_at a k ≡ 1
  pub right_carry : (k : ℕ) → k < 7 → bit_at (turned RotateRightCarry a cy ac).0 k ≡ bit_at a (k + 1)
  pub right_carry_in : bit_at (turned RotateRightCarry a cy ac).0 7 ≡ bit_of cy
  pub right_carry_out : bit_of (turned RotateRightCarry a cy ac).1 ≡ bit_at a 0
  pub left_carry : (k : ℕ) → k < 7 → bit_at (turned RotateLeftCarry a cy ac).0 (k + 1) ≡ bit_at a k
  pub left_carry_in : bit_at (turned RotateLeftCarry a cy ac).0 0 ≡ bit_of cy
  pub left_carry_out : bit_of (turned RotateLeftCarry a cy ac).1 ≡ bit_at a 7

abbrev pub BitsAreTurned : Type 0
BitsAreTurned = (a : ℕ) (cy ac : Bool) → a < 256 → TurnsBits a cy ac
