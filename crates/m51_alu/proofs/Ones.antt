-- The ones among the bits of a byte, and their parity.
use Rattle.std.proofs.Common.{◌≡◌, ℕ, ◌+◌, ◌/◌, ◌%◌, ◌<◌, count_ones, nat_eq, arith}
use Rattle.std.proofs.lemmas.Bool.Decides.{nat_tests}
use lib.Count.{ones_step, ones-le}
use Rattle.m51_alu.specs.Arithmetic.{bit_of, parity_of}
use Rattle.m51_alu.specs.Laws.{ones_of}

-- the count takes one bit after another
ones_are : (a : ℕ) → a < 256 → count_ones a ≡ ones_of a
ones_are a within =
    let bit0 = ones_step a in
    let bit1 = ones_step (a / 2) in
    let bit2 = ones_step (a / 2 / 2) in
    let bit3 = ones_step (a / 2 / 2 / 2) in
    let bit4 = ones_step (a / 2 / 2 / 2 / 2) in
    let bit5 = ones_step (a / 2 / 2 / 2 / 2 / 2) in
    let bit6 = ones_step (a / 2 / 2 / 2 / 2 / 2 / 2) in
    let bit7 = ones_step (a / 2 / 2 / 2 / 2 / 2 / 2 / 2) in
    let none = ones-le 0 (a / 2 / 2 / 2 / 2 / 2 / 2 / 2 / 2) (omega arith) in
    omega arith

-- a number and one more where it is odd are even
evened : (n : ℕ) → (n + bit_of (nat_eq (n % 2) 1)) % 2 ≡ 0
evened n = grind (arith, nat_tests)

pub parity_evens : (a : ℕ) → a < 256 → (ones_of a + bit_of (parity_of a)) % 2 ≡ 0
parity_evens a within = omega (arith, ones_are a within, evened (count_ones a))
