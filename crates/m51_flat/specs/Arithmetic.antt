-- Moves, arithmetic and logic, from the family manual.
use Rattle.std.specs.Prelude.{ℕ, ◌+◌, ◌-◌, ◌*◌, ◌/◌, ◌%◌, Bool, false, ◌==◌, bit_and, bit_or, bit_xor}
use Rattle.m51_alu.specs.declared.sum.Sum.{Sum}
use Rattle.m51_alu.specs.Arithmetic.{bit_of, sum_of, difference_of, adjusted}
use Rattle.m51_flat.specs.declared.state.Pins.{Pins}
use Rattle.m51_flat.specs.declared.state.Effect.{Effect}
use Rattle.m51_flat.specs.declared.actions.Addressing.{Addressing}
use Rattle.m51_flat.specs.declared.actions.ByteOperand.{ByteOperand}
use Rattle.m51_flat.specs.declared.actions.Addition.{Addition}
use Rattle.m51_flat.specs.declared.actions.Addition.TheVariants.{Add, AddCarry, Subtract}
use Rattle.m51_flat.specs.declared.actions.Logic.{Logic}
use Rattle.m51_flat.specs.declared.actions.Logic.TheVariants.{Or, And, Xor}
use Rattle.m51_flat.specs.declared.actions.Count.{Count}
use Rattle.m51_flat.specs.declared.actions.Count.TheVariants.{Increment, Decrement}
use Rattle.m51_flat.specs.declared.actions.Turning.{Turning}
use Rattle.m51_flat.specs.declared.actions.Turning.TheVariants.{RotateRight, RotateRightCarry, RotateLeft}
use Rattle.m51_flat.specs.declared.actions.Turning.TheVariants.{RotateLeftCarry, SwapDigits, Complement, Adjust}
use Rattle.m51_flat.specs.Reads.{Reads, Ends, then_read}
use Rattle.m51_flat.specs.Sfr.{acc, latch, with_sfr}
use Rattle.m51_flat.specs.Operands.{location_of, latch_at, found_at, operand_value, with_location}
use Rattle.m51_flat.specs.Parts.{auxiliary_carry, carry, with_carry, with_sum}

-- a value is read and written
unfoldable pub assigned : Pins → Effect → Addressing → ByteOperand → Reads Effect
assigned ext e addressing from =
    then_read (location_of e.cpu addressing) (λ at.
    then_read (operand_value e.cpu ext from) (λ v. Ends (with_location at v e)))

-- the sum or difference of A and an operand
abbrev pub sum_by : Addition → ℕ → ℕ → Bool → Sum
sum_by Add a v c = sum_of a v false
sum_by AddCarry a v c = sum_of a v c
sum_by Subtract a v c = difference_of a v c

-- A and the flags become a sum
unfoldable pub summed : Pins → Effect → Addition → ByteOperand → Reads Effect
summed ext e op from =
    then_read (operand_value e.cpu ext from) (λ v. Ends (with_sum (sum_by op (latch e.cpu acc) v (carry e.cpu)) e))

-- each bit of one byte with that of another
abbrev pub logic_of : Logic → ℕ → ℕ → ℕ
logic_of Or v w = bit_or v w
logic_of And v w = bit_and v w
logic_of Xor v w = bit_xor v w

-- an operand, of a port its latch, is combined with another
unfoldable pub combined : Pins → Effect → Logic → Addressing → ByteOperand → Reads Effect
combined ext e op addressing from =
    then_read (location_of e.cpu addressing) (λ at.
    then_read (latch_at e.cpu at) (λ v.
    then_read (operand_value e.cpu ext from) (λ w. Ends (with_location at (logic_of op v w) e))))

-- one more or one less, modulo 256
abbrev pub stepped : Count → ℕ → ℕ
stepped Increment v = (v + 1) % 256
stepped Decrement v = (v + 255) % 256

-- an operand, of a port its latch, is counted up or down
unfoldable pub changed : Effect → Count → Addressing → Reads Effect
changed e count addressing =
    then_read (location_of e.cpu addressing) (λ at.
    then_read (latch_at e.cpu at) (λ v. Ends (with_location at (stepped count v) e)))

-- A and CY after a rotation by one bit, with or without CY; after an exchange of digits, a complement or DA
abbrev pub turned : Turning → ℕ → Bool → Bool → ℕ × Bool
turned RotateRight a cy ac = (a / 2 + 128 * (a % 2), cy)
turned RotateRightCarry a cy ac = (a / 2 + 128 * bit_of cy, a % 2 == 1)
turned RotateLeft a cy ac = (a % 128 * 2 + a / 128, cy)
turned RotateLeftCarry a cy ac = (a % 128 * 2 + bit_of cy, a / 128 == 1)
turned SwapDigits a cy ac = (a % 16 * 16 + a / 16, cy)
turned Complement a cy ac = (255 - a, cy)
turned Adjust a cy ac = adjusted a cy ac

-- A and CY are written
abbrev pub with_turned : ℕ × Bool → Effect → Effect
with_turned t e = with_sfr acc t.0 (with_carry t.1 e)

-- A is turned
unfoldable pub with_turn : Turning → Effect → Effect
with_turn by e = with_turned (turned by (latch e.cpu acc) (carry e.cpu) (auxiliary_carry e.cpu)) e

-- A is exchanged with an operand
unfoldable pub exchanged : Pins → Effect → Addressing → Reads Effect
exchanged ext e addressing =
    then_read (location_of e.cpu addressing) (λ at.
    then_read (found_at e.cpu ext at) (λ v. Ends (with_location at (latch e.cpu acc) (with_sfr acc v e))))

-- the low digits of A and an operand are exchanged
unfoldable pub digits_exchanged : Pins → Effect → Addressing → Reads Effect
digits_exchanged ext e addressing =
    then_read (location_of e.cpu addressing) (λ at.
    then_read (found_at e.cpu ext at) (λ v.
    let a = latch e.cpu acc in
    Ends (with_location at (v / 16 * 16 + a % 16) (with_sfr acc (a / 16 * 16 + v % 16) e))))
