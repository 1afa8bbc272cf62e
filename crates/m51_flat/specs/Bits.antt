-- Operations on bits, from the family manual.
use Rattle.std.specs.Prelude.{ℕ, Bool, true, false, not, ◌&&◌, ◌||◌, ◌==◌, if◌then◌else◌}
use Rattle.m51_flat.specs.declared.state.Cpu.{Cpu}
use Rattle.m51_flat.specs.declared.state.Pins.{Pins}
use Rattle.m51_flat.specs.declared.state.Effect.{Effect}
use Rattle.m51_flat.specs.declared.actions.CarryChange.{CarryChange}
use Rattle.m51_flat.specs.declared.actions.CarryChange.TheVariants.{CarryClear, CarrySet, CarryFlip}
use Rattle.m51_flat.specs.declared.actions.CarryMerge.{CarryMerge}
use Rattle.m51_flat.specs.declared.actions.CarryMerge.TheVariants.{CarryLoad, CarryAnd, CarryAndNot, CarryOr}
use Rattle.m51_flat.specs.declared.actions.CarryMerge.TheVariants.{CarryOrNot}
use Rattle.m51_flat.specs.declared.actions.BitSource.{BitSource}
use Rattle.m51_flat.specs.declared.actions.BitSource.TheVariants.{One, Zero, FromCarry}
use Rattle.m51_flat.specs.declared.actions.BitTest.{BitTest}
use Rattle.m51_flat.specs.declared.actions.BitTest.TheVariants.{IfSet, IfClear}
use Rattle.m51_flat.specs.Reads.{Reads, Ends, then_read}
use Rattle.m51_flat.specs.Operands.{bit_latch_at, bit_found_at, with_bit_at}
use Rattle.m51_flat.specs.Parts.{branched, carry, with_carry}

-- CY cleared, set or complemented
abbrev pub changed_carry : CarryChange → Bool → Bool
changed_carry CarryClear cy = false
changed_carry CarrySet cy = true
changed_carry CarryFlip cy = not cy

-- CY loaded from a bit, or combined with it or its complement
abbrev pub merged_carry : CarryMerge → Bool → Bool → Bool
merged_carry CarryLoad cy b = b
merged_carry CarryAnd cy b = cy && b
merged_carry CarryAndNot cy b = cy && not b
merged_carry CarryOr cy b = cy || b
merged_carry CarryOrNot cy b = cy || not b

-- the bit that is written
abbrev pub bit_from : BitSource → Cpu → Bool
bit_from One cpu = true
bit_from Zero cpu = false
bit_from FromCarry cpu = carry cpu

-- CY is loaded or combined; at a port the pin is read
unfoldable pub carry_merged : Pins → Effect → CarryMerge → ℕ → Reads Effect
carry_merged ext e by bit =
    then_read (bit_found_at e.cpu ext bit) (λ v. Ends (with_carry (merged_carry by (carry e.cpu) (v == 1)) e))

-- a bit, of a port that of its latch, is complemented
unfoldable pub bit_flipped : Effect → ℕ → Reads Effect
bit_flipped e bit = then_read (bit_latch_at e.cpu bit) (λ v. Ends (with_bit_at bit (not (v == 1)) e))

-- a bit is 1, or it is 0
abbrev pub passes : BitTest → Bool → Bool
passes IfSet v = v
passes IfClear v = not v

-- a branch on a bit; at a port the pin is read
unfoldable pub branched_on_bit : Pins → Effect → BitTest → ℕ → ℕ → Reads Effect
branched_on_bit ext e test bit rel =
    then_read (bit_found_at e.cpu ext bit) (λ v. Ends (branched (passes test (v == 1)) rel e))

-- where a bit is 1 it is cleared and the branch is taken; else nothing is written
unfoldable pub tested_and_cleared : Effect → ℕ → ℕ → Reads Effect
tested_and_cleared e bit rel =
    then_read (bit_latch_at e.cpu bit) (λ v. Ends (if v == 1 then branched true rel (with_bit_at bit false e) else e))
