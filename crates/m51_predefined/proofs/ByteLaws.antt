-- The bytes with named bits have addresses for their bits.
use Rattle.std.proofs.Common.{◌≡◌, ℕ, ◌+◌, ◌-◌, ◌*◌, ◌%◌, ◌<◌, Bool, true, not, ◌&&◌, ◌==◌, cond, ltb, leb, Some, None}
use Rattle.std.proofs.Common.{Ok, refl, sym, ap, ◌∙◌, arith}
use Rattle.std.specs.Prelude.{All, List}
use Rattle.std.specs.List.{list_all, slice_index_or}
use Rattle.std.proofs.lemmas.Bool.{and_parts, eq-eqb, ltb-true, not-true, le-ltb, cond-true, cond-false}
use Rattle.std.proofs.lemmas.List.Sums.{AllPass-from_list_all}
use Rattle.m51_cells.specs.declared.kind.Kind.TheVariants as kind
use Rattle.m51_expr.specs.Value.{plain, fault, bit_address}
use Rattle.m51_expr.specs.Meanings.{Meanings}
use Rattle.m51_expr.specs.Bits.{placed_bit, dotted_bit}
use Rattle.m51_sfr.specs.Registers.{Register, Row, table}
use Rattle.m51_predefined.specs.Laws.{HasBits, BytesHaveBits}

-- one of the bytes 20H to 2FH
abbrev is_low : ℕ → Bool
is_low a = leb 0x20 a && leb a 0x2F

-- a multiple of 8 from 80H to 0F8H
abbrev is_high : ℕ → Bool
is_high a = (leb 0x80 a && leb a 0xF8) && a % 8 == 0

-- an address of a bit-addressable register
abbrev is_bit_address : ℕ → Bool
is_bit_address a = not (is_low a) && is_high a

-- the numbers of its bits are below 8
abbrev are_low : List Row → Bool
are_low bits = list_all (λ (b : Row). ltb b.address 8) bits

-- of a register at a multiple of 8
abbrev is_bit_byte : Register → Bool
is_bit_byte r = cond (r.address % 8 == 0) (are_low r.bits && is_bit_address r.address) true

all_are : list_all is_bit_byte table ≡ true
unfolding table
all_are = refl

has_address : (a bit : ℕ) → is_bit_address a ≡ true → bit < 8 → bit_address a bit ≡ Some (a + bit)
has_address a bit h below =
    let parts = and_parts (not (is_low a)) (is_high a) h in
    cond-false (ltb 7 bit) None (cond (is_low a) (Some ((a - 0x20) * 8 + bit)) (cond (is_high a) (Some (a + bit)) None))
    (le-ltb 7 bit (omega (arith, below)))
    ∙ cond-false (is_low a) (Some ((a - 0x20) * 8 + bit)) (cond (is_high a) (Some (a + bit)) None)
    (not-true (is_low a) parts.0)
    ∙ cond-true (is_high a) (Some (a + bit)) None parts.1

dot_is : (names : Meanings) (a bit : ℕ) → bit < 8 → bit_address a bit ≡ Some (a + bit)
    → dotted_bit names (plain a kind.Direct) bit ≡ Ok (plain (a + bit) kind.Bits)
dot_is names a bit below e =
    cond-false (ltb 7 bit) (fault 10) (placed_bit (plain a kind.Direct) bit (bit_address a bit))
    (le-ltb 7 bit (omega (arith, below)))
    ∙ ap (λ o. placed_bit (plain a kind.Direct) bit o) e

low_of : (bits : List Row) → are_low bits ≡ true → All (λ (b : Row). b.address < 8) bits
low_of bits h = λ k d within. ltb-true (slice_index_or bits k d).address 8
    (AllPass-from_list_all (λ (b : Row). ltb b.address 8) bits h k d within)

has_bits : (r : Register) → is_bit_byte r ≡ true → r.address % 8 ≡ 0 → HasBits r
has_bits r h even =
    let parts = and_parts (are_low r.bits) (is_bit_address r.address)
    (sym (cond-true (r.address % 8 == 0) (are_low r.bits && is_bit_address r.address) true
    (eq-eqb (r.address % 8) 0 even)) ∙ h) in
    record {
      named = low_of r.bits parts.0;
      addresses = λ bit below. has_address r.address bit parts.1 below;
      dot = λ names bit below. dot_is names r.address bit below (has_address r.address bit parts.1 below);
    }

pub bytes_have_bits : BytesHaveBits
bytes_have_bits = λ k d within. has_bits (slice_index_or table k d)
    (AllPass-from_list_all is_bit_byte table all_are k d within)
