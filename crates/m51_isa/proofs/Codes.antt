-- An instruction's code is its row's bytes with zeros after them, and is decoded as that instruction.
use Rattle.std.proofs.Common.{◌≡◌, ℕ, ◌≤◌, List, [], ◌∷◌, length, take, refl, ◌∙◌, sym, ap, subst, arith, lit≤}
use Rattle.std.specs.Prelude.{Option, Some}
use Rattle.m51_isa.specs.declared.instr.Instr.{Instr}
use Rattle.m51_isa.specs.declared.instr.Instr.TheVariants.{Nop}
use Rattle.m51_isa.specs.Table.{BeginsWith, IsRowAt, OperandsFit, decoded, encoded, length_of, padded}
use Rattle.m51_isa.specs.Laws.{HasShortRow, RowsAreShort, CodesDecode, FrontsAgree}
use Rattle.m51_isa.proofs.Distinct.{rows_decode, some_injective}

short_row : (i : Instr) → 1 ≤ length_of i → length_of i ≤ 3 → HasShortRow i
short_row i h k = record { one = h; three = k }

pub rows_are_short : RowsAreShort
rows_are_short Nop = short_row Nop (lit≤ tt) (lit≤ tt)
rows_are_short _ = short_row _ (lit≤ tt) (lit≤ tt)

begins_padded : (bytes : List ℕ) → length bytes ≤ 3 → BeginsWith (padded bytes) bytes
begins_padded [] h = tt
begins_padded (a ∷ []) h = (refl, tt)
begins_padded (a ∷ b ∷ []) h = (refl, (refl, tt))
begins_padded (a ∷ b ∷ c ∷ []) h = (refl, (refl, (refl, tt)))
begins_padded (a ∷ b ∷ c ∷ d ∷ rest) h = absurd (omega (arith, h))

decoded_row : (bytes : List ℕ) (i : Instr) → length bytes ≡ 3 → IsRowAt bytes i → decoded bytes ≡ Some i
decoded_row (a ∷ b ∷ c ∷ []) i n h = rows_decode i a b c h
decoded_row [] i n h = cc n
decoded_row (a ∷ []) i n h = absurd (omega (arith, n))
decoded_row (a ∷ b ∷ []) i n h = absurd (omega (arith, n))
decoded_row (a ∷ b ∷ c ∷ d ∷ rest) i n h = absurd (omega (arith, n))

length-padded : (bytes : List ℕ) → length (padded bytes) ≡ 3
length-padded [] = refl
length-padded (a ∷ []) = refl
length-padded (a ∷ b ∷ []) = refl
length-padded (a ∷ b ∷ c ∷ rest) = refl

pub codes_decode : CodesDecode
codes_decode i h =
    decoded_row (padded (encoded i)) i (length-padded (encoded i))
    (record { fits = h; begins = begins_padded (encoded i) (rows_are_short i).three })

-- three bytes that are an instruction's, with zeros after them, begin with its row
pub padded_row : (bytes : List ℕ) (i : Instr) → bytes ≡ padded (encoded i) → OperandsFit i → IsRowAt bytes i
padded_row bytes i e h =
    subst (λ bs. IsRowAt bs i) (sym e)
    (record { fits = h; begins = begins_padded (encoded i) (rows_are_short i).three })

-- two instructions with the same bytes are one
pub one_code : (i j : Instr) → OperandsFit i → OperandsFit j → padded (encoded i) ≡ padded (encoded j) → i ≡ j
one_code i j h k e = some_injective (sym (codes_decode i h) ∙ ap decoded e ∙ codes_decode j k)

take_begun : (bytes front : List ℕ) → BeginsWith bytes front → take (length front) bytes ≡ front
take_begun bytes [] h = refl
take_begun [] (a ∷ front) h = absurd h
take_begun (b ∷ bytes) (a ∷ front) h = grind (arith, h.0, take_begun bytes front h.1)

pub fronts_agree : FrontsAgree
fronts_agree i bytes h = record {
  front = take_begun bytes (encoded i) h.begins;
  code = take_begun (padded (encoded i)) (encoded i) (begins_padded (encoded i) (rows_are_short i).three);
}

pub only_row : (bytes : List ℕ) (answer : Option Instr) → length bytes ≡ 3 → answer ≡ decoded bytes → (i : Instr)
    → IsRowAt bytes i → answer ≡ Some i
only_row bytes answer n e i h = e ∙ decoded_row bytes i n h
