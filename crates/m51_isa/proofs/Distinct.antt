-- No bytes begin with two rows: what is decoded is the instruction of the row.
use Rattle.std.proofs.Common.{◌≡◌, ℕ, ◌+◌, ◌*◌, ◌/◌, ◌%◌, ◌<◌, zero, suc, List, [], ◌∷◌, Option, refl, sym, ap}
use Rattle.std.proofs.Common.{subst, ◌∙◌, arith, map, get_or}
use Rattle.std.specs.Prelude.{Some}
use Rattle.std.specs.List.{range_with_len}
use Rattle.std.proofs.lemmas.List.FromFn.{get_or-map-range_with_len}
use Rattle.m51_isa.specs.declared.instr.Instr.{Instr}
use Rattle.m51_isa.specs.declared.instr.Instr.TheVariants as row
use Rattle.m51_isa.specs.declared.slot.Slot.{Slot}
use Rattle.m51_isa.specs.declared.slot.Slot.TheVariants.{R, AtR}
use Rattle.m51_isa.specs.Operands.{FitsAddress, FitsRegister}
use Rattle.m51_isa.specs.Filling.{remade}
use Rattle.m51_isa.specs.Table.{BeginsWith, OperandsFit, Text, decoded, decoded_at, encoded, text_of}
use Rattle.m51_isa.specs.TextLaws.{number_of_slot}
use Rattle.m51_isa.specs.Laws.{RowsDecode, OneRow}

pub of_register : (P : ℕ → Type 0) → P 0 → P 1 → P 2 → P 3 → P 4 → P 5 → P 6 → P 7 → (n : ℕ) → n < 8 → P n
of_register P p0 p1 p2 p3 p4 p5 p6 p7 zero h = p0
of_register P p0 p1 p2 p3 p4 p5 p6 p7 (suc zero) h = p1
of_register P p0 p1 p2 p3 p4 p5 p6 p7 (suc (suc zero)) h = p2
of_register P p0 p1 p2 p3 p4 p5 p6 p7 (suc (suc (suc zero))) h = p3
of_register P p0 p1 p2 p3 p4 p5 p6 p7 (suc (suc (suc (suc zero)))) h = p4
of_register P p0 p1 p2 p3 p4 p5 p6 p7 (suc (suc (suc (suc (suc zero))))) h = p5
of_register P p0 p1 p2 p3 p4 p5 p6 p7 (suc (suc (suc (suc (suc (suc zero)))))) h = p6
of_register P p0 p1 p2 p3 p4 p5 p6 p7 (suc (suc (suc (suc (suc (suc (suc zero))))))) h = p7
of_register P p0 p1 p2 p3 p4 p5 p6 p7 (suc (suc (suc (suc (suc (suc (suc (suc n)))))))) h = absurd (omega arith)

-- two functions that give the same up to a number agree below it
pub agree : {X : Type 0} (f g : ℕ → X) (count : ℕ)
    → map f (range_with_len 0 count) ≡ map g (range_with_len 0 count) → (n : ℕ) → n < count → f n ≡ g n
agree f g count same n h =
    let at_f = get_or-map-range_with_len f 0 count n n (f 0) h (omega arith) in
    let at_g = get_or-map-range_with_len g 0 count n n (f 0) h (omega arith) in
    sym at_f ∙ ap (λ xs. get_or xs n (f 0)) same ∙ at_g

-- bytes that begin with these
abbrev begun : List ℕ → List ℕ → List ℕ
begun [] bytes = bytes
begun (x ∷ front) [] = []
begun (x ∷ front) (b ∷ bytes) = x ∷ begun front bytes

begun_is : (bytes front : List ℕ) → BeginsWith bytes front → begun front bytes ≡ bytes
begun_is bytes [] h = refl
begun_is [] (x ∷ front) h = absurd h
begun_is (b ∷ bytes) (x ∷ front) h = cc (h.0, begun_is bytes front h.1)

word_halves : (n : ℕ) → n / 256 * 256 + n % 256 ≡ n
word_halves n = omega arith

-- how many registers an operand may be, else this; its register, else this; and its number, with this register
abbrev registers_of : Slot → ℕ → ℕ
registers_of (R own) other = 8
registers_of (AtR own) other = 2
registers_of slot other = other

abbrev register_in : Slot → ℕ → ℕ
register_in (R own) other = own
register_in (AtR own) other = own
register_in slot other = other

abbrev number_with : Slot → ℕ → ℕ
number_with (R own) n = n
number_with (AtR own) n = n
number_with slot n = number_of_slot slot

-- how many registers a row may have, one of them, and the row with another
abbrev registers : Instr → ℕ
registers i = registers_of (text_of i).first (registers_of (text_of i).second 1)

abbrev register_of : Instr → ℕ
register_of i = register_in (text_of i).first (register_in (text_of i).second 0)

abbrev with_register : Instr → ℕ → Instr
with_register i n =
    let t : Text = text_of i in remade i (number_with t.first n) (number_with t.second n) (number_with t.third n)

register_fits : (s t : Slot) (Else : Type 0) → FitsRegister s (FitsRegister t Else)
    → register_in s (register_in t 0) < registers_of s (registers_of t 1)
register_fits (R n) t Else h = h
register_fits (AtR n) t Else h = h
register_fits s (R n) Else h = h
register_fits s (AtR n) Else h = h
register_fits s t Else h = omega arith

module _ (first second third : ℕ) where
  -- what bytes that begin with a row are decoded as
  abbrev decoded_over : Instr → Option Instr
  decoded_over i = decoded (begun (encoded i) (first ∷ second ∷ third ∷ []))

  -- rows with an address of 11 bits: its top three bits are one of eight numbers in the opcode
  in_block : (row : ℕ → Instr) (opcode address : ℕ)
      → map (λ page. decoded_at (opcode + 32 * page) (address % 256) third) (range_with_len 0 8)
      ≡ map (λ page. Some (row (page * 256 + address % 256))) (range_with_len 0 8)
      → address < 2048 → decoded_at (opcode + 32 * (address / 256)) (address % 256) third ≡ Some (row address)
  in_block row opcode address same h =
      agree (λ page. decoded_at (opcode + 32 * page) (address % 256) third)
      (λ page. Some (row (page * 256 + address % 256))) 8 same (address / 256) (omega arith)
      ∙ ap (λ n. Some (row n)) (word_halves address)

  decodes : (i : Instr) → OperandsFit i → decoded_over i ≡ Some i
  decodes row.Nop h = refl
  decodes (row.MovDptrData16 word) h = ap (λ n. Some (row.MovDptrData16 n)) (word_halves word)
  decodes (row.LjmpAddr16 word) h = ap (λ n. Some (row.LjmpAddr16 n)) (word_halves word)
  decodes (row.LcallAddr16 word) h = ap (λ n. Some (row.LcallAddr16 n)) (word_halves word)
  decodes (row.AjmpAddr11 address) h = in_block row.AjmpAddr11 0x01 address refl h
  decodes (row.AcallAddr11 address) h = in_block row.AcallAddr11 0x11 address refl h
  decodes i h =
      agree (λ n. decoded_over (with_register i n)) (λ n. Some (with_register i n)) (registers i) refl (register_of i)
      (register_fits (text_of i).first (text_of i).second (FitsAddress (text_of i).first) h)

-- bytes that begin with a row give its instruction
pub rows_decode : RowsDecode
rows_decode i first second third h =
    subst (λ bytes. decoded bytes ≡ Some i) (begun_is (first ∷ second ∷ third ∷ []) (encoded i) h.begins)
    (decodes first second third i h.fits)

pub some_injective : {i j : Instr} → Some i ≡ Some j → i ≡ j
some_injective e = cc e

pub one_row : OneRow
one_row i j first second third h k =
    some_injective (sym (rows_decode i first second third h) ∙ rows_decode j first second third k)
