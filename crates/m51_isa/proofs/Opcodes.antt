-- The rows of the opcodes: what is decoded by the table is what the manual's table of opcodes says.
use Rattle.std.proofs.Common.{◌≡◌, ℕ, ◌+◌, ◌*◌, ◌/◌, ◌%◌, ◌<◌, Bool, true, cond, nat_eq, nat_lt, List, [], ◌∷◌}
use Rattle.std.proofs.Common.{Option, Some, None, take, length, refl, sym, ap, subst, ◌∙◌, arith}
use Rattle.std.specs.Prelude.{false, is_none, IsSome, option_map, slice_index, zero, suc}
use Rattle.std.proofs.lemmas.Grind.{common_steps}
use Rattle.m51_isa.specs.declared.instr.Instr.{Instr}
use Rattle.m51_isa.specs.declared.slot.Field.{Field}
use Rattle.m51_isa.specs.declared.slot.Field.TheVariants as field
use Rattle.m51_isa.specs.declared.table.Columns.{Columns}
use Rattle.m51_isa.specs.declared.table.Operand.{Operand}
use Rattle.m51_isa.specs.declared.table.Operand.TheVariants.{R, AtR, Imm, Plain, NotBit}
use Rattle.m51_isa.specs.Laws.{NoneReserved, OthersDecode}
use Rattle.m51_isa.specs.Operands.{Bytes, field_at, list_of, with_field}
use Rattle.m51_isa.specs.Rows.{bytes_by, columns_at, made_at, number_at, row_count, row_of_opcode, row_text}
use Rattle.m51_isa.specs.Rows.{with_operand}
use Rattle.m51_isa.specs.Table.{BeginsWith, IsRowAt, OperandsFit, decoded_at, encoded, is_reserved, text_length}
use Rattle.m51_isa.proofs.Distinct.{agree, rows_decode}
use Rattle.m51_isa.proofs.NumberedRows.{bytes_at}

-- bytes with the field, and with the operand, of these bytes
abbrev field_put : Field → ℕ → Bytes → Bytes → Bytes
field_put field.Data16 byte own bytes = (bytes.0, own.1, own.2)
field_put field.Addr16 byte own bytes = (bytes.0, own.1, own.2)
field_put field.Addr11 byte own bytes = (bytes.0 + 32 * (own.0 / 32), own.1, bytes.2)
field_put f byte own bytes = cond (nat_eq byte 1) (bytes.0, own.1, bytes.2) (bytes.0, bytes.1, own.2)

abbrev operand_put : Operand → Bytes → Bytes → Bytes
operand_put R own bytes = (bytes.0 + own.0 % 8, bytes.1, bytes.2)
operand_put AtR own bytes = (bytes.0 + own.0 % 2, bytes.1, bytes.2)
operand_put (Imm f byte) own bytes = field_put f byte own bytes
operand_put (Plain f byte) own bytes = field_put f byte own bytes
operand_put (NotBit f byte) own bytes = field_put f byte own bytes
operand_put operand own bytes = bytes

abbrev row_put : Columns → Bytes → Bytes
row_put r own = operand_put r.third own (operand_put r.second own (operand_put r.first own (r.opcode, 0, 0)))

module _ (own : Bytes) (second : own.1 < 256) (third : own.2 < 256) where
  field_is : (f : Field) (byte : ℕ) (bytes : Bytes) → with_field f byte (field_at f byte own) bytes
      ≡ field_put f byte own bytes
  field_is f byte bytes = grind (arith, common_steps)

  operand_is : (o : Operand) (bytes : Bytes) → with_operand o (number_at o own) bytes ≡ operand_put o own bytes
  operand_is (Imm f byte) bytes = field_is f byte bytes
  operand_is (Plain f byte) bytes = field_is f byte bytes
  operand_is (NotBit f byte) bytes = field_is f byte bytes
  operand_is o bytes = refl

  row_is : (r : Columns) → bytes_by r (number_at r.first own) (number_at r.second own) (number_at r.third own)
      ≡ row_put r own
  row_is r =
      rw (operand_is r.first (r.opcode, 0, 0)) (rw (operand_is r.second (operand_put r.first own (r.opcode, 0, 0)))
      (operand_is r.third _))

-- the row of this number with the numbers that three bytes have, and how many bytes it is
abbrev pub read_at : ℕ → Bytes → Instr
read_at n own =
    let r : Columns = columns_at n in
    made_at n (number_at r.first own) (number_at r.second own) (number_at r.third own)

abbrev read_length : ℕ → Bytes → ℕ
read_length n own =
    let r : Columns = columns_at n in
    text_length (row_text n (number_at r.first own) (number_at r.second own) (number_at r.third own))

-- computed over all opcodes: what three bytes are decoded as, and that they begin with its bytes
module _ (second third : ℕ) where
  abbrev decoded_by : ℕ → Option ℕ → Option Instr
  decoded_by first row = option_map (λ n. read_at n (first, second, third)) row

  rows_decoded : (first : ℕ) → first < 256 → decoded_by first (row_of_opcode first) ≡ decoded_at first second third
  rows_decoded first h =
      agree (λ first. decoded_by first (row_of_opcode first)) (λ first. decoded_at first second third) 256 refl first h

  abbrev put_front : ℕ → Option ℕ → Option (List ℕ)
  put_front first row =
      let own : Bytes = (first, second, third) in
      option_map (λ n. take (read_length n own) (list_of (row_put (columns_at n) own))) row

  abbrev own_front : ℕ → Option ℕ → Option (List ℕ)
  own_front first row =
      let own : Bytes = (first, second, third) in option_map (λ n. take (read_length n own) (list_of own)) row

  fronts_agree : (first : ℕ) → first < 256
      → put_front first (row_of_opcode first) ≡ own_front first (row_of_opcode first)
  fronts_agree first h =
      agree (λ first. put_front first (row_of_opcode first)) (λ first. own_front first (row_of_opcode first)) 256 refl
      first h

abbrev is_below : Option ℕ → Bool
is_below None = true
is_below (Some n) = nat_lt n row_count

-- a row of an opcode is one of the table
pub below : (opcode n : ℕ) → opcode < 256 → Some n ≡ row_of_opcode opcode → n < row_count
below opcode n h is =
    let all = agree (λ opcode. is_below (row_of_opcode opcode)) (λ opcode. true) 256 refl opcode h in
    let one : nat_lt n row_count ≡ true = subst (λ o. is_below o ≡ true) (sym is) all in
    grind (arith, common_steps, one)

-- a reserved opcode has none, and each other has one
pub reserved : (opcode : ℕ) → opcode < 256 → is_none (row_of_opcode opcode) ≡ is_reserved opcode
reserved opcode h = agree (λ opcode. is_none (row_of_opcode opcode)) is_reserved 256 refl opcode h

only_reserved : (first second third : ℕ) → first < 256
    → is_reserved first ≡ is_none (decoded_at first second third)
only_reserved first second third h =
    agree is_reserved (λ opcode. is_none (decoded_at opcode second third)) 256 refl first h

pub none_reserved : NoneReserved
none_reserved i first second third h is row =
    cc (sym is ∙ only_reserved first second third h ∙ ap is_none (rows_decode i first second third row))

some_is : {X : Type 0} (o : Option X) → is_none o ≡ false → IsSome o
some_is (Some x) e = refl
some_is None e = cc e

pub others_decode : OthersDecode
others_decode first second third h other =
    some_is (decoded_at first second third) (sym (only_reserved first second third h) ∙ other)

begins_take : (bytes : List ℕ) (n : ℕ) → BeginsWith bytes (take n bytes)
begins_take bytes zero = tt
begins_take [] (suc n) = tt
begins_take (b ∷ bytes) (suc n) = (refl, begins_take bytes n)

module _ (first second third : ℕ) (on_first : first < 256) (on_second : second < 256) (on_third : third < 256) where
  abbrev own : Bytes
  own = (first, second, third)

  pub decoded_row : (row : Option ℕ) → row ≡ row_of_opcode first
      → option_map (λ n. read_at n own) row ≡ decoded_at first second third
  decoded_row row is =
      subst (λ o. decoded_by second third first o ≡ decoded_at first second third) (sym is)
      (rows_decoded second third first on_first)

  pub row_begins : (n : ℕ) → Some n ≡ row_of_opcode first → OperandsFit (read_at n own)
      → IsRowAt (first ∷ second ∷ third ∷ []) (read_at n own)
  row_begins n is fits =
      let len : ℕ = read_length n own in
      let front = subst (λ o. put_front second third first o ≡ own_front second third first o) (sym is)
      (fronts_agree second third first on_first) in
      let coded : encoded (read_at n own) ≡ take len (list_of own) =
      bytes_at n _ _ _ (below first n on_first is)
      ∙ ap (λ bytes. take len (list_of bytes)) (row_is own on_second on_third (columns_at n)) ∙ cc front in
      record {
        fits = fits;
        begins = subst (BeginsWith (list_of own)) (sym coded) (begins_take (list_of own) len);
      }

-- three bytes are a list of three
pub three : (bytes : List ℕ) → length bytes ≡ 3
    → slice_index bytes 0 ∷ slice_index bytes 1 ∷ slice_index bytes 2 ∷ [] ≡ bytes
three (a ∷ b ∷ c ∷ []) n = refl
three [] n = cc n
three (a ∷ []) n = absurd (omega (arith, n))
three (a ∷ b ∷ []) n = absurd (omega (arith, n))
three (a ∷ b ∷ c ∷ d ∷ rest) n = absurd (omega (arith, n))
