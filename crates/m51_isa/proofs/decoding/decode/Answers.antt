use Rattle.std.proofs.Common.{◌≡◌, ◌<◌, ℕ, length, None, Some, ap, refl, subst, sym, ◌∙◌, rules}
use Rattle.std.specs.Prelude.{slice_index}
use Rattle.m51_isa.specs.declared.table.Columns.{Columns}
use Rattle.m51_isa.specs.Operands.{Bytes}
use Rattle.m51_isa.specs.Rows.{columns_at, made_at, number_at, room, row_of_opcode}
use Rattle.m51_isa.specs.Table.{IsRowAt, OperandsFit, decoded}
use Rattle.m51_isa.proofs.Codes.{only_row}
use Rattle.m51_isa.proofs.NumberedRows.{filled_fits}
use Rattle.m51_isa.proofs.Opcodes.{below, decoded_row, read_at, row_begins, three}
use Rattle.m51_isa.proofs.decoding.decode.Goals as goal

pub returns-in_err-row-clause-value : goal.returns-in_err-row-clause-value
returns-in_err-row-clause-value c =
    let first : slice_index c.args.bytes 0 < 256 = search rules in
    let none : None ≡ row_of_opcode (slice_index c.args.bytes 0) = search rules in
    c.from_residual.ensures ∙ decoded_row _ _ _ first (search rules) (search rules) _ none

pub returns-in_err-row-clause-only : goal.returns-in_err-row-clause-only
returns-in_err-row-clause-only c =
    let long : length c.args.bytes ≡ 3 = search rules in
    only_row c.args.bytes _ long (returns-in_err-row-clause-value c)

-- the numbers that were read are those of the operands of these columns
module _ (n x y z : ℕ) (own : Bytes) where
  abbrev Reads : Columns → Type 0
  Reads r =
      (room r.first x ≡ number_at r.first own) × (room r.second y ≡ number_at r.second own)
      × (room r.third z ≡ number_at r.third own)

  are_read : (r : Columns) → Reads r → made_at n (room r.first x) (room r.second y) (room r.third z)
      ≡ made_at n (number_at r.first own) (number_at r.second own) (number_at r.third own)
  are_read r k = rw k.0 (rw k.1 (rw k.2 refl))

-- what was read is decoded so, and the bytes begin with it
read : (c : goal.After-instr_of)
    → (Some c.instr_of.result ≡ decoded c.args.bytes) × IsRowAt c.args.bytes c.instr_of.result
read c =
    let first : ℕ = slice_index c.args.bytes 0 in
    let second : ℕ = slice_index c.args.bytes 1 in
    let third : ℕ = slice_index c.args.bytes 2 in
    let own : Bytes = (first, second, third) in
    let on_first : first < 256 = search rules in
    let on_second : second < 256 = search rules in
    let on_third : third < 256 = search rules in
    let long : length c.args.bytes ≡ 3 = search rules in
    let n : ℕ = c.in_ok-row.row in
    let is : Some n ≡ row_of_opcode first = search rules in
    let x : ℕ = c.number_at-a.result in
    let y : ℕ = c.number_at-b.result in
    let z : ℕ = c.number_at-c.result in
    let reads : Reads n x y z own (columns_at n) =
    subst (Reads n x y z own) c.row_at.ensures.columns (
      c.number_at-a.ensures.room ∙ c.number_at-a.ensures.value,
      c.number_at-b.ensures.room ∙ c.number_at-b.ensures.value,
      c.number_at-c.ensures.room ∙ c.number_at-c.ensures.value,
    ) in
    let same : read_at n own ≡ c.instr_of.result =
    sym (c.instr_of.ensures ∙ are_read n x y z own (columns_at n) reads) in
    let fits = subst OperandsFit (are_read n x y z own (columns_at n) reads)
    (filled_fits n x y z (below first n on_first is)) in (
      ap Some (sym same) ∙ decoded_row first second third on_first on_second on_third (Some n) is,
      subst (λ bytes. IsRowAt bytes c.instr_of.result) (three c.args.bytes long)
          (subst (IsRowAt _) same (row_begins first second third on_first on_second on_third n is fits)),
    )

pub returns-clause-value : goal.returns-clause-value
returns-clause-value c = (read c).0

pub returns-clause-row : goal.returns-clause-row
returns-clause-row c = (read c).1

pub returns-clause-only : goal.returns-clause-only
returns-clause-only c =
    let long : length c.args.bytes ≡ 3 = search rules in
    only_row c.args.bytes _ long (read c).0
