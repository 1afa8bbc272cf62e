-- What is read of an instruction by the number of its row, computed over all rows.
use Rattle.std.proofs.Common.{◌≡◌, ℕ, ◌<◌, arith, List, take, refl, sym, subst}
use Rattle.m51_isa.specs.declared.instr.Instr.{Instr}
use Rattle.m51_isa.specs.declared.slot.Field.{Field}
use Rattle.m51_isa.specs.declared.slot.Field.TheVariants.{Addr11}
use Rattle.m51_isa.specs.declared.table.Columns.{Columns}
use Rattle.m51_isa.specs.declared.table.Operand.{Operand}
use Rattle.m51_isa.specs.declared.table.Operand.TheVariants.{R, AtR, Plain}
use Rattle.m51_isa.specs.Filling.{with_numbers}
use Rattle.m51_isa.specs.Operands.{FitsAddr11, FitsAddress, FitsRegister, kept, list_of}
use Rattle.m51_isa.specs.Rows.{FitsOperand, IsAtRow, bytes_by, columns_at, filled_at, made_at, refilled, room}
use Rattle.m51_isa.specs.Rows.{row_count, row_text, slot_of}
use Rattle.m51_isa.specs.Table.{OperandsFit, Text, encoded, flow_of, text_length, text_of}
use Rattle.m51_isa.proofs.Distinct.{agree}

abbrev Fit : Text → Type 0
Fit t = FitsRegister t.first (FitsRegister t.second (FitsAddress t.first))

operands_fit : (o p : Operand) (a b : ℕ) → FitsOperand o a → FitsOperand p b
    → FitsRegister (slot_of o a) (FitsRegister (slot_of p b) (FitsAddress (slot_of o a)))
operands_fit R p a b h k = h
operands_fit AtR p a b h k = h
operands_fit o R a b h k = k
operands_fit o AtR a b h k = k
operands_fit (Plain f byte) p a b h k = h
operands_fit o p a b h k = tt

addr11_kept : (f : Field) (n : ℕ) → FitsAddr11 f (kept f n)
addr11_kept Addr11 n = omega arith
addr11_kept f n = tt

room_fits : (o : Operand) (n : ℕ) → FitsOperand o (room o n)
room_fits R n = omega arith
room_fits AtR n = omega arith
room_fits (Plain f byte) n = addr11_kept f n
room_fits o n = tt

module _ (n a b c : ℕ) (h : n < row_count) where
  pub text_at : text_of (made_at n a b c) ≡ row_text n a b c
  text_at = agree (λ n. text_of (made_at n a b c)) (λ n. row_text n a b c) row_count refl n h

  pub flow_at : flow_of (made_at n a b c) ≡ (columns_at n).flow
  flow_at = agree (λ n. flow_of (made_at n a b c)) (λ n. (columns_at n).flow) row_count refl n h

  abbrev row_bytes : ℕ → List ℕ
  row_bytes n = take (text_length (row_text n a b c)) (list_of (bytes_by (columns_at n) a b c))

  pub bytes_at : encoded (made_at n a b c) ≡ row_bytes n
  bytes_at = agree (λ n. encoded (made_at n a b c)) row_bytes row_count refl n h

  -- with other numbers in its fields it is the row with those
  pub numbers_at : (x y z : ℕ) → with_numbers (made_at n a b c) x y z
      ≡ made_at n (refilled (columns_at n).first a x) (refilled (columns_at n).second b y)
      (refilled (columns_at n).third c z)
  numbers_at x y z =
      agree (λ n. with_numbers (made_at n a b c) x y z)
      (λ n. made_at n (refilled (columns_at n).first a x) (refilled (columns_at n).second b y)
      (refilled (columns_at n).third c z)) row_count refl n h

  fits_at : FitsOperand (columns_at n).first a → FitsOperand (columns_at n).second b
      → OperandsFit (made_at n a b c)
  fits_at f g = subst Fit (sym text_at) (operands_fit (columns_at n).first (columns_at n).second a b f g)

pub row_fits : (n a b c : ℕ) (i : Instr) → n < row_count → IsAtRow n a b c i → OperandsFit i
row_fits n a b c i h is = subst OperandsFit (sym is.is) (fits_at n a b c h is.first is.second)

-- with what its operands have room for its numbers are below their bounds
pub filled_fits : (n a b c : ℕ) → n < row_count → OperandsFit (filled_at n a b c)
filled_fits n a b c h =
    let r : Columns = columns_at n in fits_at n _ _ (room r.third c) h (room_fits r.first a) (room_fits r.second b)
