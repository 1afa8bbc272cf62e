-- Numbers in the fields of the rows of the instruction table.
use Rattle.std.specs.Prelude.{ℕ, Option, Some, None, nat_eq}
use Rattle.std.specs.List.{find}
use Rattle.m51_isa.specs.declared.instr.Instr.{Instr}
use Rattle.m51_isa.specs.Operands.{taken}
use Rattle.m51_isa.specs.Table.{Maker, Text, makers, row_of, text_of}

-- an instruction of the same row
abbrev made : Instr → Option Maker → ℕ → ℕ → ℕ → Instr
made i (Some make) a b c = make a b c
made i None a b c = i

abbrev pub remade : Instr → ℕ → ℕ → ℕ → Instr
remade i = made i (find (λ make. nat_eq (row_of (make 0 0 0)).opcode (row_of i).opcode) makers)

-- The row with these numbers in the fields of its operands, in the order of the text; each field takes what it has
-- room for.
abbrev pub with_numbers : Instr → ℕ → ℕ → ℕ → Instr
with_numbers i a b c =
    let t : Text = text_of i in remade i (taken t.first a) (taken t.second b) (taken t.third c)
