-- What operands look like, and which a mnemonic may have.
use Rattle.std.specs.Prelude.{ℕ, nat_lt, if◌then◌else◌, Bool, false, List, [], ◌∷◌}
use Rattle.m51_isa.specs.declared.look.Look.{Look}
use Rattle.m51_isa.specs.declared.look.Look.TheVariants as look
use Rattle.m51_isa.specs.Search.{has_row}
use Rattle.m51_expr.specs.Operand.{OperandTree, A, Ab, C, Dptr, APc, ADptr, AtDptr, R, AtR, Imm, Plain, NotBit}

-- R0 to R7
abbrev pub register_look : ℕ → Look
register_look n = if nat_lt n 8 then look.R n else look.Other

-- @R0 and @R1
abbrev pub pointer_look : ℕ → Look
pointer_look n = if nat_lt n 2 then look.AtR n else look.Other

-- what an operand looks like
abbrev pub look_of : OperandTree → Look
look_of A = look.A
look_of Ab = look.Ab
look_of C = look.C
look_of Dptr = look.Dptr
look_of APc = look.APc
look_of ADptr = look.ADptr
look_of AtDptr = look.AtDptr
look_of (R n) = register_look n
look_of (AtR n) = pointer_look n
look_of (Imm e) = look.Imm
look_of (Plain e) = look.Plain
look_of (NotBit e) = look.NotBit

-- a mnemonic that may have these operands
abbrev pub has_form : List ℕ → List OperandTree → Bool
has_form mnemonic [] = has_row mnemonic look.Nothing look.Nothing look.Nothing
has_form mnemonic (a ∷ []) = has_row mnemonic (look_of a) look.Nothing look.Nothing
has_form mnemonic (a ∷ b ∷ []) = has_row mnemonic (look_of a) (look_of b) look.Nothing
has_form mnemonic (a ∷ b ∷ c ∷ []) = has_row mnemonic (look_of a) (look_of b) (look_of c)
has_form mnemonic more = false
