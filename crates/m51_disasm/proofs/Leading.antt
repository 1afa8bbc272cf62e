-- The target of an instruction is the address that its text leads to.
use Rattle.std.proofs.Common.{◌≡◌, ℕ, ◌+◌, ◌%◌, ◌<◌, Bool, true, false, cond, ltb, Option, Some, None, refl, ap, ◌∙◌}
use Rattle.std.proofs.Common.{arith}
use Rattle.std.specs.Prelude.{IfSome}
use Rattle.m51_isa.specs.declared.instr.Instr.{Instr}
use Rattle.m51_isa.specs.declared.instr.Instr.TheVariants as row
use Rattle.m51_isa.specs.declared.slot.Field.{Field}
use Rattle.m51_isa.specs.declared.slot.Field.TheVariants.{Addr11, Data, Rel}
use Rattle.m51_isa.specs.declared.slot.FieldSlot.{FieldSlot}
use Rattle.m51_isa.specs.Spelling.{Text, field_in, text_of}
use Rattle.m51_isa.specs.Targets.{near, relative, target_of}
use Rattle.m51_disasm.specs.Statements.{address_by, slot_address, address_of}

sum_wraps : (next n : ℕ) → (next % 65536 + n) % 65536 ≡ (next + n) % 65536
sum_wraps next n = omega arith

cases_same : (b : Bool) (low high low' high' : ℕ) → low ≡ low' → high ≡ high' → cond b low high ≡ cond b low' high'
cases_same true low high low' high' e f = e
cases_same false low high low' high' e f = f

-- the next address is taken modulo 65,536
relative_wraps : (next rel : ℕ) → relative (next % 65536) rel ≡ relative next rel
relative_wraps next rel =
    cases_same (ltb rel 128) ((next % 65536 + rel) % 65536) ((next % 65536 + 65280 + rel) % 65536)
    ((next + rel) % 65536) ((next + 65280 + rel) % 65536)
    (sum_wraps next rel) (omega arith)

near_wraps : (next address : ℕ) → near (next % 65536) address % 65536 ≡ near next address % 65536
near_wraps next address = omega arith

field_wraps : (next : ℕ) (at : Field) (number : ℕ) → address_by (next % 65536) at number ≡ address_by next at number
unfolding address_by
field_wraps next Rel rel = ap (λ t. Some t) (relative_wraps next rel)
field_wraps next Addr11 address = ap (λ t. Some t) (near_wraps next address)
field_wraps next Data number = refl
field_wraps next other number = refl

operand_wraps : (next : ℕ) (f : Option FieldSlot) → slot_address (next % 65536) f ≡ slot_address next f
operand_wraps next None = refl
operand_wraps next (Some f) = field_wraps next f.field f.number

text_wraps : (next : ℕ) (t : Text) → address_of (next % 65536) t ≡ address_of next t
text_wraps next t =
    rw (
      operand_wraps next (field_in t.first),
      operand_wraps next (field_in t.second),
      operand_wraps next (field_in t.third),
    ) refl

fits : (t : ℕ) → t < 65536 → Some t ≡ Some (t % 65536)
fits t h = ap (λ t. Some t) (omega (arith, h))

column_by_text : (i : Instr) (next : ℕ) → IfSome (target_of i next) (λ t. t < 65536)
    → target_of i next ≡ address_of next (text_of i)
unfolding address_by
column_by_text (row.AjmpAddr11 address) next h = fits (near next address) h
column_by_text (row.AcallAddr11 address) next h = fits (near next address) h
column_by_text i next h = refl

pub led_by_text : (i : Instr) (next : ℕ) → IfSome (target_of i (next % 65536)) (λ t. t < 65536)
    → target_of i (next % 65536) ≡ address_of next (text_of i)
led_by_text i next h = column_by_text i (next % 65536) h ∙ text_wraps next (text_of i)
