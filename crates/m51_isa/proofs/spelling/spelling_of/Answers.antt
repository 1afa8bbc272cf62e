use Rattle.std.proofs.Common.{◌≡◌, ℕ, List, ◌∙◌, ap, sym}
use Rattle.m51_isa.specs.declared.slot.Slot.{Slot}
use Rattle.m51_isa.specs.declared.table.Columns.{Columns}
use Rattle.m51_isa.specs.Rows.{slot_of}
use Rattle.m51_isa.specs.Spelling.{text, text_of}
use Rattle.m51_isa.proofs.NumberedRows.{text_at}
use Rattle.m51_isa.proofs.spelling.spelling_of.Goals as goal

-- the columns that were read are those of the row
spelled : (r s : Columns) (m w : List ℕ) (a b c : ℕ) (p q t : Slot) → r ≡ s → m ≡ w → p ≡ slot_of r.first a
    → q ≡ slot_of r.second b → t ≡ slot_of r.third c
    → text m p q t ≡ text w (slot_of s.first a) (slot_of s.second b) (slot_of s.third c)
spelled r s m w a b c p q t e f g h k = rw (sym e) (cc (f, g, h, k))

pub returns : goal.returns
returns c =
    let n = c.numbers_of-numbers.ensures in
    spelled _ _ _ _ _ _ _ _ _ _ c.row_at.ensures.columns c.row_at.ensures.mnemonic c.slot_of.ensures
    c.slot_of-2.ensures c.slot_of-3.ensures ∙ sym (ap text_of n.is.is ∙ text_at _ _ _ _ n.row)
