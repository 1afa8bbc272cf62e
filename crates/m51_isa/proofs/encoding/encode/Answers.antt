use Rattle.std.proofs.Common.{◌≡◌, ℕ, ◌∙◌, ap, sym, subst}
use Rattle.m51_isa.specs.declared.instr.Instr.{Instr}
use Rattle.m51_isa.specs.declared.table.Columns.{Columns}
use Rattle.m51_isa.specs.Rows.{IsLaid, list_of}
use Rattle.m51_isa.proofs.Codes.{padded_row}
use Rattle.m51_isa.proofs.NumberedRows.{row_fits}
use Rattle.m51_isa.proofs.encoding.encode.Goals as goal

-- the columns that were read are those of the row
by_columns : (r s : Columns) (a b c : ℕ) (i : Instr) → r ≡ s → IsLaid s a b c i → IsLaid r a b c i
by_columns r s a b c i e h = subst (λ (t : Columns). IsLaid t a b c i) (sym e) h

pub laid-first-requires-clause-first : goal.laid-first-requires-clause-first
laid-first-requires-clause-first c =
    (by_columns _ _ _ _ _ _ c.row_at.ensures.columns c.numbers_of-numbers.ensures.laid).first

pub laid-first-requires-clause-second : goal.laid-first-requires-clause-second
laid-first-requires-clause-second c =
    (by_columns _ _ _ _ _ _ c.row_at.ensures.columns c.numbers_of-numbers.ensures.laid).second

pub laid-first-requires-clause-third : goal.laid-first-requires-clause-third
laid-first-requires-clause-third c =
    (by_columns _ _ _ _ _ _ c.row_at.ensures.columns c.numbers_of-numbers.ensures.laid).third

pub returns-clause-bytes : goal.returns-clause-bytes
returns-clause-bytes c =
    ap list_of c.laid-first.ensures
    ∙ (by_columns _ _ _ _ _ _ c.row_at.ensures.columns c.numbers_of-numbers.ensures.laid).bytes

pub returns-clause-row : goal.returns-clause-row
returns-clause-row c =
    padded_row _ _ (returns-clause-bytes c)
    (row_fits _ _ _ _ _ c.numbers_of-numbers.ensures.row c.numbers_of-numbers.ensures.is)
