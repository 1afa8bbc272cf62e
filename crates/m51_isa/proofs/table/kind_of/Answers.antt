use Rattle.std.proofs.Common.{◌∙◌, ap, sym}
use Rattle.m51_isa.specs.Table.{flow_of}
use Rattle.m51_isa.specs.declared.table.Columns.{Columns}
use Rattle.m51_isa.proofs.NumberedRows.{flow_at}
use Rattle.m51_isa.proofs.table.kind_of.Goals as goal

pub returns : goal.returns
returns c =
    ap (λ (r : Columns). r.flow) c.row_at.ensures.columns
    ∙ sym (ap flow_of c.numbers_of.ensures.is.is ∙ flow_at _ _ _ _ c.numbers_of.ensures.row)
