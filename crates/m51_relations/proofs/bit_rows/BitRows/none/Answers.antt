use Rattle.std.proofs.Common.{◌+◌, ◌/◌}
use Rattle.m51_relations.proofs.BitLaws.{none_paired}
use Rattle.m51_relations.proofs.bit_rows.BitRows.none.Goals as goal

pub returns-clause-pairs : goal.returns-clause-pairs
returns-clause-pairs c =
    none_paired c.args.count ((c.args.count + 63) / 64) c.in_ok-blank_rows.field-0.items c.in_ok-blank_rows.ensures
