use Rattle.std.proofs.Common.{◌≡◌, ◌∙◌, ap, None, Some, rules}
use Rattle.std.specs.Prelude.{is_none}
use Rattle.m51_isa.specs.Rows.{row_of_opcode}
use Rattle.m51_isa.proofs.Opcodes.{below, reserved}
use Rattle.m51_isa.proofs.table.row_of_opcode.Goals as goal

pub returns-in-255-clause-none : goal.returns-in-255-clause-none
returns-in-255-clause-none c =
    let none : None ≡ row_of_opcode c.args.opcode = search rules in
    ap is_none none ∙ reserved c.args.opcode c.ranges.opcode.fits

pub returns-in_default-clause-below : goal.returns-in_default-clause-below
returns-in_default-clause-below c =
    below c.args.opcode _ c.ranges.opcode.fits (search rules)

pub returns-in_default-clause-none : goal.returns-in_default-clause-none
returns-in_default-clause-none c =
    let some : Some c.entry.result ≡ row_of_opcode c.args.opcode = search rules in
    ap is_none some ∙ reserved c.args.opcode c.ranges.opcode.fits
