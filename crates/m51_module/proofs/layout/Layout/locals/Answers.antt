use Rattle.std.proofs.Common.{rules, ◌<◌, length}
use Rattle.m51_module.proofs.KeptRows.{locals_of_row}
use Rattle.m51_module.proofs.layout.Layout.locals.Goals as goal

pub returns : goal.returns
returns c =
    let below : c.args.unit < length c.self.inside.parts.units = rw c.self.view_is c.requires in
    rw (← c.self.view_is)
    (locals_of_row c.self.inside.parts c.self.inside.owner_rows.items c.self.inside.local_rows.items c.args.unit
    c.as_slice.result.now
    c.self.invariant.sound c.self.invariant.owners c.self.invariant.locals below (search rules))
