use Rattle.std.proofs.Common.{rules, ◌<◌, length, ◌∙◌}
use Rattle.m51_module.proofs.KeptRows.{owners_of_row}
use Rattle.m51_module.proofs.Units.{plain_has_none}
use Rattle.m51_module.proofs.layout.Layout.owners.Goals as goal

pub returns : goal.returns
returns c =
    let below : c.args.segment < length c.self.inside.parts.placed = rw c.self.view_is c.requires in
    let row = owners_of_row c.self.inside.parts.owners (length c.self.inside.parts.placed)
    c.self.inside.owner_rows.items c.args.segment c.as_slice.result.now c.self.invariant.owners below (search rules) in
    rw (← c.self.view_is) (record {
      list = row;
      plain = λ plain. row ∙ plain_has_none c.self.inside.parts c.args.segment c.self.invariant.sound plain;
    })
