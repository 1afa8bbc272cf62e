use Rattle.std.proofs.Common.{length, rules}
use Rattle.m51_module.specs.Kept.{AreOwnerRows}
use Rattle.m51_module.proofs.KeptRows.{owners_have_rows, rows_along}
use Rattle.m51_module.proofs.layout.Layout.make.Goals as goal

pub owner_rows-requires : goal.owner_rows-requires
owner_rows-requires c = rw (c.len.ensures, c.as_slice.ensures) (owners_have_rows c.args.parts c.requires)

pub local_rows-requires-clause-rows : goal.local_rows-requires-clause-rows
local_rows-requires-clause-rows c =
    let rows : AreOwnerRows c.args.parts.owners (length c.args.parts.placed) c.in_ok-owner_rows.owner_rows.items =
    search rules in
    rw (c.len-2.ensures, c.deref.ensures.value) (rows_along c.args.parts _ c.requires rows)

pub edge_rows-requires : goal.edge_rows-requires
edge_rows-requires c = rw (c.len-3.ensures, c.as_slice-2.ensures) c.requires.edges
