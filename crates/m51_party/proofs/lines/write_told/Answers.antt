use Rattle.m51_cells.proofs.Fronts.{front_then}
use Rattle.m51_party.specs.Seats.{entry_text}
use Rattle.m51_party.proofs.lines.write_told.Goals as goal

pub returns-clause-front : goal.returns-clause-front
returns-clause-front g c =
    front_then c.write_entry-2.result _ _ _ (entry_text c.args.index c.args.told.now.port)
    (entry_text c.args.index c.args.told.now.sent) c.in_ok-write_entry.ensures.whole c.write_entry-2.ensures.front
