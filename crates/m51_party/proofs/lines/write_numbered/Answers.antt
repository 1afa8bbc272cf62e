use Rattle.m51_party.proofs.Common.{entry_line, front_of}
use Rattle.m51_party.proofs.Fronts.{stop_then}
use Rattle.m51_party.proofs.lines.write_numbered.Goals as goal

pub returns-clause-front : goal.returns-clause-front
returns-clause-front g c =
    stop_then c.write_line.result _ _ _ (front_of c.args.index) (entry_line c.args.entry.now)
    c.in_ok-write_front.ensures.whole c.write_line.ensures.short
