use Rattle.m51_party.proofs.Common.{front_of}
use Rattle.m51_party.proofs.Fronts.{stop_then}
use Rattle.m51_party.specs.Seats.{last_text}
use Rattle.m51_party.proofs.lines.write_end.Goals as goal

pub returns-clause-front : goal.returns-clause-front
returns-clause-front g c =
    stop_then c.write_last.result _ _ _ (front_of c.args.index) (last_text c.args.seat.now)
    c.in_ok-write_front.ensures.whole c.write_last.ensures.short
