use Rattle.m51_shelf.proofs.Handing.{all_over, part_over}
use Rattle.m51_shelf.proofs.reading.read_open.Goals as goal

pub returns-in-Ok-eq0-clause-given : goal.returns-in-Ok-eq0-clause-given
returns-in-Ok-eq0-clause-given g c =
    all_over (g.F.Shelf.state c.args.files.now).reads (g.F.Shelf.state c.loop-bytes.files).reads
    (g.F.Shelf.state c.read_piece.new.files).reads
    c.loop-bytes.bytes.items c.read_piece.new.bytes.items c.of.result c.in-Ok-eq0.field-0 c.loop-bytes.invariant.given
    c.in-Ok-eq0.ensures.given c.of.ensures

pub returns-in-Err-clause-given : goal.returns-in-Err-clause-given
returns-in-Err-clause-given g c =
    part_over (g.F.Shelf.state c.args.files.now).reads (g.F.Shelf.state c.loop-bytes.files).reads
    (g.F.Shelf.state c.read_piece.new.files).reads
    c.loop-bytes.bytes.items c.read_piece.new.bytes.items c.read_piece.result c.in-Err.error
    c.loop-bytes.invariant.given c.read_piece.ensures.given
