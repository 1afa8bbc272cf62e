use Rattle.std.proofs.Common.{[], arith, string_bytes}
use Rattle.std.proofs.lemmas.Result.{err_from_is_err_and}
use Rattle.m51_shelf.proofs.Handing.{started_given}
use Rattle.m51_shelf.proofs.reading.read_file.Goals as goal

pub returns-clause-given : goal.returns-clause-given
returns-clause-given g c =
    started_given (g.F.Shelf.state c.args.files.now).reads (g.F.Shelf.state c.start.new.self).reads
    (g.F.Shelf.state c.read_open.new.files).reads
    (string_bytes c.args.name) c.read_open.result c.in_ok-start.ensures.given c.read_open.ensures.given

pub returns-in_err-start-clause-given : goal.returns-in_err-start-clause-given
returns-in_err-start-clause-given g c =
    let p = err_from_is_err_and c.from_residual.result c.from_residual.ensures.1 in
    rw (p.1) (record { bytes = []; most = omega arith; grows = c.in_err-start.ensures.given; all = tt })
