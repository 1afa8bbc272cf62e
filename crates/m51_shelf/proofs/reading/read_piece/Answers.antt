use Rattle.std.proofs.lemmas.Grind.{common_steps}
use Rattle.std.proofs.Common.{◌≡◌, arith, length, rules}
use Rattle.std.proofs.lemmas.Result.{err_from_is_err_and}
use Rattle.m51_shelf.proofs.Handing.{same_goes}
use Rattle.m51_shelf.proofs.Pieces.{most_before, most_with, taken_on}
use Rattle.m51_shelf.proofs.reading.read_piece.Goals as goal

pub returns-clause-taken : goal.returns-clause-taken
returns-clause-taken g c =
    let piece = c.in_ok-count.ensures in
    let room : c.len.result ≡ length c.args.bytes.now.items = search rules in
    taken_on (g.F.Shelf.state c.args.files.now).reads
    (g.F.Shelf.state c.piece.new.self).reads c.args.bytes.now.items c.piece.new.into c.append.new.bytes.items
    c.in_ok-count.count
    c.requires.taken c.requires.few piece.opened piece.ready piece.taken piece.bound
    (grind (arith, common_steps, room, c.piece.auto.into)) (grind (arith, common_steps, room, c.piece.auto.into))
    (grind (arith, common_steps, room, c.piece.auto.into)) piece.piece c.in_ok-append.ensures

pub returns-clause-given : goal.returns-clause-given
returns-clause-given g c =
    let room : c.len.result ≡ length c.args.bytes.now.items = search rules in
    record {
      piece = _;
      most = most_with c.args.bytes.now.items c.piece.new.into c.in_ok-count.count c.requires.few
          c.in_ok-count.ensures.bound (grind (arith, common_steps, room, c.piece.auto.into));
      goes = c.in_ok-count.ensures.given;
      all = c.in_ok-append.ensures;
    }

pub returns-in_err-count-clause-given : goal.returns-in_err-count-clause-given
returns-in_err-count-clause-given g c =
    let p = err_from_is_err_and c.from_residual.result c.from_residual.ensures.1 in
    rw (p.1) (record {
      piece = _;
      most = most_before c.args.bytes.now.items c.requires.few;
      goes = same_goes _ _ c.in_err-count.ensures.given;
      all = tt;
    })

pub returns-in_err-append-clause-given : goal.returns-in_err-append-clause-given
returns-in_err-append-clause-given g c =
    let p = err_from_is_err_and c.from_residual-in_err-append.result c.from_residual-in_err-append.ensures.1 in
    let room : c.len.result ≡ length c.args.bytes.now.items = search rules in
    rw (p.1) (record {
      piece = _;
      most = most_with c.args.bytes.now.items c.piece.new.into c.in_ok-count.count c.requires.few
          c.in_ok-count.ensures.bound (grind (arith, common_steps, room, c.piece.auto.into));
      goes = c.in_ok-count.ensures.given;
      all = tt;
    })
