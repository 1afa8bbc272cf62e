use Rattle.std.proofs.Common.{◌<◌, length, arith}
use Rattle.std.proofs.lemmas.Bool.Decides.{nat_tests}
use Rattle.m51_cells.proofs.LineLaws.{cut_line, last_line}
use Rattle.m51_cells.proofs.cutting.first_line.Goals as goal

pub returns-then-count-text-clause-lines : goal.returns-then-count-text-clause-lines
returns-then-count-text-clause-lines c =
    let some : 0 < length c.args.text.now = grind (arith, nat_tests, c.if-is_empty.false, c.is_empty.ensures) in
    last_line c.args.text.now some (omega (arith, c.count_before_feed-count.ensures.count))

pub returns-clause-lines : goal.returns-clause-lines
returns-clause-lines c =
    cut_line c.args.text.now c.without_return.result.now c.count_before_feed-count.result
    c.count_before_feed-count.ensures.count
    (omega (arith, c.count_before_feed-count.ensures.within)) c.without_return.ensures
