-- One register more.
use Rattle.m51_sfr.proofs.Searches.{among_here, among_later}
use Rattle.m51_sfr.proofs.searching.bit_among.Goals as goal

pub returns-in-Some : goal.returns-in-Some
returns-in-Some c =
    among_here c.args.rows.now c.loop-row.row-index _ c.args.name.now c.in-Some.address c.bit_of.result
    c.loop-row-test.true
    c.loop-row.invariant c.bit_of.ensures c.in-Some.is

pub loop-row-preserved : goal.loop-row-preserved
loop-row-preserved c =
    among_later c.args.rows.now c.loop-row.row-index _ c.args.name.now c.bit_of.result c.loop-row-test.true
    c.loop-row.invariant c.bit_of.ensures c.in_default.is
