use Rattle.std.proofs.Common.{None, Some, rules}
use Rattle.m51_isa.proofs.RowsSearched.{found_some}
use Rattle.m51_isa.proofs.searching.found.Goals as goal

pub returns-then-fits-clause-some : goal.returns-then-fits-clause-some
returns-then-fits-clause-some c =
    found_some c.args.mnemonic.now c.args.a.now c.args.b.now c.args.c.now (Some c.entry-one.result) (search rules)

pub returns-then-fits-2-clause-some : goal.returns-then-fits-2-clause-some
returns-then-fits-2-clause-some c =
    found_some c.args.mnemonic.now c.args.a.now c.args.b.now c.args.c.now (Some c.entry-two.result) (search rules)

pub returns-else-fits-2-clause-some : goal.returns-else-fits-2-clause-some
returns-else-fits-2-clause-some c =
    found_some c.args.mnemonic.now c.args.a.now c.args.b.now c.args.c.now None (search rules)
