use Rattle.std.proofs.Common.{[]}
use Rattle.m51_module.proofs.public_names.PublicNames.of.Goals as goal

pub returns : goal.returns
returns c = c.with_all-2.ensures c.args.before.now (c.with_all.ensures [] c.none.ensures)
