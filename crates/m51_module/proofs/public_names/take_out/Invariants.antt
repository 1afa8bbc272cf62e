use Rattle.std.proofs.Common.{take}
use Rattle.m51_module.specs.declared.symbol.Public.{Public}
use Rattle.m51_module.specs.WorkNames.{LacksNames}
use Rattle.m51_module.proofs.public_names.take_out.Given as goal

abbrev pub invariant-loop-public : goal.invariant-loop-public
invariant-loop-public l =
    LacksNames (λ (p : Public). p.name) l.fn.names.keys (take l.public-index l.publics) l.names.keys
