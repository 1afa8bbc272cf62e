use Rattle.std.proofs.Common.{take}
use Rattle.m51_module.specs.declared.symbol.Public.{Public}
use Rattle.m51_module.specs.WorkNames.{NotesNames}
use Rattle.m51_module.proofs.public_names.note.Given as goal

abbrev pub invariant-loop-public : goal.invariant-loop-public
invariant-loop-public l =
    NotesNames (λ (p : Public). p.name) l.fn.names.keys (take l.public-index l.publics) l.names.keys
