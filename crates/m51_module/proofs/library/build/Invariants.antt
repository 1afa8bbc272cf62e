use Rattle.std.proofs.Common.{◌≡◌, take, drop}
use Rattle.m51_module.specs.Library.{IsLibrary, added_each, built}
use Rattle.m51_module.specs.WorkNames.{AreNames}
use Rattle.m51_module.proofs.library.build.Given as goal

-- the modules so far are a library, the names are those of their publics, and what the rest adds to them is the answer
abbrev pub invariant-loop-index : goal.invariant-loop-index
invariant-loop-index l = record {
  library : IsLibrary (take l.index l.modules.items);
  names : AreNames (take l.index l.modules.items) l.names;
  rest : added_each (take l.index l.modules.items) (drop l.index l.modules.items) ≡ built l.modules.items;
}
