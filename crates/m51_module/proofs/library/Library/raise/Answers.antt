use Rattle.std.proofs.Common.{[], refl, rules}
use Rattle.m51_module.specs.Library.{is_named}
use Rattle.m51_module.specs.declared.parts.ModuleParts.{ModuleParts}
use Rattle.m51_module.proofs.Held.{found_nowhere, index_within, raise_keeps, raise_there}
use Rattle.m51_module.proofs.library.Library.raise.Goals as goal

-- a module to name where the index is inside the list, so that it does not matter which
abbrev any_module : ModuleParts
any_module =
    record { name = []; version = 0; segments = []; publics = []; externals = []; pieces = []; fixups = []; banks = 0 }

pub invariant_of-self : goal.invariant_of-self
invariant_of-self c =
    rw (c.raise_at.ensures any_module)
    (record {
      library = raise_keeps c.self.inside.members.items c.in-Some.index any_module
          (index_within (is_named c.args.name.now) c.self.inside.members.items c.in-Some.index (search rules))
          c.self.invariant.library;
      named = c.unknown.ensures _;
    })

pub returns-clause-answer : goal.returns-clause-answer
returns-clause-answer c =
    rw (c.raise_at.ensures any_module, ← c.self.view_is)
    (raise_there c.self.inside.members.items c.self.invariant.library c.args.name.now c.in-Some.index (search rules)
    any_module)

pub returns-in-None-clause-answer : goal.returns-in-None-clause-answer
returns-in-None-clause-answer c =
    rw (← c.self.view_is, found_nowhere (is_named c.args.name.now) c.self.inside.members.items (search rules)) refl
