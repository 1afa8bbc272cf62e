use Rattle.std.proofs.Common.{refl, rules}
use Rattle.m51_module.specs.Library.{is_named}
use Rattle.m51_module.proofs.Held.{found_nowhere, replace_there}
use Rattle.m51_module.proofs.library.Library.replace.Goals as goal

pub returns-in-Some-clause-answer : goal.returns-in-Some-clause-answer
returns-in-Some-clause-answer c =
    rw (
      ← c.self.view_is,
      replace_there c.self.inside.members.items c.self.invariant.library c.args.incoming c.in-Some.index (search rules),
      c.self.view_is,
    ) c.replace_at.ensures.answer

pub returns-in-None-clause-answer : goal.returns-in-None-clause-answer
returns-in-None-clause-answer c =
    rw (
      ← c.self.view_is,
      c.name-name.ensures,
      found_nowhere (is_named c.args.incoming.name) c.self.inside.members.items (search rules),
    ) refl
