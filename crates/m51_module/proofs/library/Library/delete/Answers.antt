use Rattle.std.proofs.Common.{refl, rules}
use Rattle.m51_module.specs.Library.{is_named}
use Rattle.m51_module.proofs.Held.{delete_keeps, delete_there, found_nowhere, index_within}
use Rattle.m51_module.proofs.library.Library.delete.Goals as goal

pub invariant_of-self : goal.invariant_of-self
invariant_of-self c =
    rw c.take_out.ensures.items
    (record {
      library = delete_keeps c.self.inside.members.items c.in-Some.index
          (index_within (is_named c.args.name.now) c.self.inside.members.items c.in-Some.index (search rules))
          c.self.invariant.library;
      named = c.unknown.ensures _;
    })

pub returns-in-Some-clause-answer : goal.returns-in-Some-clause-answer
returns-in-Some-clause-answer c =
    rw (c.take_out.ensures.items, ← c.self.view_is)
    (delete_there c.self.inside.members.items c.self.invariant.library c.args.name.now c.in-Some.index (search rules)
    c.take_out.result c.take_out.ensures.value)

pub returns-in-None-clause-answer : goal.returns-in-None-clause-answer
returns-in-None-clause-answer c =
    rw (← c.self.view_is, found_nowhere (is_named c.args.name.now) c.self.inside.members.items (search rules)) refl
