use Rattle.std.proofs.Common.{refl, rules}
use Rattle.m51_module.specs.Library.{is_named}
use Rattle.m51_module.proofs.Held.{extract_there, found_nowhere}
use Rattle.m51_module.proofs.library.Library.extract.Goals as goal

pub returns-in_ok-copy-in-Some : goal.returns-in_ok-copy-in-Some
returns-in_ok-copy-in-Some c =
    rw (← c.self.view_is)
    (extract_there c.self.inside.members.items c.self.invariant.library c.args.name.now c.in-Some.index (search rules)
    c.in_ok-copy-in-Some.field-0 (search rules))

pub returns-in-None : goal.returns-in-None
returns-in-None c =
    rw (← c.self.view_is, found_nowhere (is_named c.args.name.now) c.self.inside.members.items (search rules)) refl
