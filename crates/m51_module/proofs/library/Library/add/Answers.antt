use Rattle.std.proofs.Common.{rules}
use Rattle.m51_module.proofs.Held.{add_keeps}
use Rattle.m51_module.proofs.library.Library.add.Goals as goal

pub invariant_of-self-in-None : goal.invariant_of-self-in-None
invariant_of-self-in-None c = rw c.in_ok-push-in-None.ensures.items (record {
  library = add_keeps c.self.inside.members.items c.args.incoming c.self.invariant.library (search rules);
  named = c.with-more.ensures c.self.inside.members.items (rw c.deref.ensures.value at c.take-names.ensures.taken);
})
