use Rattle.m51_resolve.proofs.Common.{◌≡◌, length, arith}
use Rattle.m51_resolve.proofs.Tables.{named_push}
use Rattle.m51_resolve.proofs.chosen.Chosen.with.Goals as goal

pub invariant_of-result : goal.invariant_of-result
invariant_of-result c =
    let count : c.len.result ≡ length c.self.inside.modules.items = omega arith in
    rw c.in_ok-push.ensures.items
    (named_push _ _ _ _ _ _ _ c.self.inside.modules.items c.len.result c.self.invariant count
    c.in_ok-note_publics.ensures c.publics.ensures.list c.in_ok-want_externals.ensures c.externals.ensures.list)
