use Rattle.m51_resolve.proofs.Common.{arith}
use Rattle.m51_resolve.proofs.Tables.{named_more, none_named}
use Rattle.m51_resolve.proofs.chosen.names_of.Goals as goal

pub loop-number-init : goal.loop-number-init
loop-number-init c = rw (c.new-definitions.ensures.empty, c.new-wanted.ensures.empty) none_named

pub loop-number-preserved : goal.loop-number-preserved
loop-number-preserved c =
    named_more _ _ _ _ _ _ _ c.args.modules.now c.loop-number.number c.loop-number.invariant (omega arith)
    c.index-modules-number.is c.in_ok-note_publics.ensures c.publics.ensures.list c.in_ok-want_externals.ensures
    c.externals.ensures.list
