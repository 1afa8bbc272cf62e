use Rattle.m51_resolve.proofs.Common.{take, Wants}
use Rattle.m51_resolve.proofs.chosen.want_externals.Given as goal

abbrev pub invariant-loop-external : goal.invariant-loop-external
invariant-loop-external l = Wants l.fn.names.keys (take l.external-index l.externals) l.names.keys
