use Rattle.m51_stackbound.proofs.Common.{refl}
use Rattle.m51_stackbound.proofs.Deciding.{passed_all, passed_more}
use Rattle.m51_stackbound.proofs.paths.root_depth.Goals as goal

pub loop-to-preserved : goal.loop-to-preserved
loop-to-preserved c = passed_more _ _ _ _ _ _ c.loop-to.invariant (cc) c.in_ok-push-2.ensures.items

pub returns : goal.returns
returns c = record {
  root_is = refl;
  depth = c.depth_in.ensures.value;
  more = c.loop-to.invariant.done;
  path_is = cc;
  leads = passed_all _ _ _ _ c.loop-to.invariant (cc);
}
