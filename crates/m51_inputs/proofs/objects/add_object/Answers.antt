use Rattle.m51_inputs.proofs.LinkedLists.{object_put}
use Rattle.m51_inputs.proofs.objects.add_object.Goals as goal

pub returns : goal.returns
returns c = λ after. object_put c.args.linked.now.modules c.push.new.self c.args.linked.now.libraries _
    c.in_ok-parts.parts after c.in_ok-parts.ensures c.in_ok-push.ensures.ok
