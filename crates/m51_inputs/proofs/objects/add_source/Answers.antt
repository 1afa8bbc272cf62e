use Rattle.m51_inputs.proofs.LinkedLists.{source_put}
use Rattle.m51_inputs.proofs.objects.add_source.Goals as goal

pub returns : goal.returns
returns c = λ after. source_put c.args.linked.now.modules c.push.new.self c.args.linked.now.libraries
    c.args.sources.now.items c.pop_front.new.self.items _ after c.in-Some.ensures.items c.in_ok-push.ensures.ok
