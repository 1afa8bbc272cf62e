use Rattle.m51_inputs.proofs.LinkedLists.{library_put}
use Rattle.m51_inputs.proofs.objects.add_library.Goals as goal

pub returns : goal.returns
returns c = λ after. library_put c.args.linked.now.modules c.args.linked.now.libraries c.push.new.self _
    c.in_ok-library.library after c.in_ok-library.ensures c.in_ok-push.ensures.ok
