use Rattle.m51_stackbound.proofs.CallRows.{walk_finds}
use Rattle.m51_stackbound.proofs.walking.calls_itself.Goals as goal

pub returns : goal.returns
returns c =
    let finds = walk_finds _ _ _ (rw c.in_ok-found.ensures at c.in_ok-walk.ensures) c.args.at in
    (λ t. finds.0 (c.has.ensures.0 t), λ h. c.has.ensures.1 (finds.1 h))
