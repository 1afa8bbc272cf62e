use Rattle.m51_chain.proofs.linking.link_alone.Goals as goal

pub returns-clause-answer : goal.returns-clause-answer
returns-clause-answer c =
    rw (c.into_vec.ensures, c.in_ok-push.ensures.ok, c.new-modules.ensures, c.none-controls.ensures) at
    c.link_modules.ensures.answer
