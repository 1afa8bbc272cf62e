use Rattle.std.proofs.Common.{refl, append_assoc}
use Rattle.m51_steps.proofs.lines.put_attempt.Goals as goal

pub returns-in-Vectoring-clause-written : goal.returns-in-Vectoring-clause-written
returns-in-Vectoring-clause-written c =
    rw (c.in-Vectoring.is, c.put_hex4.ensures.written, c.put-at.ensures.written, append_assoc, c.vector.ensures) refl

pub returns-in-Refusing-clause-written : goal.returns-in-Refusing-clause-written
returns-in-Refusing-clause-written c = rw (c.in-Refusing.is, c.put-in-Refusing.ensures.written) refl
