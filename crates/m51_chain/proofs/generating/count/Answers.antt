use Rattle.m51_chain.proofs.Common.{IsProgramOutcome, [], generated, sole_program}
use Rattle.m51_asm.specs.Answer.{Gives, IsAnswer}
use Rattle.m51_chain.specs.Generates.{IsCounted, IsGenOutcome}
use Rattle.m51_chain.proofs.Following.{comes_weaker}
use Rattle.m51_chain.proofs.generating.count.Goals as goal

pub returns : goal.returns
returns c =
    let job = c.args.job.now in
    let answered : IsAnswer (generated job.units job.start) [] (Gives c.in-Module.parts c.in-Module.field-1) =
    rw (c.in_ok-source.ensures, c.in-Module.is) at c.in_ok-faults.ensures in
    comes_weaker (IsGenOutcome job) (IsProgramOutcome (sole_program c.in-Module.parts) (IsCounted job.steps))
    c.count_program.result
    (λ o it. record { answer = Gives c.in-Module.parts c.in-Module.field-1; answered = answered; is = it })
    c.count_program.ensures
