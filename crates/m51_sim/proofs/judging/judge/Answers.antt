use Rattle.m51_sim.proofs.Common.{◌≡◌, true, sym, ◌∙◌}
use Rattle.std.proofs.Common.{rules}
use Rattle.m51_sim.specs.Effects.{instr_at}
use Rattle.m51_sim.specs.Plain.{is_plain}
use Rattle.m51_sim.proofs.Plain.{plain_step}
use Rattle.m51_sim.proofs.Preparing.{attempt_tells}
use Rattle.m51_sim.proofs.judging.judge.Goals as goal

pub vectoring-requires-clause-taken : goal.vectoring-requires-clause-taken
vectoring-requires-clause-taken c =
    let chip = c.args.chip.now in
    rw c.cpu.ensures (rw (← c.attempt.ensures, c.in-Vectoring.is) at (attempt_tells chip.image chip.cpu))

pub returns-in-Executing-clause-plain : goal.returns-in-Executing-clause-plain
returns-in-Executing-clause-plain c = λ t.
    let chip = c.args.chip.now in
    let plain : is_plain (instr_at chip.image chip.cpu.pc) ≡ true = search rules in
    plain_step chip.image chip.cpu c.in-Executing.instr (sym c.attempt.ensures ∙ c.in-Executing.is) plain
