use Rattle.std.proofs.Common.{subst}
use Rattle.m51_sim.proofs.Passes.{no_extra}
use Rattle.m51_sim.specs.Boards.{separate_of}
use Rattle.m51_sim.specs.Cycles.{Inputs, inputs_of}
use Rattle.m51_sim.specs.Run.{IsToldStep}
use Rattle.m51_sim.specs.SeparateMachine.{separate_machine}
use Rattle.m51_steps.proofs.UnderWay.{done_written}
use Rattle.m51_steps.proofs.stepping.step_written.Goals as goal

pub returns-in-Ok-clause-step : goal.returns-in-Ok-clause-step
returns-in-Ok-clause-step g c =
    let old = c.args.board.now in
    let step = subst (λ (inputs : Inputs). IsToldStep
    (separate_machine old.monitor.layout old.chip.image inputs (separate_of old)) c.step_on-told.result
    (separate_of old) (separate_of c.step_on-told.new.self)) (no_extra (inputs_of old.chip.script))
    c.step_on-told.ensures.step in
    done_written (separate_machine old.monitor.layout old.chip.image (inputs_of old.chip.script) (separate_of old))
    c.step_on-told.result _ _ (separate_of old) (separate_of c.step_on-told.new.self) step c.in-Done.is
    c.in-Ok.ensures.whole
