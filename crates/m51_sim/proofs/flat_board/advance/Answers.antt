use Rattle.m51_sim.proofs.Common.{[], inputs_of, refl}
use Rattle.m51_sim.proofs.Passes.{flat_done, none_are_few, passed_alone}
use Rattle.m51_sim.proofs.Plain.{flat_keeps}
use Rattle.m51_sim.proofs.Quiet.{pace_kept}
use Rattle.m51_sim.proofs.flat_board.advance.Goals as goal

pub pace_on-requires : goal.pace_on-requires
pace_on-requires c = λ plain. flat_keeps _ _ _ _ _ (c.in-Ok.ensures.plain plain) c.in-Ok.ensures.value

pub keep_pace-requires : goal.keep_pace-requires
keep_pace-requires c = ([], c.in-Some.ensures)

pub pass-requires-clause-few : goal.pass-requires-clause-few
pass-requires-clause-few c = none_are_few

pub pass-requires-clause-plain : goal.pass-requires-clause-plain
pass-requires-clause-plain c = λ plain. flat_keeps _ _ _ _ _ (c.in-Ok.ensures.plain plain) c.in-Ok.ensures.value

pub returns-in-Some-clause-step : goal.returns-in-Some-clause-step
returns-in-Some-clause-step c =
    flat_done _ _ _ _ c.in-Ok.ensures.value c.put_both.ensures
    (passed_alone (inputs_of c.args.chip.now.script)
    (pace_kept c.keep_pace.ensures.before c.in-Some.ensures c.keep_pace.ensures.chip))

pub returns-in-None-clause-step : goal.returns-in-None-clause-step
returns-in-None-clause-step c =
    flat_done _ _ c.args.chip.now _ {new = c.pass.new.self} c.in-Ok.ensures.value c.put_both.ensures
    (passed_alone (inputs_of c.args.chip.now.script)
    (record { port = c.pass.ensures.port; passed = c.pass.ensures.passed }))

pub returns-in-Err-clause-step : goal.returns-in-Err-clause-step
returns-in-Err-clause-step c = rw (← c.in-Err.ensures.value) (refl, refl)
