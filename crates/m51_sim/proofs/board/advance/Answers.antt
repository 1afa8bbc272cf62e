use Rattle.m51_sim.proofs.Common.{refl}
use Rattle.m51_sim.proofs.Passes.{order_passed, step_done}
use Rattle.m51_sim.proofs.Plain.{separate_keeps}
use Rattle.m51_sim.proofs.Quiet.{pace_kept}
use Rattle.m51_sim.proofs.board.advance.Goals as goal

pub commit-requires : goal.commit-requires
commit-requires c =
    let may = c.in-Ok.ensures.may in
    record {
      judged = record { cpu = c.args.chip.now.cpu; judges = may.judges };
      opened = may.prepared.opened;
      address = may.address;
      level = may.level;
    }

pub pace_on-requires : goal.pace_on-requires
pace_on-requires c = λ plain. separate_keeps _ _ _ _ _ _ (c.in-Ok.ensures.plain plain) c.in-Ok.ensures.value

pub pass_slowly-requires-clause-plain : goal.pass_slowly-requires-clause-plain
pass_slowly-requires-clause-plain c = λ plain.
    separate_keeps _ _ _ _ _ _ (c.in-Ok.ensures.plain plain) c.in-Ok.ensures.value

pub keep_pace-requires : goal.keep_pace-requires
keep_pace-requires c = (c.args.extra.now, c.in-Some.ensures)

pub returns-in-Some-clause-order : goal.returns-in-Some-clause-order
returns-in-Some-clause-order c =
    order_passed c.cite_stores.ensures.sound c.cite_stores.ensures.records c.requires.order c.in-Ok.ensures.may
    c.commit.ensures.layout c.commit.ensures.memory
    (pace_kept c.keep_pace.ensures.before c.in-Some.ensures c.keep_pace.ensures.chip)

pub returns-in-Some-clause-step : goal.returns-in-Some-clause-step
returns-in-Some-clause-step c =
    step_done _ _ _ _ _ c.in-Ok.ensures.value c.commit.ensures.memory
    (pace_kept c.keep_pace.ensures.before c.in-Some.ensures c.keep_pace.ensures.chip)

pub returns-in-None-clause-order : goal.returns-in-None-clause-order
returns-in-None-clause-order c =
    order_passed c.cite_stores.ensures.sound c.cite_stores.ensures.records c.requires.order c.in-Ok.ensures.may
    c.commit.ensures.layout c.commit.ensures.memory c.pass_slowly.ensures.passed.2

pub returns-in-None-clause-step : goal.returns-in-None-clause-step
returns-in-None-clause-step c =
    let passed = c.pass_slowly.ensures.passed in
    rw passed.1 (step_done _ _ _ _ _ c.in-Ok.ensures.value c.commit.ensures.memory passed.2)

pub returns-in-Err-clause-step : goal.returns-in-Err-clause-step
returns-in-Err-clause-step c = rw (← c.in-Err.ensures.value) (refl, refl)
