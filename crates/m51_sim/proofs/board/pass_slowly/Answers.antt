use Rattle.m51_sim.proofs.board.pass_slowly.Goals as goal

pub returns-clause-passed : goal.returns-clause-passed
returns-clause-passed c = (
  c.pass-told.result,
  c.keep_entries.ensures.told,
  record { port = c.pass-told.ensures.port; passed = c.pass-told.ensures.passed },
)
