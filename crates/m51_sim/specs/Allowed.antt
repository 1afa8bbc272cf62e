-- An effect that is allowed, and how it changes the records.
use Rattle.m51_flat.specs.declared.state.Effect.{Effect}
use Rattle.m51_monitor.specs.declared.step.Move.{Move}

pub record Allowed : Type 0 where
  pub effect : Effect
  pub step : Move
