-- The outcome of a step over a store: its effect, or why it has none.
use Rattle.std.specs.Prelude.{Result, Ok, Err}
use Rattle.m51_flat.specs.declared.state.Effect.{Effect}
use Rattle.m51_flat.specs.declared.state.NoEffect.{NoEffect}
use Rattle.m51_flat.specs.declared.state.NoEffect.TheVariants as lacks
pub use Rattle.m51_flat.specs.declared.state.Outcome.{Outcome}
pub use Rattle.m51_flat.specs.declared.state.Outcome.TheVariants.{Done, Outside, Unset, PowerDown}

-- the outcome that is no effect, for this reason
abbrev pub lacking : NoEffect → Outcome
lacking (lacks.Outside c) = Outside c
lacking (lacks.Unset c) = Unset c
lacking lacks.PowerDown = PowerDown

-- the outcome of a function, from its answer and the effect that it leaves in a variable of its caller
abbrev pub outcome_by : {A : Type 0} → Result A NoEffect → Effect → Outcome
outcome_by (Ok a) e = Done e
outcome_by (Err why) e = lacking why
