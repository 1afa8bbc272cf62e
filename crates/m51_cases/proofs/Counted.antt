-- A monitor's interrupts are counted by the transfers.
use Rattle.std.proofs.Common.{◌≡◌, ℕ, ◌+◌, ◌-◌, sym, subst, arith}
use Rattle.m51_flat.specs.declared.state.Effect.{Effect}
use Rattle.m51_flat.specs.declared.state.Transfer.{Transfer}
use Rattle.m51_flat.specs.declared.state.Transfer.TheVariants.{Next, Jump, Call, Ret, Reti, Vector}
use Rattle.m51_monitor.specs.declared.step.Move.{Move}
use Rattle.m51_monitor.specs.Laws.{CountsInterrupts}
use Rattle.m51_monitor.specs.Monitored.{Monitored, WasJudged}
use Rattle.m51_monitor.specs.Rising.{interrupts}
use Rattle.m51_monitor.specs.Transfers.{moved}
use Rattle.m51_monitor.proofs.Levels.{interrupts_are_counted}
use Rattle.m51_cases.specs.Taken.{taken_by}

by_transfer : (t : Transfer) (taken after : ℕ) → CountsInterrupts t taken after → taken_by t taken ≡ after
by_transfer Next taken after e = sym e
by_transfer Jump taken after e = sym e
by_transfer Call taken after e = sym e
by_transfer Ret taken after e = sym e
by_transfer Reti taken after e = omega (arith, e)
by_transfer (Vector source) taken after e = sym e

pub counted : (m : Monitored) (e : Effect) (step : Move) (taken : ℕ) → WasJudged m e step
    → interrupts m.records.returns ≡ taken
    → taken_by e.transfer taken ≡ interrupts (moved m.records e step).returns
counted m e step taken j same =
    by_transfer e.transfer taken (interrupts (moved m.records e step).returns)
    (subst (λ n. CountsInterrupts e.transfer n (interrupts (moved m.records e step).returns)) same
    (interrupts_are_counted m j.cpu e step j.judges))
