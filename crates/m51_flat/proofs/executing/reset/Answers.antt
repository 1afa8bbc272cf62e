use Rattle.m51_flat.proofs.Common.{sym, subst, false, HasParity}
use Rattle.m51_flat.proofs.Outcomes.{reset_parity}
use Rattle.m51_flat.proofs.executing.reset.Goals as goal

pub returns-clause-parity : goal.returns-clause-parity
returns-clause-parity c =
    subst (λ regs. HasParity (record { pc = 0; regs = regs; low = false; high = false; held = false }))
    (sym c.reset_registers.ensures) reset_parity
