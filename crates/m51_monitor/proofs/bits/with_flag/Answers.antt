use Rattle.m51_monitor.proofs.Common.{ap}
use Rattle.std.proofs.Common.{w8}
use Rattle.std.specs.Prelude.{nat_eq}
use Rattle.std.proofs.lemmas.Nat.Bits.{bit_at_set_same, bit_at_set_other, bit_at_clear_same, bit_at_clear_other}
use Rattle.m51_monitor.proofs.bits.with_flag.Goals as goal

pub returns-then-value-clause-here : goal.returns-then-value-clause-here
returns-then-value-clause-here c =
    rw c.if-value.true (ap (λ bit. nat_eq bit 1) (bit_at_set_same w8 c.args.byte c.args.index c.requires))

pub returns-then-value-clause-others : goal.returns-then-value-clause-others
returns-then-value-clause-others c = λ k h ne. bit_at_set_other w8 c.args.byte c.args.index c.requires k ne

pub returns-else-value-clause-here : goal.returns-else-value-clause-here
returns-else-value-clause-here c =
    rw c.if-value.false (ap (λ bit. nat_eq bit 1) (bit_at_clear_same w8 c.args.byte c.args.index c.requires))

pub returns-else-value-clause-others : goal.returns-else-value-clause-others
returns-else-value-clause-others c = λ k h ne. bit_at_clear_other w8 c.args.byte c.args.index c.requires k h ne
