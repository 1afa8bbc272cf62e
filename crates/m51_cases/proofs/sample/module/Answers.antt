use Rattle.m51_cases.proofs.SampleModule.{sample_is_valid}
use Rattle.m51_cases.proofs.sample.module.Goals as goal

pub make-requires : goal.make-requires
make-requires c = sample_is_valid c.in_ok-parts.parts c.in_ok-parts.ensures
