use Rattle.m51_cells.specs.Name.{title_at}
use Rattle.m51_cases.proofs.SampleLayout.{sample_is_sound}
use Rattle.m51_cases.proofs.sample.layout.Goals as goal

pub make-requires : goal.make-requires
make-requires c = sample_is_sound c.in_ok-parts.parts (title_at 0) c.in_ok-parts.ensures
