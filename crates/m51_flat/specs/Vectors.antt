-- Where the handler of each source of interrupts begins, from the family manual.
use Rattle.std.specs.Prelude.{ℕ}
use Rattle.m51_flat.specs.declared.state.Source.{Source}
use Rattle.m51_flat.specs.declared.state.Source.TheVariants.{Ie0, Tf0, Ie1, Tf1, Serial, Timer2}

unfoldable pub vector_of : Source → ℕ
vector_of Ie0 = 0x0003
vector_of Tf0 = 0x000B
vector_of Ie1 = 0x0013
vector_of Tf1 = 0x001B
vector_of Serial = 0x0023
vector_of Timer2 = 0x002B
