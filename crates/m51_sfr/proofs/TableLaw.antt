-- The code's table is the manual's.
use Rattle.std.proofs.Common.{◌≡◌, [], ◌∷◌, refl}
use Rattle.std.specs.Prelude.{codes}
use Rattle.m51_sfr.specs.Manual.{manual}
use Rattle.m51_sfr.specs.Registers.{row, table, unwritable_among}
use Rattle.m51_sfr.specs.Coded.{coded}
use Rattle.m51_sfr.specs.Laws.{TableIsTheManuals}
use Rattle.m51_sfr.specs.declared.bits.TheConstants.{CPRL2, CT2}

pub rows_are : coded ≡ table
unfolding table
rows_are = refl

unwritable_are : row (codes "CP/RL2") CPRL2 ∷ row (codes "C/T2") CT2 ∷ [] ≡ unwritable_among manual
unwritable_are = refl

pub table_is_the_manuals : TableIsTheManuals
table_is_the_manuals = record { rows = rows_are; unwritable = unwritable_are }
