-- No register of those that were passed has the bit.
use Rattle.std.proofs.Common.{◌≡◌, map, drop}
use Rattle.m51_sfr.specs.Registers.{address_in, bits_among}
use Rattle.m51_sfr.specs.Coded.{register_in}
use Rattle.m51_sfr.proofs.searching.bit_among.Given as goal

abbrev pub invariant-loop-row : goal.invariant-loop-row
invariant-loop-row l =
    address_in (bits_among (map register_in l.rows)) l.name
    ≡ address_in (bits_among (map register_in (drop l.row-index l.rows))) l.name
