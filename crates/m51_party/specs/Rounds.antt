-- The one family of boards that were not stepped, as it is found in rounds.
use Rattle.std.specs.Prelude.{ℕ, zero, suc, ◌^◌, List, []}
use Rattle.m51_sim.specs.Boards.{BoardState}
use Rattle.m51_party.specs.Family.{Family, records_from}

-- the records that boards make if they receive no frames, then the frames of these records, and so on, after this
-- number of rounds
unfoldable pub family_after : List BoardState → ℕ → ℕ → Family
family_after boards n zero = []
family_after boards n (suc rounds) = records_from 0 boards n (family_after boards n rounds)

-- A frame arrives later than it is sent, so each round settles what arrives in one more cycle. There are 2 ^ 64 cycles,
-- and the records of one more round are the family.
unfoldable pub family_of : List BoardState → ℕ → Family
family_of boards n = family_after boards n (suc (2 ^ 64))
