use Rattle.m51_party.proofs.Common.{◌≡◌, ◌≤◌, ◌++◌, drop, kept_for}
use Rattle.std.proofs.Common.{take}
use Rattle.m51_party.specs.Seats.{kept_from}
use Rattle.m51_party.proofs.handing.kept_for.Given as goal

abbrev pub invariant-loop-at : goal.invariant-loop-at
invariant-loop-at l = record {
  within : l.further.count ≤ l.at;
  frames : take l.further.count l.further.frames ++ kept_from l.at l.index (drop l.at l.seats)
      ≡ kept_for l.index l.seats;
}
