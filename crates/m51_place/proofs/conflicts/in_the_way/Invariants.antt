use Rattle.m51_place.proofs.Common.{All, EndsWithin, drop, in_the_way, ◌++◌, ◌≡◌}
use Rattle.m51_place.proofs.conflicts.in_the_way.Given as goal

abbrev pub invariant-loop-extent : goal.invariant-loop-extent
invariant-loop-extent l = record {
  done : l.found.items ++ in_the_way l.graph l.number l.space (drop l.extent-index l.earlier)
      ≡ in_the_way l.graph l.number l.space l.earlier;
  ends : All EndsWithin l.found.items;
}
