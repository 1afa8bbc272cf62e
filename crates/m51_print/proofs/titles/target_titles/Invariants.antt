use Rattle.std.proofs.Common.{◌≡◌, map}
use Rattle.std.specs.List.{filter, range_with_len}
use Rattle.m51_module.specs.Walks.{has_edge}
use Rattle.m51_print.specs.Map.{unit_title}
use Rattle.m51_print.proofs.titles.target_titles.Given as goal

abbrev pub invariant-loop-target : goal.invariant-loop-target
invariant-loop-target l =
    l.titles.items ≡ map (unit_title l.layout) (filter (has_edge l.layout.edges l.unit) (range_with_len 0 l.target))
