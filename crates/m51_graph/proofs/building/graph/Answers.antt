use Rattle.m51_graph.proofs.Common.{◌≤◌, length, sym, arith, segments_of, code_segments}
use Rattle.m51_graph.proofs.Within.{count_units, fixups_within, titles_are}
use Rattle.m51_graph.proofs.building.graph.Goals as goal

pub of-requires-2-clause-few : goal.of-requires-2-clause-few
of-requires-2-clause-few c =
    let few : length (code_segments (segments_of c.args.joined.now)) ≤ 1000 =
    c.segments-segments.ensures.resolved.few_units in
    rw c.segments-segments.ensures.list (omega (arith, few, count_units 0 (segments_of c.args.joined.now)))

pub graph_over-requires-clause-count : goal.graph_over-requires-clause-count
graph_over-requires-clause-count c =
    rw (c.in_ok-made.ensures, c.in_ok-units.ensures, c.in_ok-titles.ensures)
    (sym (titles_are c.segments-segments.result.now))

pub graph_over-requires-clause-made : goal.graph_over-requires-clause-made
graph_over-requires-clause-made c =
    rw (c.in_ok-titles.ensures, c.segments-segments.ensures.list, c.in_ok-made.ensures)
    (fixups_within c.args.joined.now)
