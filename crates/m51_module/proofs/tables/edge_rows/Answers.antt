use Rattle.std.proofs.Common.{◌<◌, arith}
use Rattle.m51_module.proofs.KeptTables.{edges_more, edge_within}
use Rattle.m51_module.proofs.tables.edge_rows.Goals as goal

pub set_edge-requires-clause-row : goal.set_edge-requires-clause-row
set_edge-requires-clause-row c =
    let within = edge_within c.args.count c.args.edges.now c.loop-edge.edge-index c.requires c.loop-edge-test.true in
    omega (arith, c.from.ensures, within.0, c.loop-edge.invariant.len)

pub set_edge-requires-clause-bit : goal.set_edge-requires-clause-bit
set_edge-requires-clause-bit c =
    let within = edge_within c.args.count c.args.edges.now c.loop-edge.edge-index c.requires c.loop-edge-test.true in
    let low : c.from.result < c.args.count = omega (arith, c.from.ensures, within.0) in
    omega (arith, c.from-in-loop-edge.ensures, within.1, c.loop-edge.invariant.wide c.from.result low)

pub loop-edge-preserved : goal.loop-edge-preserved
loop-edge-preserved c =
    rw (c.set_edge.ensures, c.from.ensures, c.from-in-loop-edge.ensures)
    (edges_more _ _ c.loop-edge.edge-index _ c.requires c.loop-edge-test.true c.loop-edge.invariant)
