use Rattle.m51_graph.proofs.Common.{◌<◌, length, sym, subst, arith, IsLevel}
use Rattle.m51_graph.proofs.Climbing.{kept_level, level_below}
use Rattle.m51_graph.proofs.Walking.{level_function}
use Rattle.m51_graph.proofs.graphs.Graph.level.Goals as goal

pub returns : goal.returns
returns c =
    let g = c.self.inside.parts in
    let below : c.args.unit < length g.units = rw c.self.view_is c.requires in
    let level : IsLevel g.edges c.args.unit c.level.result =
    subst (λ n. IsLevel g.edges c.args.unit n) (sym c.level.ensures)
    (kept_level g c.self.inside.tables c.self.invariant c.args.unit below) in
    let small : c.level.result < 65536 =
    omega (arith, c.level.ensures, level_below g c.self.inside.tables c.self.invariant c.args.unit below) in
    rw (← c.self.view_is) (record { level = level; is = level_function g.edges c.args.unit c.level.result level small })
