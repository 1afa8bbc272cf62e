use Rattle.m51_graph.proofs.Common.{◌<◌, length, sym, subst, ◌∙◌, vectors}
use Rattle.m51_graph.specs.Graph.{AreRootBits}
use Rattle.m51_graph.proofs.Relations.{bits_tell, under_is}
use Rattle.m51_graph.proofs.graphs.Graph.roots_of.Goals as goal

pub returns : goal.returns
returns c =
    let g = c.self.inside.parts in
    let below : c.args.unit < length g.units = rw c.self.view_is c.requires in
    rw (← c.self.view_is)
    (subst (λ n. AreRootBits g c.args.unit n)
    (sym (c.under.ensures ∙ under_is g c.self.inside.tables c.self.invariant c.args.unit below))
    (bits_tell g c.args.unit vectors))
