use Rattle.m51_graph.proofs.Common.{◌≡◌, ℕ, Bool, length, sym, ap, ◌∙◌, arith, Decides-at, bit}
use Rattle.m51_relations.specs.Bits.{words_for}
use Rattle.m51_graph.proofs.Deciding.{leads_tells}
use Rattle.m51_graph.proofs.Relations.{reach_within}
use Rattle.m51_graph.proofs.graphs.Graph.row.Goals as goal

pub row-requires : goal.row-requires
row-requires c =
    let units : length c.self.inside.parts.units ≡ length c.args.self.now.units =
    ap (λ g. length g.units) c.self.view_is in
    omega (arith, c.requires, units, c.self.invariant.tables.reach_count)

pub returns-clause-words : goal.returns-clause-words
returns-clause-words c = rw (← c.self.view_is) (c.row.ensures.words ∙ ap words_for c.self.invariant.tables.reach_count)

pub returns-clause-bits : goal.returns-clause-bits
returns-clause-bits c =
    let g = c.self.inside.parts in
    rw (← c.self.view_is)
    (λ v. Decides-at (bit c.row.result.now v) _
    (c.row.ensures.bits v ∙ ap (λ (p : ℕ → ℕ → Bool). p c.args.from v) c.self.invariant.tables.reach)
    (leads_tells g.edges c.args.from v))

pub returns-clause-last : goal.returns-clause-last
returns-clause-last c =
    let g = c.self.inside.parts in
    rw (← c.self.view_is)
    (λ v h. reach_within g c.self.invariant.graph c.args.from v
    ((leads_tells g.edges c.args.from v).0
    (sym (c.row.ensures.bits v ∙ ap (λ (p : ℕ → ℕ → Bool). p c.args.from v) c.self.invariant.tables.reach) ∙ h)))
