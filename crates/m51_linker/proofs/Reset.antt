-- The layout of a program has a root at 0000H.
use Rattle.std.proofs.Common.{◌≡◌, ℕ, Bool, true, false, cond, nat_eq, List, length, Some, None, Ok}
use Rattle.std.proofs.Common.{refl, sym, ap, subst, ◌∙◌}
use Rattle.std.specs.List.{All, Contains, list_any}
use Rattle.std.proofs.lemmas.Bool.Decides.{Decides-eqb}
use Rattle.std.proofs.lemmas.List.Folds.{Any-from_list_any}
use Rattle.m51_control.specs.declared.control.Control.{Control}
use Rattle.m51_control.specs.Controls.{AreKept}
use Rattle.m51_module.specs.declared.linked.Refusal.TheVariants.{L8}
use Rattle.m51_module.specs.declared.parts.ModuleParts.{ModuleParts}
use Rattle.m51_module.specs.Plan.{IsRootAt}
use Rattle.m51_module.specs.Validity.{IsValid}
use Rattle.m51_resolve.specs.Joining.{segments_of}
use Rattle.m51_resolve.specs.Rules.{AreResolved}
use Rattle.m51_graph.specs.declared.parts.GraphParts.{GraphParts}
use Rattle.m51_graph.specs.Drawing.{edges_of, fixup_edges}
use Rattle.m51_graph.specs.Graph.{IsGraph}
use Rattle.m51_graph.specs.Graphs.{graph_of, judged, lacks_reset, parts_of, unless}
use Rattle.m51_graph.specs.Units.{unit_titles}
use Rattle.m51_place.specs.declared.placing.Placing.{Placing}
use Rattle.m51_place.specs.Placement.{located_of, placing_of}
use Rattle.m51_place.proofs.Ranks.{graph_is}
use Rattle.m51_place.proofs.SoundLayout.{root_out}
use Rattle.m51_place.proofs.Tight.{of_located}
use Rattle.m51_place.proofs.Whole.{placed_whole, unless_none}

-- where no rule refuses a graph, there is a reset
pub has_reset : (modules : List ModuleParts) (controls : List (ℕ × Control)) (g : GraphParts)
    → graph_of modules controls ≡ Ok g → lacks_reset g.roots ≡ None
has_reset modules controls g h =
    let segments = segments_of modules in
    let titles = unit_titles segments in
    let p : GraphParts = parts_of segments controls (edges_of titles controls (fixup_edges modules)) in
    let lines = unless_none _ (judged titles p) g (unless_none _ (unless _ (judged titles p)) g h).1 in
    ap lacks_reset (graph_is modules controls g h).roots ∙ (unless_none (lacks_reset p.roots) _ g lines.1).0

some_reset : (b : Bool) → cond b None (Some L8) ≡ None → b ≡ true
some_reset true h = refl
some_reset false h = absurd (cc h)

pub reset : (modules : List ModuleParts) (controls : List (ℕ × Control)) (g : GraphParts) (placing : Placing)
    → graph_of modules controls ≡ Ok g → placing_of modules controls g ≡ Ok placing → All IsValid modules
    → AreResolved modules → AreKept controls → IsGraph g → (unit : ℕ) × IsRootAt placing.layout 0 unit
reset modules controls g placing graph is valid resolved kept is_graph =
    let at_zero : ℕ × ℕ → Bool = λ root. nat_eq root.0 0 in
    let k = Any-from_list_any at_zero g.roots
    (some_reset (list_any at_zero g.roots) (has_reset modules controls g graph)) in
    let root : ℕ × ℕ = k.1 in
    let there : Contains g.roots (0, root.1) =
    subst (λ (v : ℕ). Contains g.roots (v, root.1)) ((Decides-eqb root.0 0).0 k.4) (k.0, k.2, k.3) in
    let of = of_located g (length (segments_of modules)) (located_of modules controls g) placing is in (
      root.1,
      subst (λ (p : Placing). IsRootAt p.layout 0 root.1) of.placing
          (root_out (segments_of modules) controls g (graph_is modules controls g graph) is_graph of.located
          (placed_whole modules controls g of.located graph valid resolved kept of.is) 0 root.1 there),
    )
