use Rattle.std.proofs.Common.{◌≡◌, ℕ, ◌+◌, ◌<◌, ◌++◌, ◌∷◌, List, [], length, sym, ap, subst, arith, length-append}
use Rattle.std.specs.Prelude.{slice_index}
use Rattle.m51_graph.specs.declared.parts.GraphParts.{GraphParts}
use Rattle.m51_graph.specs.Graph.{AreRootBits}
use Rattle.m51_linker.proofs.Finished.{roots_more, roots_whole}
use Rattle.m51_linker.proofs.linking.roots_of.Goals as goal

pub loop-unit-preserved : goal.loop-unit-preserved
loop-unit-preserved c =
    let roots = c.loop-unit.roots.items in
    let unit = c.loop-unit.unit in
    let byte = c.roots_of.result in
    let is : c.push.new.self.items ≡ roots ++ byte ∷ [] = c.in_ok-push.ensures.items in
    record {
      len = omega (
        arith,
        ap (λ (xs : List ℕ). length xs) is,
        length-append roots (byte ∷ []),
        c.loop-unit.invariant.len,
      );
      each = subst (λ (xs : List ℕ). (u : ℕ) → u < unit + 1 → AreRootBits c.args.graph.now u (slice_index xs u))
          (sym is)
          (roots_more c.args.graph.now roots unit byte c.loop-unit.invariant.len c.loop-unit.invariant.each
          c.roots_of.ensures);
    }

pub returns : goal.returns
returns c =
    let whole : c.loop-unit.unit ≡ length c.args.graph.now.units =
    omega (
      arith,
      c.loop-unit-test.false,
      c.loop-unit.auto.unit-end,
      c.len-unit-end.ensures,
      ap (λ (p : GraphParts). length p.units) c.parts.ensures.parts,
    ) in
    roots_whole c.args.graph.now c.loop-unit.unit c.loop-unit.roots.items c.of.result c.of.ensures
    c.loop-unit.invariant.len whole c.loop-unit.invariant.each
