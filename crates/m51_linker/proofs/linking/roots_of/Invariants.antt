use Rattle.std.proofs.Common.{◌≡◌, ℕ, ◌<◌, length}
use Rattle.std.specs.Prelude.{slice_index}
use Rattle.m51_graph.specs.Graph.{AreRootBits}
use Rattle.m51_linker.proofs.linking.roots_of.Given as goal

abbrev pub invariant-loop-unit : goal.invariant-loop-unit
invariant-loop-unit l = record {
  len : length l.roots.items ≡ l.unit;
  each : (unit : ℕ) → unit < l.unit → AreRootBits l.graph unit (slice_index l.roots.items unit);
}
