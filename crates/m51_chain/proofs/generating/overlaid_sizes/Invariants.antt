use Rattle.m51_chain.proofs.Common.{drop, ◌+◌, ◌≡◌, ◌≤◌}
use Rattle.std.proofs.Common.{◌*◌}
use Rattle.m51_chain.specs.Generates.{overlaid_sizes}
use Rattle.m51_chain.proofs.generating.overlaid_sizes.Given as goal

abbrev pub invariant-loop-extent : goal.invariant-loop-extent
invariant-loop-extent l = record {
  sum : l.sizes + overlaid_sizes (drop l.extent-index l.placed) ≡ overlaid_sizes l.placed;
  few : l.sizes ≤ 65535 * l.extent-index;
}
