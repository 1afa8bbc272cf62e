use Rattle.std.proofs.Common.{◌≡◌, ◌++◌, take}
use Rattle.std.specs.Prelude.{flat_map}
use Rattle.m51_print.specs.Map.{line_of_chain}
use Rattle.m51_print.proofs.map.push_chains.Given as goal

abbrev pub invariant-loop-chain : goal.invariant-loop-chain
invariant-loop-chain l = l.text.items ≡ l.fn.text.items
    ++ flat_map (line_of_chain l.layout) (take l.chain-index l.chains)
