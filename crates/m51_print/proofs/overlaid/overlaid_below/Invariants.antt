use Rattle.std.proofs.Common.{◌≡◌, ◌≤◌}
use Rattle.m51_print.specs.Map.{overlaid_below}
use Rattle.m51_print.proofs.overlaid.overlaid_below.Given as goal

abbrev pub invariant-loop-address : goal.invariant-loop-address
invariant-loop-address l = record {
  counted : l.overlaid ≡ overlaid_below l.placed l.address;
  bound : l.overlaid ≤ l.address;
}
