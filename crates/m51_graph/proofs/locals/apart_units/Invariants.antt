use Rattle.m51_graph.proofs.Common.{◌≡◌, ◌≤◌, ◌*◌, ℕ, length, take, bit, is_apart}
use Rattle.m51_graph.proofs.locals.apart_units.Given as goal

abbrev pub invariant-loop-line : goal.invariant-loop-line
invariant-loop-line l = record {
  room : length l.titles ≤ 64 * length l.row;
  bits : (unit : ℕ) → bit l.row unit ≡ is_apart l.titles (take l.line-index l.controls) unit;
}
