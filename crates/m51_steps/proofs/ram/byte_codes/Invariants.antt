use Rattle.std.proofs.Common.{◌≡◌, ℕ, ◌<◌, length}
use Rattle.std.specs.Prelude.{slice_index}
use Rattle.m51_monitor.specs.Shared.{shared_cells}
use Rattle.m51_steps.specs.Ram.{byte_code}
use Rattle.m51_steps.proofs.ram.byte_codes.Given as goal

abbrev pub invariant-loop-address : goal.invariant-loop-address
invariant-loop-address l = record {
  whole : length l.now ≡ 256;
  shown : (a : ℕ) → a < l.address → slice_index l.now a ≡ byte_code (shared_cells l.store) a;
}
