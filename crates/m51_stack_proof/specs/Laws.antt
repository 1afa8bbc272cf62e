-- SP does not pass the bound of a program in the steps that are performed, up to the first event.
use Rattle.std.specs.Prelude.{ℕ, ◌≤◌, List, Ok}
use Rattle.m51_flat.specs.Sfr.{latch, sp}
use Rattle.m51_module.specs.declared.parts.LayoutParts.{LayoutParts}
use Rattle.m51_module.specs.declared.stack_bound.StackBound.{StackBound}
use Rattle.m51_module.specs.Plan.{IsRootAt}
use Rattle.m51_module.specs.Sound.{IsSound}
use Rattle.m51_sim.specs.Cycles.{Inputs}
use Rattle.m51_sim.specs.FlatMachine.{reset_with}
use Rattle.m51_sim.specs.Runs.{record_of}
use Rattle.m51_sim.specs.SeparateMachine.{separate_machine, separate_start}
use Rattle.m51_stackbound.specs.Bounds.{Answers}

-- For every sound layout and image for which `bound` answers a bound, and whatever the outside gives: after each number
-- of steps that the separate machine performs from the reset on, SP is at most the total.
abbrev pub SpIsBounded : Type 0
SpIsBounded =
    (l : LayoutParts) (image : List ℕ) (b : StackBound) (inputs : Inputs) (fill n : ℕ) → IsSound l
    → (unit : ℕ) → IsRootAt l 0 unit → b.total ≤ 255 → Answers l image (Ok b)
    → let run = record_of (separate_machine l image inputs) n (reset_with inputs (separate_start l fill)) in
    latch run.last.cpu sp ≤ b.total
