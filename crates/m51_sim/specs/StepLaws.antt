-- How many machine cycles a step takes.
use Rattle.std.specs.Prelude.{◌≡◌, ℕ, ◌+◌, ◌-◌, ◌^◌, ◌≤◌, min, List, Ok}
use Rattle.m51_isa.specs.Table.{cycles_of}
use Rattle.m51_module.specs.declared.parts.LayoutParts.{LayoutParts}
use Rattle.m51_sim.specs.declared.attempt.Attempt.{Attempt}
use Rattle.m51_sim.specs.declared.attempt.Attempt.TheVariants.{Vectoring, Idling, Executing, Refusing}
use Rattle.m51_sim.specs.Cycles.{Inputs}
use Rattle.m51_sim.specs.Effects.{attempt_of}
use Rattle.m51_sim.specs.Runs.{Performed, State}
use Rattle.m51_sim.specs.SeparateMachine.{Separate, separate_machine}

-- a vectoring takes two machine cycles, an idle step one, and an instruction those of its row in the table; the
-- reserved opcode is not performed
abbrev pub Takes : Attempt → ℕ → Type 0
Takes (Vectoring source) count = count ≡ 2
Takes Idling count = count ≡ 1
Takes (Executing instr) count = count ≡ cycles_of instr
Takes Refusing count = ⊥

-- From one state to the next one to four machine cycles pass, those of the step. Their number goes up by as many, and
-- stays at its last value.
pub record IsShort {M : Type 0} (image : List ℕ) (s next : State M) : Type 0 where
  pub count : ℕ
  pub takes : Takes (attempt_of image s.cpu) count
  pub some : 1 ≤ count
  pub few : count ≤ 4
  pub cycle : next.cycle ≡ min (s.cycle + count) (2 ^ 64 - 1)

-- each step that the separate machine performs is such a step, whatever the state and the inputs
abbrev pub StepsAreShort : Type 0
StepsAreShort =
    (l : LayoutParts) (image : List ℕ) (inputs : Inputs) (s : State Separate) (done : Performed Separate)
    → separate_machine l image inputs s ≡ Ok done → IsShort image s done.state
