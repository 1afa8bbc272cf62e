-- What a run with notes has to do with the run of `build`.
use Rattle.std.specs.Prelude.{◌≡◌, ℕ, List, []}
use Rattle.m51_module.specs.declared.parts.LayoutParts.{LayoutParts}
use Rattle.m51_sim.specs.Cycles.{Inputs}
use Rattle.m51_sim.specs.Run.{record_text}
use Rattle.m51_sim.specs.Runs.{State, record_of}
use Rattle.m51_sim.specs.SeparateMachine.{Separate, separate_machine}
use Rattle.m51_steps.specs.Noted.{noted}

-- Without its notes the text is that of the record, which `build` writes.
abbrev pub NotesAreAll : Type 0
NotesAreAll =
    (l : LayoutParts) (image : List ℕ) (inputs : Inputs) (titles : List (List ℕ)) (n : ℕ) (first : State Separate)
    → noted titles (separate_machine l image inputs) (λ done before s. []) n first
    ≡ record_text titles (record_of (separate_machine l image inputs) n first)
