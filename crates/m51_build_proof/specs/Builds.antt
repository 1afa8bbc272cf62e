-- Of a build: what its files give, which rules they meet, and how they are linked; and the two runs of what is linked.
use Rattle.std.specs.Prelude.{◌≡◌, ◌⊎◌, ◌<◌, ℕ, List, None, Ok}
use Rattle.std.specs.List.{All}
use Rattle.m51_flat.specs.Reads.{CellMap}
use Rattle.m51_graph.specs.Graphs.{graph_of}
use Rattle.m51_inputs.specs.Inputs.{InputsTree}
use Rattle.m51_linker.specs.declared.linked.Linked.{Linked}
use Rattle.m51_linker.specs.Broken.{broken_rule}
use Rattle.m51_linker.specs.Link.{IsLinked, Program}
use Rattle.m51_place.specs.Placement.{placing_of}
use Rattle.m51_resolve.specs.Rules.{resolved_of}
use Rattle.m51_script.specs.declared.script.Script.{Script}
use Rattle.m51_sim.specs.Cycles.{inputs_of}
use Rattle.m51_sim.specs.FlatMachine.{flat_machine, reset_with}
use Rattle.m51_sim.specs.Runs.{Record, record_of}
use Rattle.m51_sim.specs.SeparateMachine.{Separate, separate_machine, separate_start}
use Rattle.m51_jobs.specs.declared.job.BuildJob.{BuildJob}
use Rattle.m51_chain.specs.declared.status.Status.TheVariants.{Event, Ran}
use Rattle.m51_chain.specs.Builds.{build_files}
use Rattle.m51_chain.specs.Outcome.{Outcome}
use Rattle.m51_chain.specs.ProgramFiles.{AreAnswered}

-- No rule of the link fails, and this is the program that the rules give: the modules that are chosen, their graph, and
-- where their segments are placed.
pub record MeetsRules (inputs : InputsTree) (program : Program) : Type 0 where
  -- L1 to L5, and the limits of modules, segments and units
  pub chosen : resolved_of inputs.modules inputs.libraries ≡ Ok program.modules
  -- L6, L7, L8, L10 and L11
  pub drawn : graph_of program.modules inputs.controls ≡ Ok program.graph
  -- L9 and L12
  pub placed : placing_of program.modules inputs.controls program.graph ≡ Ok program.placing
  -- L13
  pub fields : broken_rule program.modules program.placing ≡ None

-- The build is accepted: no file is refused, and no rule fails.
pub record IsAccepted (job : BuildJob) (contents : List (List ℕ)) : Type 0 where
  -- what the files give: modules, libraries, control lines and script
  pub inputs : InputsTree
  pub read : AreAnswered (build_files job) contents (Ok inputs)
  -- the program of these
  pub program : Program
  pub rules : MeetsRules inputs program

-- It is accepted, with this script, and its program is linked to this layout, image and these roots.
pub record IsBuilt (job : BuildJob) (contents : List (List ℕ)) (script : Script) (linked : Linked) : Type 0 where
  pub accepted : IsAccepted job contents
  -- the script of its files, or that of no line
  pub script_is : script ≡ accepted.inputs.script
  -- each byte of the image, the runs that are filled, and the roots
  pub linked_is : IsLinked accepted.program linked

-- The program was run: status 0, or status 1, if an event came.
abbrev pub IsRun : Outcome → Type 0
IsRun outcome = (outcome.status ≡ Ran) ⊎ (outcome.status ≡ Event)

-- a file is a list of bytes
abbrev pub IsByteList : List ℕ → Type 0
IsByteList bytes = All (λ byte. byte < 256) bytes

-- each file is
abbrev pub AreOfBytes : List (List ℕ) → Type 0
AreOfBytes contents = All IsByteList contents

-- The record of at most n steps after a reset, on the machine that keeps each segment in a store of its own.
abbrev pub separate_run : Linked → Script → ℕ → Record Separate
separate_run linked script n =
    let inputs = inputs_of script in
    record_of (separate_machine linked.layout linked.image inputs) n
    (reset_with inputs (separate_start linked.layout script.fill))

-- The same on the machine that has one memory for all, from any values of its cells at the reset.
abbrev pub flat_run : List ℕ → Script → CellMap → ℕ → Record CellMap
flat_run image script cells n =
    let inputs = inputs_of script in record_of (flat_machine image inputs) n (reset_with inputs cells)
