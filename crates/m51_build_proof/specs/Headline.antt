-- The headline: what holds of each outcome of build, for all contents of its files and all numbers of steps.
use Rattle.std.specs.Prelude.{◌≡◌, ◌↔◌, ℕ, suc, List, [], ◌∷◌, ◌++◌, codes, Option, Some, None, Ok, Err}
use Rattle.m51_cells.specs.declared.event.Event.{Event}
use Rattle.m51_flat.specs.Reads.{CellMap}
use Rattle.m51_hex.specs.Memory.{memory_in}
use Rattle.m51_hex.specs.Reading.{memory_from}
use Rattle.m51_inputs.specs.declared.error.InputError.{InputError}
use Rattle.m51_inputs.specs.Inputs.{InputsTree}
use Rattle.m51_linker.specs.declared.linked.Linked.{Linked}
use Rattle.m51_module.specs.declared.linked.Chain.{Chain}
use Rattle.m51_module.specs.declared.linked.Refusal.{Refusal}
use Rattle.m51_module.specs.Chains.{AreHeaviest}
use Rattle.m51_monitor.specs.Monitored.{live_in}
use Rattle.m51_monitor.specs.Related.{OneLive}
use Rattle.m51_print.specs.Lines.{last_line, titles_of}
use Rattle.m51_script.specs.declared.script.Script.{Script}
use Rattle.m51_sim.specs.Laws.{HasFill, IsSameRun, IsSharedEvent}
use Rattle.m51_sim.specs.Run.{entry_lines, record_text}
use Rattle.m51_sim.specs.Runs.{Record}
use Rattle.m51_sim.specs.SeparateMachine.{Separate}
use Rattle.m51_jobs.specs.declared.job.BuildJob.{BuildJob}
use Rattle.m51_jobs.specs.declared.job.FlatJob.{FlatJob}
use Rattle.m51_jobs.specs.declared.job.Job.{Job}
use Rattle.m51_jobs.specs.declared.job.Job.TheVariants.{Build, Flat}
use Rattle.m51_chain.specs.Builds.{build_files}
use Rattle.m51_chain.specs.InputRefusals.{input_outcome}
use Rattle.m51_chain.specs.LinkRefusals.{link_outcome}
use Rattle.m51_chain.specs.Linking.{program_in}
use Rattle.m51_chain.specs.Optional.{content_if}
use Rattle.m51_chain.specs.Outcome.{Outcome, status_by}
use Rattle.m51_chain.specs.ProgramFiles.{AreAnswered, script_content}
use Rattle.m51_chain.specs.Programs.{hex_kept, map_and_run}
use Rattle.m51_chain.specs.Verbs.{IsOutcome}
use Rattle.m51_build_proof.specs.Builds.{AreOfBytes, IsAccepted, IsBuilt, IsRun, flat_run, separate_run}

-- It links exactly: the program is run, status 0 or 1, where no file is refused and no rule of the link fails, and then
-- there is what it is linked to; else the outcome is that of the files that are refused (the faults of all sources, or
-- else the first refusal), or of the first rule that fails.
pub record LinksExactly (job : BuildJob) (contents : List (List ℕ)) (outcome : Outcome) : Type 0 where
  -- it is run exactly if it is accepted
  pub runs : IsRun outcome ↔ IsAccepted job contents
  -- then there is a script, and what the program is linked to
  pub built : IsRun outcome → (script : Script) × (linked : Linked) × IsBuilt job contents script linked
  -- else a file is refused,
  pub files : (error : InputError) → AreAnswered (build_files job) contents (Err error)
      → outcome ≡ input_outcome job.files error
  -- or no file is, and a rule of the link fails
  pub rules : (inputs : InputsTree) (why : Refusal) → AreAnswered (build_files job) contents (Ok inputs)
      → program_in inputs ≡ Err why → outcome ≡ link_outcome why

-- It prints the map, the line RUN, and the record of the machine that keeps each segment in a store of its own: a line
-- for each entry of the steps that are performed, and the last line with the event, if one came. It keeps the HEX of
-- the image, if a file is named for it.
pub record PrintsRecord (job : BuildJob) (script : Script) (linked : Linked) (outcome : Outcome) : Type 0 where
  -- the heaviest chain of each root, for the map
  pub chains : List Chain
  pub heaviest : AreHeaviest linked.layout chains
  -- the text: the map and RUN, then the record
  pub text : outcome.text ≡ map_and_run linked chains
      ++ record_text (titles_of linked.layout.placed) (separate_run linked script job.steps)
  -- status 1 exactly if the record has an event
  pub status : outcome.status ≡ status_by (separate_run linked script job.steps).event
  -- what is kept is of the same link
  pub keeps : outcome.keeps ≡ hex_kept job.hex linked

-- The kept file runs alike, on one memory that has the fill outside overlaid segments and anything inside them.
pub record RunsAlike (linked : Linked) (script : Script) (run : Record Separate) (kept : List ℕ) : Type 0 where
  -- the file is read as the image
  pub read : memory_from kept ≡ Ok (memory_in linked.image)
  -- over the steps that were performed, one memory gives the same entries at the same cycles
  pub steps : (cells : CellMap) → HasFill linked.layout script.fill cells
      → IsSameRun run (flat_run linked.image script cells run.steps)
  -- and it stops with the run at the reserved opcode and at power-down
  pub stops : (cells : CellMap) (event : Event) → HasFill linked.layout script.fill cells → run.event ≡ Some event
      → IsSharedEvent event → (flat_run linked.image script cells (suc run.steps)).event ≡ Some event

-- It is an outcome of the job on these contents, and the only one.
pub record IsOnly (job : Job) (contents : List (List ℕ)) (outcome : Outcome) : Type 0 where
  pub is : IsOutcome job contents outcome
  pub only : (other : Outcome) → IsOutcome job contents other → other ≡ outcome

-- The verb flat gives the status of this event, and this text after RUN; and nothing else.
abbrev pub FlatGives : FlatJob → List (List ℕ) → Option Event → List ℕ → Type 0
FlatGives flat files event text =
    IsOnly (Flat flat) files (record { status = status_by event; text = codes "RUN\n" ++ text; keeps = None })

-- no event, or one at which one memory stops too
abbrev pub IfShared : Option Event → Type 0
IfShared None = Unit {0}
IfShared (Some event) = IsSharedEvent event

-- The verb flat over the kept file repeats the run.
pub record FlatRepeats (linked : Linked) (steps : ℕ) (run : Record Separate) (flat : FlatJob)
    (files : List (List ℕ)) : Type 0 where
  -- asked for as many steps as were performed: status 0, the same entries, and END with the same cycle
  pub performed : flat.steps ≡ run.steps
      → FlatGives flat files None (entry_lines run ++ last_line [] None run.steps run.last.cycle)
  -- asked for as many as the build was: the same status and text, if there was no event, or one of those two
  pub whole : flat.steps ≡ steps → IfShared run.event
      → FlatGives flat files run.event (record_text (titles_of linked.layout.placed) run)

-- All of it, of the outcome of a build, and of what the build is linked to.
pub record IsAsPromised (job : BuildJob) (contents : List (List ℕ)) (outcome : Outcome) : Type 0 where
  -- it links exactly if nothing is against it
  pub links : LinksExactly job contents outcome
  -- it prints the record of the separate machine
  pub prints : (script : Script) (linked : Linked) → IsBuilt job contents script linked
      → PrintsRecord job script linked outcome
  -- after each number of steps, at most one live segment covers a cell
  pub live : (script : Script) (linked : Linked) (n : ℕ) → IsBuilt job contents script linked
      → OneLive linked.layout (live_in linked.layout (separate_run linked script n).last.memory.records)
  -- a file that is kept runs alike
  pub alike : (script : Script) (linked : Linked) (kept : List ℕ) → IsBuilt job contents script linked
      → outcome.keeps ≡ Some kept → RunsAlike linked script (separate_run linked script job.steps) kept
  -- and the verb flat over it, with the same script or with none if the build had none, repeats the run
  pub repeats : (script : Script) (linked : Linked) (kept : List ℕ) (flat : FlatJob) (others : List (List ℕ))
      → IsBuilt job contents script linked → outcome.keeps ≡ Some kept
      → content_if flat.script others ≡ script_content (build_files job) contents
      → FlatRepeats linked job.steps (separate_run linked script job.steps) flat (kept ∷ others)

-- The headline: each outcome of each build is as promised. Files are of bytes.
abbrev pub Headline : Type 0
Headline = (job : BuildJob) (contents : List (List ℕ)) (outcome : Outcome) → AreOfBytes contents
    → IsOutcome (Build job) contents outcome → IsAsPromised job contents outcome

-- Out of memory aside, each build has an outcome, and one only. So the headline says something of each build.
abbrev pub EachHasOneOutcome : Type 0
EachHasOneOutcome = (job : BuildJob) (contents : List (List ℕ)) → AreOfBytes contents
    → (outcome : Outcome) × IsOnly (Build job) contents outcome
