-- The file arguments of a program by what they are, and a step of the loop over them, which contracts of its functions
-- cite.
use Rattle.std.specs.Prelude.{◌≡◌, ℕ, ◌+◌, List, [], ◌∷◌, ◌++◌, Option, Result, Ok, Err}
use Rattle.m51_cells.specs.Outcome.{◌>>=◌, RefusesWith}
use Rattle.m51_asm.specs.Answer.{AnswerTree}
use Rattle.m51_module.specs.declared.parts.ModuleParts.{ModuleParts}
use Rattle.m51_jobs.specs.declared.endings.Ending.{Ending}
use Rattle.m51_inputs.specs.declared.error.InputError.{InputError}
use Rattle.m51_inputs.specs.declared.objects.LinkInputs.{LinkInputs}
use Rattle.m51_inputs.specs.Inputs.{InputsTree, controls_in, input_refusal, script_in}
use Rattle.m51_inputs.specs.Objects.{Linked, linked_by}
use Rattle.m51_inputs.specs.Sources.{faults_in, modules_in, unless_faults}

-- these before what comes after them
abbrev pub linked_before : List ModuleParts → List (List ModuleParts) → Result Linked InputError
    → Result Linked InputError
linked_before modules libraries (Ok after) =
    Ok (record { modules = modules ++ after.modules; libraries = libraries ++ after.libraries })
linked_before modules libraries (Err error) = Err error

-- what was read, before what comes after it
abbrev pub files_before : LinkInputs → Result Linked InputError → Result Linked InputError
files_before read after = linked_before read.modules read.libraries after

-- after a step what was read, before the rest, is what it was before the whole; or the whole is refused
abbrev pub Steps : {A : Type 0} → LinkInputs → LinkInputs → Result A InputError → Result Linked InputError
    → Result Linked InputError → Type 0
Steps old new (Ok done) rest whole = files_before new rest ≡ files_before old whole
Steps old new (Err error) rest whole = RefusesWith (input_refusal error) whole

-- what arguments of these endings give, as linked_from says it by their names
abbrev pub linked_kinds : ℕ → List (Option Ending) → List (List ℕ) → List ModuleParts → Result Linked InputError
linked_kinds word (kind ∷ kinds) (bytes ∷ contents) sources =
    linked_by kind word bytes sources (linked_kinds (word + 1) kinds contents)
linked_kinds word kinds contents sources = Ok (record { modules = []; libraries = [] })

-- what files of these endings, a control file and a script give, where the sources of these arguments have these
-- answers, as inputs_of says it by names
unfoldable pub inputs_by : List (Option Ending) → List (List ℕ) → Option (List ℕ) → Option (List ℕ) → List ℕ
    → List AnswerTree → Result InputsTree InputError
inputs_by kinds contents control script words answers = do
  sources ← unless_faults (faults_in words answers) (modules_in answers)
  linked ← linked_kinds 0 kinds contents sources
  controls ← controls_in control
  script ← script_in script
  Ok (record { modules = linked.modules; libraries = linked.libraries; controls = controls; script = script })
