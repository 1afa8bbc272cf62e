-- From the files of a program to what is linked and run, or the first refusal.
use Rattle.std.specs.Prelude.{◌≡◌, ℕ, List, [], Option, Some, None, MatchOption, Result, Ok, Err}
use Rattle.m51_cells.specs.Outcome.{◌>>=◌}
use Rattle.m51_module.specs.declared.parts.ModuleParts.{ModuleParts}
use Rattle.m51_asm.specs.Answer.{AnswerTree}
use Rattle.m51_control.specs.declared.control.Control.{Control}
use Rattle.m51_control.specs.declared.error.ControlError.{ControlError}
use Rattle.m51_control.specs.Controls.{controls_of}
use Rattle.m51_script.specs.declared.error.ScriptError.{ScriptError}
use Rattle.m51_script.specs.declared.script.Script.{Script}
use Rattle.m51_script.specs.Reading.{plain_script, script_of}
use Rattle.m51_inputs.specs.declared.error.InputError.{InputError}
use Rattle.m51_inputs.specs.declared.error.InputError.TheVariants as error
use Rattle.m51_inputs.specs.declared.inputs.Inputs.{Inputs}
use Rattle.m51_inputs.specs.Files.{sources_of, includes_of, source_words}
use Rattle.m51_inputs.specs.Sources.{AreAnswers, modules_in, faults_in, unless_faults}
use Rattle.m51_inputs.specs.Objects.{linked_from}

abbrev pub or_control : {A : Type 0} → Result A ControlError → Result A InputError
or_control (Ok value) = Ok value
or_control (Err refusal) = Err (error.Control refusal)

abbrev pub or_script : {A : Type 0} → Result A ScriptError → Result A InputError
or_script (Ok value) = Ok value
or_script (Err refusal) = Err (error.Script refusal)

-- the control lines of a file; without a file there are none
abbrev pub controls_in : Option (List ℕ) → Result (List (ℕ × Control)) InputError
controls_in None = Ok []
controls_in (Some bytes) = or_control (controls_of bytes)

-- the script of a file; without a file it is the one without lines
abbrev pub script_in : Option (List ℕ) → Result Script InputError
script_in None = Ok plain_script
script_in (Some bytes) = or_script (script_of bytes)

-- what is linked and run, as contracts see it
pub record InputsTree : Type 0 where
  pub modules : List ModuleParts
  pub libraries : List (List ModuleParts)
  pub controls : List (ℕ × Control)
  pub script : Script

abbrev pub inputs_tree : Inputs → InputsTree
inputs_tree inputs = record {
  modules = inputs.modules.items;
  libraries = inputs.libraries.items;
  controls = inputs.controls;
  script = inputs.script;
}

-- what files, a control file and a script give, where the sources have these answers: the faults of all sources, or the
-- first refusal of an object or a library, then of the control file, then of the script
unfoldable pub inputs_of : List (List ℕ) → List (List ℕ) → Option (List ℕ) → Option (List ℕ) → List AnswerTree
    → Result InputsTree InputError
inputs_of files contents control script answers = do
  sources ← unless_faults (faults_in (source_words 0 files) answers) (modules_in answers)
  linked ← linked_from 0 files contents sources
  controls ← controls_in control
  script ← script_in script
  Ok (record { modules = linked.modules; libraries = linked.libraries; controls = controls; script = script })

-- The answer for these files: each source is assembled with all includes, and the rest follows.
pub record IsInputsAnswer (files contents : List (List ℕ)) (control script : Option (List ℕ))
    (answer : Result InputsTree InputError) : Type 0 where
  pub answers : List AnswerTree
  pub are : AreAnswers (includes_of files contents) (sources_of files contents) answers
  pub is : answer ≡ inputs_of files contents control script answers

-- what an error refuses; out of memory is no refusal
abbrev pub input_refusal : InputError → Option InputError
input_refusal error.Memory = None
input_refusal refusal = Some refusal

-- what is specified of the result of a call: nothing if it runs out of memory
abbrev pub told : Result Inputs InputError → Option (Result InputsTree InputError)
told (Ok inputs) = Some (Ok (inputs_tree inputs))
told (Err error.Memory) = None
told (Err refusal) = Some (Err refusal)

-- unless a call runs out of memory, its result is the answer for these files
abbrev pub IsInputsResult : List (List ℕ) → List (List ℕ) → Option (List ℕ) → Option (List ℕ) → Result Inputs InputError
    → Type 0
IsInputsResult files contents control script result =
    MatchOption (told result) (Unit {0}) (IsInputsAnswer files contents control script)
