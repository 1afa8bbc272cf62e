-- The files of a program: file arguments, a control file and a script. They are refused, or something comes of them.
use Rattle.std.specs.Prelude.{◌≡◌, ℕ, ◌+◌, ◌≤◌, List, length, take, drop, Option, option_to_list, Result, Ok, Err}
use Rattle.std.specs.Prelude.{IfSome}
use Rattle.std.specs.List.{All}
use Rattle.m51_cells.specs.declared.limits.TheConstants.{MOST_FILES, MOST_FILE_BYTES}
use Rattle.m51_inputs.specs.declared.error.InputError.{InputError}
use Rattle.m51_inputs.specs.declared.inputs.Inputs.{Inputs}
use Rattle.m51_inputs.specs.Inputs.{IsInputsAnswer, InputsTree, inputs_tree}
use Rattle.m51_chain.specs.declared.work.Stop.{Stop}
use Rattle.m51_chain.specs.InputRefusals.{input_outcome}
use Rattle.m51_chain.specs.Optional.{content_if}
use Rattle.m51_chain.specs.Outcome.{Outcome, stopped}

-- File arguments, and the files that options name. They are read in this order.
pub record ProgramFiles : Type 0 where
  pub words : List (List ℕ)
  pub control : Option (List ℕ)
  pub script : Option (List ℕ)

abbrev pub program_files : List (List ℕ) → Option (List ℕ) → Option (List ℕ) → ProgramFiles
program_files words control script = record { words = words; control = control; script = script }

-- the contents of the file arguments, of the control file and of the script
abbrev pub word_contents : ProgramFiles → List (List ℕ) → List (List ℕ)
word_contents files contents = take (length files.words) contents

abbrev pub control_content : ProgramFiles → List (List ℕ) → Option (List ℕ)
control_content files contents = content_if files.control (drop (length files.words) contents)

abbrev pub script_content : ProgramFiles → List (List ℕ) → Option (List ℕ)
script_content files contents =
    content_if files.script (drop (length files.words + length (option_to_list files.control)) contents)

-- the answer for files with these contents
abbrev pub AreAnswered : ProgramFiles → List (List ℕ) → Result InputsTree InputError → Type 0
AreAnswered files contents given =
    IsInputsAnswer files.words (word_contents files contents) (control_content files contents)
    (script_content files contents)
    given

-- A file is refused, or there is what comes of what the files give.
pub data IsGivenOutcome
    (files : ProgramFiles) (Is : InputsTree → Outcome → Type 0) (given : Result InputsTree InputError)
    (outcome : Outcome)
    : Type 0 where
  Refused : (error : InputError) → given ≡ Err error → outcome ≡ input_outcome files.words error
      → IsGivenOutcome files Is given outcome
  Given : (inputs : InputsTree) → given ≡ Ok inputs → Is inputs outcome → IsGivenOutcome files Is given outcome

-- what comes of files with these contents: the answer for them, and what comes of that
pub record IsFilesOutcome
    (files : ProgramFiles) (contents : List (List ℕ)) (Is : InputsTree → Outcome → Type 0) (outcome : Outcome)
    : Type 0 where
  pub given : Result InputsTree InputError
  pub answer : AreAnswered files contents given
  pub is : IsGivenOutcome files Is given outcome

-- Conditions of functions, and what functions on the way answer.

-- there are at most MOST_FILES file arguments, and as many contents as files, each within the limit
pub record HasParts (files : ProgramFiles) (contents : List (List ℕ)) : Type 0 where
  pub few : length files.words ≤ MOST_FILES
  pub count : length contents
      ≡ length files.words + length (option_to_list files.control) + length (option_to_list files.script)
  pub within : All (λ bytes. length bytes ≤ MOST_FILE_BYTES) contents

-- nothing comes of it: what is left are refusals
abbrev pub Nothing : {A : Type 0} → A → Outcome → Type 0
Nothing it outcome = ⊥

-- what files give, or the refusal of a file; out of memory is free
abbrev pub AreAnsweredOr : ProgramFiles → List (List ℕ) → Result Inputs Stop → Type 0
AreAnsweredOr files contents (Ok inputs) = AreAnswered files contents (Ok (inputs_tree inputs))
AreAnsweredOr files contents (Err stop) = IfSome (stopped stop) (IsFilesOutcome files contents Nothing)
