-- The refusals of the files of a program: of sources, objects and libraries, of the control file, and of the script.
use Rattle.std.specs.Prelude.{ℕ, List, [], flat_map}
use Rattle.m51_inputs.specs.declared.error.InputError.{InputError}
use Rattle.m51_inputs.specs.declared.error.InputError.TheVariants as input
use Rattle.m51_inputs.specs.declared.error.SourceFaults.{SourceFaults}
use Rattle.m51_chain.specs.declared.work.Reason.TheVariants as reason
use Rattle.m51_chain.specs.FaultLines.{fault_lines, word_at}
use Rattle.m51_chain.specs.Outcome.{Outcome, refused}
use Rattle.m51_chain.specs.Refusals.{library_outcome, object_outcome}
use Rattle.m51_chain.specs.ScriptRefusals.{control_outcome, script_outcome}

-- the faults of the sources of these file arguments
abbrev pub faulty_lines : List (List ℕ) → SourceFaults → List ℕ
faulty_lines files faulty = fault_lines (word_at files faulty.file) files faulty.faults

abbrev pub faults_text : List (List ℕ) → List SourceFaults → List ℕ
faults_text files all = flat_map (faulty_lines files) all

-- the files of a build are refused; never used for out of memory
abbrev pub input_outcome : List (List ℕ) → InputError → Outcome
input_outcome files (input.Sources faulty) = refused reason.Source (faults_text files faulty)
input_outcome files (input.Object word error) = object_outcome (word_at files word) error
input_outcome files (input.Library word error) = library_outcome (word_at files word) error
input_outcome files (input.Control error) = control_outcome error
input_outcome files (input.Script error) = script_outcome error
input_outcome files input.Memory = refused reason.Script []
