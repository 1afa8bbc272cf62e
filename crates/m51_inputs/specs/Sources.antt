-- What the sources of a program give: an answer each, and by these their modules or their faults.
use Rattle.std.specs.Prelude.{ℕ, List, [], ◌∷◌, Result, Ok, Err}
use Rattle.m51_module.specs.declared.source.Fault.{Fault}
use Rattle.m51_module.specs.declared.parts.ModuleParts.{ModuleParts}
use Rattle.m51_module.specs.declared.source.SourceFile.{SourceFile}
use Rattle.m51_asm.specs.Answer.{AnswerTree, Gives, Faults, IsAnswer}
use Rattle.m51_inputs.specs.declared.error.SourceFaults.{SourceFaults}
use Rattle.m51_inputs.specs.declared.error.InputError.{InputError}
use Rattle.m51_inputs.specs.declared.error.InputError.TheVariants.{Sources}

-- each source has its answer, with these includes
abbrev pub AreAnswers : List SourceFile → List SourceFile → List AnswerTree → Type 0
AreAnswers includes [] [] = Unit {0}
AreAnswers includes (source ∷ sources) (answer ∷ answers) =
    IsAnswer source includes answer × AreAnswers includes sources answers
AreAnswers includes sources answers = ⊥

-- the module of an answer, or its faults
abbrev pub module_or_faults : AnswerTree → Result ModuleParts (List Fault)
module_or_faults (Gives parts rows) = Ok parts
module_or_faults (Faults faults) = Err faults

-- the modules that answers give
abbrev pub modules_in : List AnswerTree → List ModuleParts
modules_in [] = []
modules_in (Gives parts rows ∷ answers) = parts ∷ modules_in answers
modules_in (Faults faults ∷ answers) = modules_in answers

-- the faults of answers that are faults, each with the index of the argument of its source
abbrev pub faults_in : List ℕ → List AnswerTree → List SourceFaults
faults_in (word ∷ words) (Gives parts rows ∷ answers) = faults_in words answers
faults_in (word ∷ words) (Faults faults ∷ answers) = record { file = word; faults = faults } ∷ faults_in words answers
faults_in words answers = []

-- the modules, where no source has faults; else the faults of all sources
abbrev pub unless_faults : List SourceFaults → List ModuleParts → Result (List ModuleParts) InputError
unless_faults [] modules = Ok modules
unless_faults (first ∷ more) modules = Err (Sources (first ∷ more))
