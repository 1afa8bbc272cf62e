-- What is read by the endings of files is the answer for the files.
use Rattle.std.proofs.Common.{◌≡◌, ◌∙◌, ℕ, List, map, Option, Result, Ok, Err, refl, ap, sym, subst}
use Rattle.m51_asm.specs.Answer.{AnswerTree}
use Rattle.m51_cells.specs.Outcome.{and_then, Gives, ◌>>=◌}
use Rattle.m51_control.specs.declared.control.Control.{Control}
use Rattle.m51_module.specs.declared.source.SourceFile.{SourceFile}
use Rattle.m51_script.specs.declared.script.Script.{Script}
use Rattle.m51_jobs.specs.declared.endings.Ending.{Ending}
use Rattle.m51_jobs.specs.Endings.{ending_of}
use Rattle.m51_inputs.specs.declared.error.InputError.{InputError}
use Rattle.m51_inputs.specs.declared.error.InputError.TheVariants as error
use Rattle.m51_inputs.specs.declared.inputs.Inputs.{Inputs}
use Rattle.m51_inputs.specs.declared.sorting.Sorted.{Sorted}
use Rattle.m51_inputs.specs.declared.sources.Answered.{Answered}
use Rattle.m51_inputs.specs.Answered.{answers_of, words_of}
use Rattle.m51_inputs.specs.Files.{source_words, sources_of}
use Rattle.m51_inputs.specs.Inputs.{IsInputsAnswer, InputsTree, IsInputsResult, controls_in, inputs_of, inputs_tree}
use Rattle.m51_inputs.specs.Inputs.{input_refusal}
use Rattle.m51_inputs.specs.Inputs.{script_in}
use Rattle.m51_inputs.specs.Objects.{Linked, linked_from}
use Rattle.m51_inputs.specs.Sorting.{IsSorted, files_in, words_in}
use Rattle.m51_inputs.specs.Sources.{AreAnswers, faults_in, modules_in, unless_faults}
use Rattle.m51_inputs.specs.Steps.{inputs_by, linked_kinds}
use Rattle.m51_inputs.proofs.LinkedLists.{kinds_linked}

same_then : {A B E : Type 0} (found : Result A E) (one two : A → Result B E) → ((a : A) → one a ≡ two a)
    → and_then found one ≡ and_then found two
same_then (Ok value) one two h = h value
same_then (Err error) one two h = refl

-- the rest, after the modules and libraries
rest_of : Option (List ℕ) → Option (List ℕ) → Linked → Result InputsTree InputError
rest_of control script linked = do
  controls ← controls_in control
  script ← script_in script
  Ok (record { modules = linked.modules; libraries = linked.libraries; controls = controls; script = script })

by_names : (files contents : List (List ℕ)) (control script : Option (List ℕ)) (answers : List AnswerTree)
    → inputs_by (map ending_of files) contents control script (source_words 0 files) answers
    ≡ inputs_of files contents control script answers
unfolding inputs_by inputs_of rest_of
by_names files contents control script answers =
    same_then (unless_faults (faults_in (source_words 0 files) answers) (modules_in answers))
    (λ sources. and_then (linked_kinds 0 (map ending_of files) contents sources) (rest_of control script))
    (λ sources. and_then (linked_from 0 files contents sources) (rest_of control script))
    (λ sources. ap (λ linked. and_then linked (rest_of control script)) (kinds_linked files contents 0 sources))

-- the answer, from that of each source
answered : (files contents : List (List ℕ)) (control script : Option (List ℕ)) (sorted : Sorted) (all : List Answered)
    (answer : Result InputsTree InputError)
    → IsSorted files contents sorted → AreAnswers sorted.includes (files_in sorted.sources) (answers_of all)
    → words_of all ≡ words_in sorted.sources
    → inputs_by sorted.endings contents control script (words_of all) (answers_of all) ≡ answer
    → IsInputsAnswer files contents control script answer
answered files contents control script sorted all answer is are words given = record {
  answers = answers_of all;
  are = subst (λ (includes : List SourceFile). AreAnswers includes (sources_of files contents) (answers_of all))
      is.includes
      (subst (λ (sources : List SourceFile). AreAnswers sorted.includes sources (answers_of all)) is.sources are);
  is = sym given
      ∙ ap (λ (kinds : List (Option Ending)). inputs_by kinds contents control script (words_of all) (answers_of all))
      is.endings
      ∙ ap (λ (at : List ℕ). inputs_by (map ending_of files) contents control script at (answers_of all))
      (words ∙ is.words)
      ∙ by_names files contents control script (answers_of all);
}

pub told_inputs : (files contents : List (List ℕ)) (control script : Option (List ℕ)) (sorted : Sorted)
    (all : List Answered) (result : Result Inputs InputError)
    → IsSorted files contents sorted → AreAnswers sorted.includes (files_in sorted.sources) (answers_of all)
    → words_of all ≡ words_in sorted.sources
    → Gives inputs_tree input_refusal result
    (inputs_by sorted.endings contents control script (words_of all) (answers_of all))
    → IsInputsResult files contents control script result
told_inputs files contents control script sorted all (Ok inputs) is are words given =
    answered files contents control script sorted all _ is are words given
told_inputs files contents control script sorted all (Err (error.Sources faults)) is are words given =
    answered files contents control script sorted all _ is are words given
told_inputs files contents control script sorted all (Err (error.Object file why)) is are words given =
    answered files contents control script sorted all _ is are words given
told_inputs files contents control script sorted all (Err (error.Library file why)) is are words given =
    answered files contents control script sorted all _ is are words given
told_inputs files contents control script sorted all (Err (error.Control why)) is are words given =
    answered files contents control script sorted all _ is are words given
told_inputs files contents control script sorted all (Err (error.Script why)) is are words given =
    answered files contents control script sorted all _ is are words given
told_inputs files contents control script sorted all (Err error.Memory) is are words given = tt
