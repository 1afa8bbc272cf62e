-- Each source has one answer, and so have all.
use Rattle.std.proofs.Common.{◌≡◌, List, [], ◌∷◌, refl, ap, ◌∙◌}
use Rattle.m51_module.specs.declared.source.SourceFile.{SourceFile}
use Rattle.m51_text.specs.Answer.{text_of}
use Rattle.m51_asm.specs.Answer.{AnswerTree}
use Rattle.m51_asm.specs.AnswerLaws.{OneAnswer as OneForText}
use Rattle.m51_inputs.specs.Files.{sources_of, includes_of}
use Rattle.m51_inputs.specs.Sources.{AreAnswers}
use Rattle.m51_inputs.specs.Inputs.{inputs_of}
use Rattle.m51_inputs.specs.Laws.{OneInputsAnswer}

-- the answers of sources
answers_of : OneForText → List SourceFile → List SourceFile → List AnswerTree
answers_of one includes [] = []
answers_of one includes (source ∷ sources) = (one source.name (text_of source includes)).answer
    ∷ answers_of one includes sources

are_answers : (one : OneForText) (includes sources : List SourceFile)
    → AreAnswers includes sources (answers_of one includes sources)
unfolding answers_of
are_answers one includes [] = tt
are_answers one includes (source ∷ sources) =
    ((one source.name (text_of source includes)).is, are_answers one includes sources)

only_answers : (one : OneForText) (includes sources : List SourceFile) (others : List AnswerTree)
    → AreAnswers includes sources others → others ≡ answers_of one includes sources
unfolding answers_of
only_answers one includes [] [] are = refl
only_answers one includes (source ∷ sources) (other ∷ others) are =
    ap (λ (x : AnswerTree). x ∷ others) ((one source.name (text_of source includes)).only other (are.0))
    ∙ ap (λ (xs : List AnswerTree). (one source.name (text_of source includes)).answer ∷ xs)
    (only_answers one includes sources others (are.1))
only_answers one includes [] (other ∷ others) are = absurd are
only_answers one includes (source ∷ sources) [] are = absurd are

-- the rest follows from the answers of the sources
pub one_answer : OneForText → OneInputsAnswer
one_answer one files contents control script =
    let includes = includes_of files contents in
    let sources = sources_of files contents in
    record {
      answer = inputs_of files contents control script (answers_of one includes sources);
      is = record { answers = answers_of one includes sources; are = are_answers one includes sources; is = refl };
      only = λ other given. given.is
          ∙ ap (inputs_of files contents control script) (only_answers one includes sources given.answers given.are);
    }
