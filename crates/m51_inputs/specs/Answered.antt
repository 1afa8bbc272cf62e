-- Sources that were assembled.
use Rattle.std.specs.Prelude.{ℕ, List, map}
use Rattle.m51_asm.specs.Answer.{AnswerTree, tree_of}
use Rattle.m51_inputs.specs.declared.sources.Answered.{Answered}

-- the answers, and the indices of the arguments of their sources
abbrev pub answers_of : List Answered → List AnswerTree
answers_of all = map (λ (one : Answered). tree_of one.assembled) all

abbrev pub words_of : List Answered → List ℕ
words_of all = map (λ (one : Answered). one.word) all
