-- Answers, source by source.
use Rattle.std.proofs.Common.{◌≡◌, ◌∙◌, ℕ, ◌+◌, ◌<◌, List, [], ◌∷◌, ◌++◌, length, take, drop, get_or, refl, ap, sym}
use Rattle.std.proofs.Common.{subst, append_assoc, append-nil, arith}
use Rattle.std.specs.List.{slice_index_or}
use Rattle.std.proofs.lemmas.List.{take_more, length-map, map-append}
use Rattle.m51_module.specs.declared.parts.ModuleParts.{ModuleParts}
use Rattle.m51_module.specs.declared.source.SourceFile.{SourceFile}
use Rattle.m51_asm.specs.Answer.{AnswerTree, Gives, Faults, IsAnswer, tree_of}
use Rattle.m51_inputs.specs.declared.error.SourceFaults.{SourceFaults}
use Rattle.m51_inputs.specs.declared.sorting.SourceArgument.{SourceArgument}
use Rattle.m51_inputs.specs.declared.sources.Answered.{Answered}
use Rattle.m51_inputs.specs.Answered.{answers_of, words_of}
use Rattle.m51_inputs.specs.Sorting.{files_in, words_in}
use Rattle.m51_inputs.specs.Sources.{AreAnswers, modules_in, faults_in}

-- one more source with its answer
one_more : (includes sources : List SourceFile) (answers : List AnswerTree) (source : SourceFile) (answer : AnswerTree)
    → AreAnswers includes sources answers → IsAnswer source includes answer
    → AreAnswers includes (sources ++ source ∷ []) (answers ++ answer ∷ [])
one_more includes [] [] source answer are is = (is, tt)
one_more includes (first ∷ sources) (given ∷ answers) source answer are is =
    (are.0, one_more includes sources answers source answer (are.1) is)
one_more includes [] (given ∷ answers) source answer are is = absurd are
one_more includes (first ∷ sources) [] source answer are is = absurd are

taken : (sources : List SourceArgument) (i : ℕ) (source : SourceArgument) → i < length sources
    → source ≡ get_or sources i source
    → take (i + 1) sources ≡ take i sources ++ source ∷ []
taken sources i source some is = take_more sources i source some
    ∙ ap (λ (s : SourceArgument). take i sources ++ s ∷ []) (sym is)

-- the source at an index is assembled after those before it
pub assembled_more : (includes : List SourceFile) (sources : List SourceArgument) (i : ℕ) (source : SourceArgument)
    (old new : List Answered) (one : Answered)
    → i < length sources → source ≡ get_or sources i source → new ≡ old ++ one ∷ []
    → IsAnswer source.file includes (tree_of one.assembled)
    → AreAnswers includes (files_in (take i sources)) (answers_of old)
    → AreAnswers includes (files_in (take (i + 1) sources)) (answers_of new)
assembled_more includes sources i source old new one some is put answer are =
    let files : files_in (take (i + 1) sources) ≡ files_in (take i sources) ++ source.file ∷ [] =
    ap files_in (taken sources i source some is) ∙ map-append (λ (s : SourceArgument). s.file) (take i sources)
    (source ∷ []) in
    let told : answers_of new ≡ answers_of old ++ tree_of one.assembled ∷ [] =
    ap answers_of put ∙ map-append (λ (a : Answered). tree_of a.assembled) old (one ∷ []) in
    let P : List SourceFile → Type 0 = λ ss. AreAnswers includes ss (answers_of new) in
    let Q : List AnswerTree → Type 0 = λ ts. AreAnswers includes (files_in (take i sources) ++ source.file ∷ []) ts in
    subst P (sym files) (subst Q (sym told)
    (one_more includes (files_in (take i sources)) (answers_of old) source.file (tree_of one.assembled) are answer))

pub words_more : (sources : List SourceArgument) (i : ℕ) (source : SourceArgument) (old new : List Answered)
    (one : Answered)
    → i < length sources → source ≡ get_or sources i source → new ≡ old ++ one ∷ [] → one.word ≡ source.word
    → words_of old ≡ words_in (take i sources) → words_of new ≡ words_in (take (i + 1) sources)
words_more sources i source old new one some is put word before =
    ap words_of put ∙ map-append (λ (a : Answered). a.word) old (one ∷ [])
    ∙ ap (λ (ws : List ℕ). ws ++ one.word ∷ []) before ∙ ap (λ (w : ℕ). words_in (take i sources) ++ w ∷ []) word
    ∙ sym (map-append (λ (s : SourceArgument). s.word) (take i sources) (source ∷ []))
    ∙ ap words_in (sym (taken sources i source some is))

-- the first of several answers
modules_first : (answer : AnswerTree) (answers : List AnswerTree)
    → modules_in (answer ∷ answers) ≡ modules_in (answer ∷ []) ++ modules_in answers
modules_first (Gives parts rows) answers = refl
modules_first (Faults faults) answers = refl

faults_first : (word : ℕ) (words : List ℕ) (answer : AnswerTree) (answers : List AnswerTree)
    → faults_in (word ∷ words) (answer ∷ answers) ≡ faults_in (word ∷ []) (answer ∷ []) ++ faults_in words answers
faults_first word words (Gives parts rows) answers = refl
faults_first word words (Faults faults) answers = refl

pub modules_step : (old new whole : List ModuleParts) (answers rest : List Answered) (one : Answered)
    → answers ≡ one ∷ rest → new ≡ old ++ modules_in (tree_of one.assembled ∷ [])
    → old ++ modules_in (answers_of answers) ≡ whole
    → new ++ modules_in (answers_of rest) ≡ whole
modules_step old new whole answers rest one is put before =
    ap (λ (ms : List ModuleParts). ms ++ modules_in (answers_of rest)) put
    ∙ append_assoc old (modules_in (tree_of one.assembled ∷ [])) (modules_in (answers_of rest))
    ∙ ap (λ (ms : List ModuleParts). old ++ ms) (sym (modules_first (tree_of one.assembled) (answers_of rest)))
    ∙ ap (λ (all : List Answered). old ++ modules_in (answers_of all)) (sym is)
    ∙ before

pub faults_step : (old new whole : List SourceFaults) (answers rest : List Answered) (one : Answered)
    → answers ≡ one ∷ rest → new ≡ old ++ faults_in (one.word ∷ []) (tree_of one.assembled ∷ [])
    → old ++ faults_in (words_of answers) (answers_of answers) ≡ whole
    → new ++ faults_in (words_of rest) (answers_of rest) ≡ whole
faults_step old new whole answers rest one is put before =
    ap (λ (fs : List SourceFaults). fs ++ faults_in (words_of rest) (answers_of rest)) put
    ∙ append_assoc old (faults_in (one.word ∷ []) (tree_of one.assembled ∷ []))
    (faults_in (words_of rest) (answers_of rest))
    ∙ ap (λ (fs : List SourceFaults). old ++ fs)
    (sym (faults_first one.word (words_of rest) (tree_of one.assembled) (answers_of rest)))
    ∙ ap (λ (all : List Answered). old ++ faults_in (words_of all) (answers_of all)) (sym is)
    ∙ before

-- no answer is left
pub none_left : {A : Type 0} (left rest : List A) → left ≡ rest → rest ≡ drop 1 left → left ≡ []
none_left [] rest same is = refl
none_left (first ∷ left) rest same is = absurd (omega (arith, ap length same, ap length is))

pub all_modules : (found whole : List ModuleParts) (left : List Answered) → left ≡ []
    → found ++ modules_in (answers_of left) ≡ whole → found ≡ whole
all_modules found whole left none before =
    sym (append-nil found) ∙ ap (λ (l : List Answered). found ++ modules_in (answers_of l)) (sym none) ∙ before

pub all_faults : (found whole : List SourceFaults) (left : List Answered) → left ≡ []
    → found ++ faults_in (words_of left) (answers_of left) ≡ whole → found ≡ whole
all_faults found whole left none before =
    sym (append-nil found) ∙ ap (λ (l : List Answered). found ++ faults_in (words_of l) (answers_of l)) (sym none)
    ∙ before

-- The one source, where there is one.
pub only_source : (sources : List SourceArgument) (found : SourceArgument) (files : List SourceFile)
    → files_in sources ≡ files → length files ≡ 1
    → found ≡ slice_index_or sources 0 found → files ≡ found.file ∷ []
only_source [] found files is one at = absurd (omega (arith, ap length is, one))
only_source (source ∷ []) found files is one at = sym is ∙ ap (λ (s : SourceArgument). s.file ∷ []) (sym at)
only_source (source ∷ other ∷ more) found files is one at =
    let count : length (files_in (source ∷ other ∷ more)) ≡ length (source ∷ other ∷ more) =
    length-map (source ∷ other ∷ more) (λ (s : SourceArgument). s.file) in
    absurd (omega (arith, ap length is, count, one))

pub some_source : (sources : List SourceArgument) (files : List SourceFile) → files_in sources ≡ files
    → length files ≡ 1 → 0 < length sources
some_source sources files is one =
    let count : length (files_in sources) ≡ length sources = length-map sources (λ (s : SourceArgument). s.file) in
    omega (arith, ap length is, count, one)
