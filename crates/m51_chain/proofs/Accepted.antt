-- What files of sources give, where they are accepted: a module for each.
use Rattle.m51_chain.proofs.Common.{Err, InputError, InputsTree, List, ModuleParts, None, Ok, Option, PartyJob, Result}
use Rattle.m51_chain.proofs.Common.{Script, Some, SourceFile, [], and_then, ap, arith, length, party_files, refl, subst}
use Rattle.m51_chain.proofs.Common.{suc, sym, take, true, ℕ, ◌+◌, ◌∙◌, ◌∷◌, ◌≡◌, ◌≤◌}
use Rattle.m51_inputs.specs.Inputs.{IsInputsAnswer, controls_in, inputs_of, script_in}
use Rattle.m51_asm.specs.Answer.{AnswerTree, Gives, Faults}
use Rattle.m51_chain.specs.ProgramFiles.{AreAnswered, script_content, HasParts}
use Rattle.std.proofs.lemmas.Bool.{and_parts, leb-true}
use Rattle.m51_jobs.specs.Endings.{is_source, are_boards, ending_of, is_a_source}
use Rattle.std.proofs.lemmas.List.{length-take-le}
use Rattle.std.specs.List.{list_all}
use Rattle.m51_control.specs.declared.control.Control.{Control}
use Rattle.m51_inputs.specs.declared.error.SourceFaults.{SourceFaults}
use Rattle.m51_inputs.specs.Files.{includes_of, source_words, sources_of}
use Rattle.m51_inputs.specs.Objects.{Linked, linked_by, linked_from, with_module}
use Rattle.m51_inputs.specs.Sources.{AreAnswers, faults_in, modules_in, unless_faults}
use Rattle.m51_jobs.specs.declared.endings.Ending.{Ending}
use Rattle.m51_jobs.specs.declared.endings.Ending.TheVariants as ending

-- the value with which a step continues
pub on_value : {A B E : Type 0} (r : Result A E) (go : A → Result B E) (y : B) (P : Type 0)
    → ((x : A) → r ≡ Ok x → go x ≡ Ok y → P) → and_then r go ≡ Ok y → P
on_value (Ok x) go y P k h = k x refl h
on_value (Err e) go y P k h = absurd (cc h)

pub ok_same : {A E : Type 0} (r : Result A E) (x y : A) → r ≡ Ok x → r ≡ Ok y → x ≡ y
ok_same r x y h k = cc (h, k)

-- ---- the modules

first_module : (r : Result Linked InputError) (m : ModuleParts) (linked : Linked) (n : ℕ)
    → ((rest : Linked) → r ≡ Ok rest → length rest.modules ≡ n)
    → with_module r m ≡ Ok linked → length linked.modules ≡ suc n
first_module (Ok rest) m linked n on h =
    rw (← ok_same _ (record { modules = m ∷ rest.modules; libraries = rest.libraries }) linked refl h)
    (ap suc (on rest refl))
first_module (Err e) m linked n on h = absurd (cc h)

by_source : (e : Option Ending) (word : ℕ) (bytes : List ℕ) (m : ModuleParts) (ms : List ModuleParts)
    (go : List ModuleParts → Result Linked InputError) (linked : Linked) (n : ℕ)
    → is_a_source e ≡ true → ((rest : Linked) → go ms ≡ Ok rest → length rest.modules ≡ n)
    → linked_by e word bytes (m ∷ ms) go ≡ Ok linked → length linked.modules ≡ suc n
by_source (Some ending.Source) word bytes m ms go linked n is on h = first_module (go ms) m linked n on h
by_source e word bytes m ms go linked n is on h = absurd (cc is)

-- each of sources gives the next module
linked_count : (word : ℕ) (names contents : List (List ℕ)) (sources : List ModuleParts) (linked : Linked)
    → list_all is_source names ≡ true
    → length contents ≡ length names → length sources ≡ length names
    → linked_from word names contents sources ≡ Ok linked → length linked.modules ≡ length names
linked_count word [] contents sources linked all count each h =
    ap (λ (l : Linked). length l.modules) (sym (ok_same _ (record { modules = []; libraries = [] }) linked refl h))
linked_count word (name ∷ names) (bytes ∷ contents) (m ∷ ms) linked all count each h =
    let parts = and_parts (is_source name) (list_all is_source names) all in
    by_source (ending_of name) word bytes m ms (linked_from (word + 1) names contents) linked (length names) parts.0
    (λ rest is. linked_count (word + 1) names contents ms rest parts.1 (omega (arith, count)) (omega (arith, each)) is)
    h
linked_count word names contents sources linked all count each h = absurd (omega (arith, count, each))

-- as many answers as sources, and as many file arguments
sources_count : (names contents : List (List ℕ)) → list_all is_source names ≡ true → length contents ≡ length names
    → length (sources_of names contents) ≡ length names
sources_count [] contents all count = refl
sources_count (name ∷ names) [] all count = absurd (omega (arith, count))
sources_count (name ∷ names) (bytes ∷ contents) all count =
    let parts = and_parts (is_source name) (list_all is_source names) all in
    rw parts.0 (ap suc (sources_count names contents parts.1 (omega (arith, count))))

words_count : (word : ℕ) (names : List (List ℕ)) → list_all is_source names ≡ true
    → length (source_words word names) ≡ length names
words_count word [] all = refl
words_count word (name ∷ names) all =
    let parts = and_parts (is_source name) (list_all is_source names) all in
    rw parts.0 (ap suc (words_count (word + 1) names parts.1))

answers_count : (includes sources : List SourceFile) (answers : List AnswerTree) → AreAnswers includes sources answers
    → length answers ≡ length sources
answers_count includes [] [] h = refl
answers_count includes (source ∷ sources) (answer ∷ answers) h = ap suc (answers_count includes sources answers h.1)
answers_count includes sources answers h = absurd h

-- where none has faults, each has a module
modules_count : (words : List ℕ) (answers : List AnswerTree) → length words ≡ length answers
    → faults_in words answers ≡ [] → length (modules_in answers) ≡ length answers
modules_count words [] count none = refl
modules_count (word ∷ words) (Gives parts rows ∷ answers) count none =
    ap suc (modules_count words answers (omega (arith, count)) none)
modules_count (word ∷ words) (Faults faults ∷ answers) count none = absurd (cc none)
modules_count words answers count none = absurd (omega (arith, count))

accepted_count : (faults : List SourceFaults) (modules found : List ModuleParts) (n : ℕ)
    → (faults ≡ [] → length modules ≡ n) → unless_faults faults modules ≡ Ok found → length found ≡ n
accepted_count [] modules found n on h = ap length (sym (ok_same _ modules found refl h)) ∙ on refl
accepted_count (fault ∷ faults) modules found n on h = absurd (cc h)

-- ---- both

abbrev inputs_with : Linked → List (ℕ × Control) → Script → InputsTree
inputs_with found controls s =
    record { modules = found.modules; libraries = found.libraries; controls = controls; script = s }

module _ (names contents : List (List ℕ)) (all : list_all is_source names ≡ true)
    (count : length contents ≡ length names) where
  -- the modules of the answers are as many as the sources
  sources_found : (answers : List AnswerTree) (found : List ModuleParts)
      → AreAnswers (includes_of names contents) (sources_of names contents) answers
      → unless_faults (faults_in (source_words 0 names) answers) (modules_in answers) ≡ Ok found
      → length found ≡ length names
  sources_found answers found are is =
      let each : length answers ≡ length names =
      answers_count (includes_of names contents) (sources_of names contents) answers are
      ∙ sources_count names contents all count in
      accepted_count (faults_in (source_words 0 names) answers) (modules_in answers) found (length names)
      (λ none. modules_count (source_words 0 names) answers (words_count 0 names all ∙ sym each) none ∙ each) is

  -- the answer for sources, step by step
  sources_give : (control file : Option (List ℕ)) (inputs : InputsTree)
      → IsInputsAnswer names contents control file (Ok inputs) → length inputs.modules ≡ length names
  unfolding inputs_of
  sources_give control file inputs given =
      on_value _ _ inputs _ (λ sources is.
      on_value _ _ inputs _ (λ found are.
      on_value (controls_in control) _ inputs _ (λ controls read.
      on_value (script_in file) _ inputs _ (λ s ran last.
      subst (λ (i : InputsTree). length i.modules ≡ length names)
      (ok_same _ (inputs_with found controls s) inputs refl last)
      (linked_count 0 names contents sources found all count (sources_found given.answers sources given.are is) are)))))
      (sym given.is)

-- the modules of party are as many as its files, which are 2 to 8 sources
pub record AreGiven (job : PartyJob) (contents : List (List ℕ)) (inputs : InputsTree) : Type 0 where
  pub least : 2 ≤ length inputs.modules
  pub most : length inputs.modules ≤ 8

pub party_given : (job : PartyJob) (contents : List (List ℕ)) (inputs : InputsTree) → are_boards job.files ≡ true
    → HasParts (party_files job) contents → AreAnswered (party_files job) contents (Ok inputs)
    → AreGiven job contents inputs
unfolding are_boards
party_given job contents inputs fit parts has =
    let all = and_parts _ _ fit in
    let both = and_parts _ _ all.0 in
    let words : length (take (length job.files) contents) ≡ length job.files =
    length-take-le (length job.files) contents (omega (arith, parts.count)) in
    let given = sources_give job.files (take (length job.files) contents) all.1 words None
    (script_content (party_files job) contents) inputs has in
    record {
      least = omega (arith, leb-true 2 (length job.files) both.0, given);
      most = omega (arith, leb-true (length job.files) 8 both.1, given);
    }
