-- Files of a kind, argument by argument.
use Rattle.std.proofs.Common.{◌≡◌, ◌∙◌, ℕ, suc, ◌+◌, ◌<◌, Bool, true, false, cond, List, [], ◌∷◌, ◌++◌, length, drop}
use Rattle.std.proofs.Common.{get_or, append_assoc, add-one, drop-cons, count_by, filter, refl, ap, sym, arith}
use Rattle.std.proofs.lemmas.List.Sums.{length-filter}
use Rattle.m51_module.specs.declared.source.SourceFile.{SourceFile}
use Rattle.m51_inputs.specs.Files.{files_that}

-- one more of both, or of none
one_of_both : {A B : Type 0} (counts : Bool) (a : A) (b : B) (as' : List A) (bs : List B) → length as' ≡ length bs
    → length (cond counts (a ∷ as') as') ≡ length (cond counts (b ∷ bs) bs)
one_of_both true a b as' bs h = ap suc h
one_of_both false a b as' bs h = h

length-files_that : (is : List ℕ → Bool) (names contents : List (List ℕ)) → length contents ≡ length names
    → length (files_that is names contents) ≡ length (filter is names)
length-files_that is [] contents h = refl
length-files_that is (name ∷ names) [] h = absurd (omega (arith, h))
length-files_that is (name ∷ names) (bytes ∷ contents) h =
    let file : SourceFile = record { name = name; bytes = bytes } in
    one_of_both (is name) file name (files_that is names contents) (filter is names)
    (length-files_that is names contents (omega (arith, h)))

-- as many files of a kind as arguments of the kind
pub count-files_that : (is : List ℕ → Bool) (names contents : List (List ℕ)) → length contents ≡ length names
    → length (files_that is names contents) ≡ count_by is names
count-files_that is names contents h = length-files_that is names contents h ∙ length-filter is names

-- the files from an index on
file_at : (is : List ℕ → Bool) (names contents : List (List ℕ)) (i : ℕ) (name bytes other : List ℕ)
    → i < length names → i < length contents → name ≡ get_or names i name → bytes ≡ get_or contents i other
    → let file : SourceFile = record { name = name; bytes = bytes } in
    let rest = files_that is (drop (i + 1) names) (drop (i + 1) contents) in
    files_that is (drop i names) (drop i contents) ≡ cond (is name) (file ∷ rest) rest
file_at is names contents i name bytes other some more at has =
    let cut : drop i names ≡ name ∷ drop (i + 1) names =
    drop-cons names i name some ∙ ap (λ (n : List ℕ). n ∷ drop (suc i) names) (sym at)
    ∙ ap (λ (k : ℕ). name ∷ drop k names) (sym (add-one i)) in
    let cut_too : drop i contents ≡ bytes ∷ drop (i + 1) contents =
    drop-cons contents i other more ∙ ap (λ (n : List ℕ). n ∷ drop (suc i) contents) (sym has)
    ∙ ap (λ (k : ℕ). bytes ∷ drop k contents) (sym (add-one i)) in
    ap (λ (ns : List (List ℕ)). files_that is ns (drop i contents)) cut
    ∙ ap (λ (cs : List (List ℕ)). files_that is (name ∷ drop (i + 1) names) cs) cut_too

-- a file of the kind, and one of another
pub file_kept : (is : List ℕ → Bool) (names contents : List (List ℕ)) (i : ℕ) (name bytes : List ℕ)
    (found new whole : List SourceFile) (file : SourceFile)
    → i < length names → i < length contents → name ≡ get_or names i name → bytes ≡ get_or contents i bytes
    → is name ≡ true
    → file ≡ record { name = name; bytes = bytes } → new ≡ found ++ file ∷ []
    → found ++ files_that is (drop i names) (drop i contents) ≡ whole
    → new ++ files_that is (drop (i + 1) names) (drop (i + 1) contents) ≡ whole
file_kept is names contents i name bytes found new whole file some more at has counts made put before =
    let whole_file : SourceFile = record { name = name; bytes = bytes } in
    let rest : List SourceFile = files_that is (drop (i + 1) names) (drop (i + 1) contents) in
    ap (λ (fs : List SourceFile). fs ++ rest) put
    ∙ append_assoc found (file ∷ []) rest
    ∙ ap (λ (f : SourceFile). found ++ f ∷ rest) made
    ∙ ap (λ (b : Bool). found ++ cond b (whole_file ∷ rest) rest) (sym counts)
    ∙ ap (λ (fs : List SourceFile). found ++ fs) (sym (file_at is names contents i name bytes bytes some more at has))
    ∙ before

pub file_passed : (is : List ℕ → Bool) (names contents : List (List ℕ)) (i : ℕ) (name : List ℕ)
    (found whole : List SourceFile)
    → i < length names → i < length contents → name ≡ get_or names i name → is name ≡ false
    → found ++ files_that is (drop i names) (drop i contents) ≡ whole
    → found ++ files_that is (drop (i + 1) names) (drop (i + 1) contents) ≡ whole
file_passed is names contents i name found whole some more at other before =
    let file : SourceFile = record { name = name; bytes = get_or contents i [] } in
    let rest : List SourceFile = files_that is (drop (i + 1) names) (drop (i + 1) contents) in
    ap (λ (b : Bool). found ++ cond b (file ∷ rest) rest) (sym other)
    ∙ ap (λ (fs : List SourceFile). found ++ fs)
    (sym (file_at is names contents i name (get_or contents i []) [] some more at refl))
    ∙ before
