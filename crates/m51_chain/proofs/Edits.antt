-- Edits of a library, one after the other, and the objects that are read for them.
use Rattle.m51_chain.proofs.Common.{Err, List, ModuleParts, None, Ok, Option, RefusesWith, Result, Some, [], and_then}
use Rattle.m51_chain.proofs.Common.{ap, append_assoc, arith, drop, drop-cons, get_or, length, object_edits, refl, ℕ}
use Rattle.m51_chain.proofs.Common.{◌++◌, ◌+◌, ◌<◌, ◌∷◌, ◌≡◌}
use Rattle.std.proofs.Common.{add-one}
use Rattle.m51_cells.specs.Outcome.{Gives}
use Rattle.m51_chain.specs.Edits.{object_edit, object_in, with_first}
use Rattle.m51_chain.specs.Outcome.{Outcome, then_do}
use Rattle.m51_module.specs.declared.library_error.LibError.{LibError}
use Rattle.m51_module.specs.Library.{refusal_of}
use Rattle.m51_jobs.specs.declared.job.Operation.{Operation}
use Rattle.m51_chain.specs.declared.editing.LibraryEdit.{LibraryEdit}
use Rattle.m51_module.specs.declared.library_error.LibError.TheVariants as error

pub next_refused : {A B : Type 0} (refusal : Option LibError) (now : Result A LibError) (next : A → Result B LibError)
    → RefusesWith refusal now
    → RefusesWith refusal (and_then now next)
next_refused None now next h = tt
next_refused (Some why) now next h = rw h refl

refused_with : {A : Type 0} (why : LibError) (answer : Result A LibError) → answer ≡ Err why
    → RefusesWith (refusal_of why) answer
refused_with error.Memory answer is = tt
refused_with why answer is = is

-- a call that does not run out of memory, as one that may
pub with_memory : {A V : Type 0} (view : A → V) (result : Result A LibError) (answer : Result V LibError)
    → Gives view Some result answer
    → Gives view refusal_of result answer
with_memory view (Ok value) answer is = is
with_memory view (Err why) answer is = refused_with why answer is

-- a queue without a first element is empty
pub none_left : {A : Type 0} (left rest : List A) → left ≡ rest → rest ≡ drop 1 left → left ≡ []
none_left [] rest same is = refl
none_left (first ∷ left) rest same is = absurd (omega (arith, ap length same, ap length is))

-- ---- objects, each for an edit

-- the edits with these before them
abbrev pub edits_before : List LibraryEdit → Result (List LibraryEdit) Outcome → Result (List LibraryEdit) Outcome
edits_before edits (Ok more) = Ok (edits ++ more)
edits_before edits (Err refusal) = Err refusal

edit_after : (edits : List LibraryEdit) (made : ModuleParts → LibraryEdit) (found : Result ModuleParts Outcome)
    (m : ModuleParts) (rest : Result (List LibraryEdit) Outcome) → found ≡ Ok m
    → edits_before (edits ++ made m ∷ []) rest
    ≡ edits_before edits (then_do found (λ one. then_do rest (with_first (made one))))
edit_after edits made (Ok one) m (Ok more) h = cc (h, append_assoc edits (made m ∷ []) more)
edit_after edits made (Ok one) m (Err refusal) h = refl
edit_after edits made (Err refusal) m rest h = absurd (cc h)

-- the next object
pub next_object : (op : Operation) (names files : List (List ℕ)) (i : ℕ) (name file : List ℕ)
    (edits new : List LibraryEdit) (m : ModuleParts) (whole : Result (List LibraryEdit) Outcome)
    → i < length names → i < length files → name ≡ get_or names i name → file ≡ get_or files i file
    → object_in name file ≡ Ok m
    → new ≡ edits ++ object_edit op m ∷ [] → edits_before edits (object_edits op (drop i names) (drop i files)) ≡ whole
    → edits_before new (object_edits op (drop (i + 1) names) (drop (i + 1) files)) ≡ whole
next_object op names files i name file edits new m whole some more at has found put before =
    let cut : drop i names ≡ name ∷ drop (i + 1) names = cc (drop-cons names i name some, add-one i) in
    let cut_too : drop i files ≡ file ∷ drop (i + 1) files = cc (drop-cons files i file more, add-one i) in
    let rest : Result (List LibraryEdit) Outcome = object_edits op (drop (i + 1) names) (drop (i + 1) files) in
    rw (put, edit_after edits (object_edit op) (object_in name file) m rest found) (rw (cut, cut_too) at before)
