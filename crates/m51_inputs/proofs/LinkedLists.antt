-- Modules and libraries, argument by argument.
use Rattle.std.proofs.Common.{◌≡◌, ◌∙◌, ℕ, suc, ◌+◌, ◌<◌, List, [], ◌∷◌, ◌++◌, length, map, drop, get_or, Some, None}
use Rattle.std.proofs.Common.{Option, Result, Ok, Err, refl, ap, sym, append_assoc, add-one, drop-cons, arith}
use Rattle.std.specs.Prelude.{IsErrAnd}
use Rattle.m51_cells.specs.Outcome.{and_then, RefusesWith}
use Rattle.m51_module.specs.declared.parts.ModuleParts.{ModuleParts}
use Rattle.m51_jobs.specs.declared.endings.Ending.{Ending}
use Rattle.m51_jobs.specs.declared.endings.Ending.TheVariants as ending
use Rattle.m51_jobs.specs.Endings.{ending_of}
use Rattle.m51_inputs.specs.declared.error.InputError.{InputError}
use Rattle.m51_inputs.specs.Objects.{Linked, with_module, with_library, with_source, with_object, with_archive}
use Rattle.m51_inputs.specs.Objects.{linked_by, linked_from}
use Rattle.m51_inputs.specs.Steps.{linked_before, linked_kinds}

-- one more module
module_after : (modules : List ModuleParts) (libraries : List (List ModuleParts)) (after : Result Linked InputError)
    (parts : ModuleParts)
    → linked_before (modules ++ parts ∷ []) libraries after ≡ linked_before modules libraries (with_module after parts)
module_after modules libraries (Ok after) parts =
    ap (λ (all : List ModuleParts). let whole : Linked =
    record { modules = all; libraries = libraries ++ after.libraries } in
    let found : Result Linked InputError = Ok whole in found)
    (append_assoc modules (parts ∷ []) after.modules)
module_after modules libraries (Err error) parts = refl

-- one more library
library_after : (modules : List ModuleParts) (libraries : List (List ModuleParts)) (after : Result Linked InputError)
    (library : List ModuleParts)
    → linked_before modules (libraries ++ library ∷ []) after
    ≡ linked_before modules libraries (with_library after library)
library_after modules libraries (Ok after) library =
    ap (λ (all : List (List ModuleParts)). let whole : Linked =
    record { modules = modules ++ after.modules; libraries = all } in
    let found : Result Linked InputError = Ok whole in found)
    (append_assoc libraries (library ∷ []) after.libraries)
library_after modules libraries (Err error) library = refl

-- a source where no module is left, and one that gives the next
pub no_source : (modules : List ModuleParts) (libraries : List (List ModuleParts)) (old new : List ModuleParts)
    (after : List ModuleParts → Result Linked InputError)
    → old ≡ new → new ≡ drop 1 old
    → linked_before modules libraries (after new) ≡ linked_before modules libraries (with_source old after)
no_source modules libraries [] new after same rest =
    ap (λ (s : List ModuleParts). linked_before modules libraries (after s)) (sym same)
no_source modules libraries (parts ∷ old) new after same rest = absurd (omega (arith, ap length same, ap length rest))

pub source_put : (modules news : List ModuleParts) (libraries : List (List ModuleParts)) (old new : List ModuleParts)
    (parts : ModuleParts) (after : List ModuleParts → Result Linked InputError)
    → old ≡ parts ∷ new → news ≡ modules ++ parts ∷ []
    → linked_before news libraries (after new) ≡ linked_before modules libraries (with_source old after)
source_put modules news libraries old new parts after is put =
    ap (λ (all : List ModuleParts). linked_before all libraries (after new)) put
    ∙ module_after modules libraries (after new) parts
    ∙ ap (λ (s : List ModuleParts). linked_before modules libraries (with_source s after)) (sym is)

-- an object that is read
pub object_put : (modules news : List ModuleParts) (libraries : List (List ModuleParts))
    (found : Result ModuleParts InputError) (parts : ModuleParts) (after : Result Linked InputError)
    → found ≡ Ok parts → news ≡ modules ++ parts ∷ []
    → linked_before news libraries after ≡ linked_before modules libraries (and_then found (with_module after))
object_put modules news libraries found parts after is put =
    ap (λ (all : List ModuleParts). linked_before all libraries after) put
    ∙ module_after modules libraries after parts
    ∙ ap (λ (f : Result ModuleParts InputError). linked_before modules libraries (and_then f (with_module after)))
    (sym is)

-- a library that is read
pub library_put : (modules : List ModuleParts) (libraries news : List (List ModuleParts))
    (found : Result (List ModuleParts) InputError) (library : List ModuleParts) (after : Result Linked InputError)
    → found ≡ Ok library → news ≡ libraries ++ library ∷ []
    → linked_before modules news after ≡ linked_before modules libraries (and_then found (with_library after))
library_put modules libraries news found library after is put =
    ap (λ (all : List (List ModuleParts)). linked_before modules all after) put
    ∙ library_after modules libraries after library
    ∙ ap (λ (f : Result (List ModuleParts) InputError). linked_before modules libraries
    (and_then f (with_library after))) (sym is)

-- what is refused first is refused as a whole
pub part_refused : {A B : Type 0} (refusal : Option InputError) (found : Result A InputError)
    (next : A → Result B InputError)
    → RefusesWith refusal found → RefusesWith refusal (and_then found next)
part_refused None found next h = tt
part_refused (Some why) found next h = ap (λ f. and_then f next) h

pub rest_refused : (refusal : Option InputError) (modules : List ModuleParts) (libraries : List (List ModuleParts))
    (rest whole : Result Linked InputError)
    → linked_before modules libraries rest ≡ whole → RefusesWith refusal rest → RefusesWith refusal whole
rest_refused None modules libraries rest whole is h = tt
rest_refused (Some why) modules libraries rest whole is h = sym is ∙ ap (linked_before modules libraries) h

-- the argument at an index, and those after it
pub word_at : (kinds : List (Option Ending)) (contents : List (List ℕ)) (i : ℕ) (kind : Option Ending) (bytes : List ℕ)
    (sources : List ModuleParts)
    → i < length kinds → i < length contents → kind ≡ get_or kinds i None → bytes ≡ get_or contents i bytes
    → linked_kinds i (drop i kinds) (drop i contents) sources
    ≡ linked_by kind i bytes sources (linked_kinds (i + 1) (drop (i + 1) kinds) (drop (i + 1) contents))
word_at kinds contents i kind bytes sources some more is has =
    let cut : drop i kinds ≡ kind ∷ drop (i + 1) kinds =
    drop-cons kinds i None some ∙ ap (λ (n : Option Ending). n ∷ drop (suc i) kinds) (sym is)
    ∙ ap (λ (k : ℕ). kind ∷ drop k kinds) (sym (add-one i)) in
    let cut_too : drop i contents ≡ bytes ∷ drop (i + 1) contents =
    drop-cons contents i bytes more ∙ ap (λ (n : List ℕ). n ∷ drop (suc i) contents) (sym has)
    ∙ ap (λ (k : ℕ). bytes ∷ drop k contents) (sym (add-one i)) in
    ap (λ (ks : List (Option Ending)). linked_kinds i ks (drop i contents) sources) cut
    ∙ ap (λ (cs : List (List ℕ)). linked_kinds i (kind ∷ drop (i + 1) kinds) cs sources) cut_too

-- what follows decides nothing else
same_by : (kind : Option Ending) (word : ℕ) (bytes : List ℕ) (sources : List ModuleParts)
    (one two : List ModuleParts → Result Linked InputError)
    → ((left : List ModuleParts) → one left ≡ two left)
    → linked_by kind word bytes sources one ≡ linked_by kind word bytes sources two
same_by (Some ending.Source) word bytes [] one two h = h []
same_by (Some ending.Source) word bytes (parts ∷ sources) one two h = ap (λ after. with_module after parts) (h sources)
same_by (Some ending.Include) word bytes sources one two h = h sources
same_by (Some ending.Object) word bytes sources one two h = ap (with_object word bytes) (h sources)
same_by (Some ending.Library) word bytes sources one two h = ap (with_archive word bytes) (h sources)
same_by None word bytes sources one two h = h sources

-- arguments by what they are, and by their names
pub kinds_linked : (names contents : List (List ℕ)) (word : ℕ) (sources : List ModuleParts)
    → linked_kinds word (map ending_of names) contents sources ≡ linked_from word names contents sources
kinds_linked [] contents word sources = refl
kinds_linked (name ∷ names) [] word sources = refl
kinds_linked (name ∷ names) (bytes ∷ contents) word sources =
    same_by (ending_of name) word bytes sources (linked_kinds (word + 1) (map ending_of names) contents)
    (linked_from (word + 1) names contents)
    (kinds_linked names contents (word + 1))

-- what the exit of a `?` returns, where the error stays
pub came : {T : Type 0} (result : Result T InputError) (why : InputError) → IsErrAnd result (λ e. e ≡ why)
    → result ≡ Err why
came (Ok value) why h = absurd h
came (Err e) why h = ap (λ (error : InputError). Err error) h
