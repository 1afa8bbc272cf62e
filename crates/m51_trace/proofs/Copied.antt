-- The words that are copied after `build`.
use Rattle.std.proofs.Common.{◌≡◌, ◌∙◌, ℕ, ◌≤◌, List, ◌∷◌, ◌++◌, length, drop, ap, sym, append-nil}
use Rattle.std.specs.Prelude.{codes, min, string_bytes}
use Rattle.std.specs.declared.alloc.Global.{Global}
use Rattle.std.specs.declared.string.String.{String}
use Rattle.std.proofs.lemmas.List.{drop_all, drop_min, drop-map}
use Rattle.m51_jobs.specs.Texts.{texts}
use Rattle.m51_trace.specs.Requests.{build_words}

-- the words from a number on, which is none past their end
rest_is : (words rest : List (String Global)) (count start : ℕ) → rest ≡ drop start words
    → start ≡ min count (length words) → texts rest ≡ drop count (texts words)
rest_is words rest count start is at =
    ap texts is ∙ ap (λ (k : ℕ). texts (drop k words)) at ∙ ap texts (drop_min count words)
    ∙ sym (drop-map (λ (word : String Global). string_bytes word) count words)

-- all of them are copied
pub copied : (words rest : List (String Global)) (count start index : ℕ) (got : List (List ℕ))
    → got ++ texts (drop index rest) ≡ codes "build" ∷ texts rest → length rest ≤ index
    → rest ≡ drop start words → start ≡ min count (length words) → got ≡ build_words (texts words) count
copied words rest count start index got done all is at =
    sym (append-nil got)
    ∙ ap (λ (ws : List (String Global)). got ++ texts ws) (sym (drop_all index rest all))
    ∙ done
    ∙ ap (λ (ws : List (List ℕ)). codes "build" ∷ ws) (rest_is words rest count start is at)
