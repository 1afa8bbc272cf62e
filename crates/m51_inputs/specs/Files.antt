-- The sources and the includes among the files of a program.
use Rattle.std.specs.Prelude.{ℕ, ◌+◌, Bool, if◌then◌else◌, List, [], ◌∷◌}
use Rattle.m51_module.specs.declared.source.SourceFile.{SourceFile}
use Rattle.m51_jobs.specs.Endings.{is_include, is_source}

-- the files of a kind, by their names, in the order of the arguments: each under its argument, with its bytes
abbrev pub files_that : (List ℕ → Bool) → List (List ℕ) → List (List ℕ) → List SourceFile
files_that is (name ∷ names) (bytes ∷ contents) =
    if is name then record { name = name; bytes = bytes } ∷ files_that is names contents
    else files_that is names contents
files_that is names contents = []

-- the sources
abbrev pub sources_of : List (List ℕ) → List (List ℕ) → List SourceFile
sources_of names contents = files_that is_source names contents

-- the includes, which every source may use
abbrev pub includes_of : List (List ℕ) → List (List ℕ) → List SourceFile
includes_of names contents = files_that is_include names contents

-- which arguments are sources: their indices, where the first argument has this one
abbrev pub source_words : ℕ → List (List ℕ) → List ℕ
source_words word [] = []
source_words word (name ∷ names) =
    if is_source name then word ∷ source_words (word + 1) names
    else source_words (word + 1) names
