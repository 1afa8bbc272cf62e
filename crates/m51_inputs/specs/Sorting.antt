-- The files of a program by kind, as one pass over them finds them.
use Rattle.std.specs.Prelude.{◌≡◌, ◌≤◌, ℕ, List, [], ◌∷◌, ◌++◌, length, map, Option, Some}
use Rattle.m51_module.specs.declared.source.SourceFile.{SourceFile}
use Rattle.m51_jobs.specs.declared.endings.Ending.{Ending}
use Rattle.m51_jobs.specs.declared.endings.Ending.TheVariants as ending
use Rattle.m51_jobs.specs.Endings.{ending_of}
use Rattle.m51_inputs.specs.declared.sorting.Sorted.{Sorted}
use Rattle.m51_inputs.specs.declared.sorting.SourceArgument.{SourceArgument}
use Rattle.m51_inputs.specs.Files.{includes_of, source_words, sources_of}

-- the files of sources, and the indices of their arguments
abbrev pub files_in : List SourceArgument → List SourceFile
files_in sources = map (λ (source : SourceArgument). source.file) sources

abbrev pub words_in : List SourceArgument → List ℕ
words_in sources = map (λ (source : SourceArgument). source.word) sources

-- the file of an argument, which is this, added to those before it
abbrev pub with_file : Option Ending → ℕ → SourceFile → Sorted → Sorted
with_file (Some ending.Source) word file sorted = record {
  endings = sorted.endings ++ Some ending.Source ∷ [];
  sources = sorted.sources ++ record { word = word; file = file } ∷ [];
  includes = sorted.includes;
}
with_file (Some ending.Include) word file sorted = record {
  endings = sorted.endings ++ Some ending.Include ∷ [];
  sources = sorted.sources;
  includes = sorted.includes ++ file ∷ [];
}
with_file other word file sorted = record {
  endings = sorted.endings ++ other ∷ [];
  sources = sorted.sources;
  includes = sorted.includes;
}

-- These are the files of these names with these contents, by kind.
pub record IsSorted (names contents : List (List ℕ)) (sorted : Sorted) : Type 0 where
  pub endings : sorted.endings ≡ map ending_of names
  pub sources : files_in sorted.sources ≡ sources_of names contents
  pub words : words_in sorted.sources ≡ source_words 0 names
  pub includes : sorted.includes ≡ includes_of names contents
  pub few : length sorted.includes ≤ length names
  pub count : length sorted.endings ≡ length names
