-- What is promised of texts.
use Rattle.std.specs.Prelude.{◌≡◌, ℕ, zero, suc, ◌<◌, ◌≤◌, List, length, slice_get, All}
use Rattle.std.specs.Str.Lines.{lines}
use Rattle.m51_module.specs.declared.source.SourceFile.{SourceFile}
use Rattle.m51_text.specs.Text.{bytes_of_file}
use Rattle.m51_text.specs.Answer.{LineTree, Lines, text_of}

-- the bytes of a file: 0 is the source, k the k-th include
abbrev pub bytes_in : SourceFile → List SourceFile → ℕ → List ℕ
bytes_in source includes zero = source.bytes
bytes_in source includes (suc k) = bytes_of_file (slice_get includes k)

-- the file is the source or one of the includes, and the number, counted from 1, is that of one of its lines
pub record IsLineOf (source : SourceFile) (includes : List SourceFile) (file line : ℕ) : Type 0 where
  pub given : file ≤ length includes
  pub first : 0 < line
  pub last : line ≤ length (lines (bytes_in source includes file))

-- each line of a text is a line of its file
abbrev pub LinesAreOfFiles : Type 0
LinesAreOfFiles = (source : SourceFile) (includes : List SourceFile) (found : List LineTree)
    → text_of source includes ≡ Lines found → All (λ l. IsLineOf source includes l.file l.line) found
