-- Each line of a text is a line of its file.
use Rattle.std.proofs.Common.{◌≡◌, ℕ, zero, suc, ◌+◌, ◌<◌, ◌≤◌, List, [], ◌∷◌, length, slice_get, Option}
use Rattle.std.proofs.Common.{Some, None, Result, Ok, Err, refl, ap, ◌∙◌, subst, arith, add-one}
use Rattle.std.specs.List.{All}
use Rattle.std.specs.Str.Lines.{lines}
use Rattle.std.proofs.lemmas.List.Elements.{All-nil, All-cons, All-head, All-tail, All-append, All-take}
use Rattle.std.proofs.lemmas.Option.{slice_get_within}
use Rattle.m51_module.specs.declared.source.Fault.{Fault}
use Rattle.m51_module.specs.declared.source.SourceFile.{SourceFile}
use Rattle.m51_stmt.specs.Statement.{StmtTree}
use Rattle.m51_text.specs.declared.inclusion.Inclusion.{Inclusion}
use Rattle.m51_text.specs.declared.inclusion.Inclusion.TheVariants.{Given}
use Rattle.m51_text.specs.Said.{said}
use Rattle.m51_text.specs.Text.{TextLine, lines_with, bytes_of_file, include_lines, inclusion_of, brought, file_lines}
use Rattle.m51_text.specs.Text.{text_lines}
use Rattle.m51_text.specs.Faults.{faults_of}
use Rattle.m51_text.specs.Answer.{LineTree, Lines, with_statement, statements_of, faults_or_lines, text_of}
use Rattle.m51_text.specs.Laws.{bytes_in, IsLineOf, LinesAreOfFiles}

module _ (source : SourceFile) (includes : List SourceFile) where
  -- a line of the text, before and after its statement is read
  abbrev Numbered : TextLine → Type 0
  Numbered l = IsLineOf source includes l.file l.line

  abbrev NumberedTree : LineTree → Type 0
  NumberedTree l = IsLineOf source includes l.file l.line

  -- the lines of a file from a number on
  with_numbers : (more : List ℕ → List TextLine) → ((line : List ℕ) → All Numbered (more line))
      → (levels file number : ℕ) (ls : List (List ℕ))
      → file ≤ length includes → 0 < number → number + length ls ≤ length (lines (bytes_in source includes file)) + 1
      → All Numbered (lines_with more levels file number ls)
  with_numbers more all levels file number [] within some room = All-nil Numbered
  with_numbers more all levels file number (line ∷ ls) within some room =
      let len : length (line ∷ ls) ≡ suc (length ls) = refl in
      All-cons Numbered _ _ (record { given = within; first = some; last = omega (arith, room, len) })
      (All-append Numbered (more line) (lines_with more levels file (number + 1) ls) (all line)
      (with_numbers more all levels file (number + 1) ls within (omega (arith, some)) (omega (arith, room, len))))

  -- those of an include, where there is one
  of_include : (more : List ℕ → List TextLine) → ((line : List ℕ) → All Numbered (more line))
      → (levels index : ℕ) (file : Option SourceFile)
      → slice_get includes index ≡ file
      → All Numbered (lines_with more levels (index + 1) 1 (lines (bytes_of_file file)))
  of_include more all levels index None is = All-nil Numbered
  of_include more all levels index (Some file) is =
      let within : index < length includes = slice_get_within includes index file is in
      let same : length (lines (bytes_in source includes (index + 1))) ≡ length (lines file.bytes) =
      ap (λ n. length (lines (bytes_in source includes n))) (add-one index)
      ∙ ap (λ o. length (lines (bytes_of_file o))) is in
      with_numbers more all levels (index + 1) 1 (lines file.bytes) (omega (arith, within)) (omega arith)
      (omega (arith, same))

  of_inclusion : (more : List ℕ → List TextLine) → ((line : List ℕ) → All Numbered (more line))
      → (levels : ℕ) (inclusion : Inclusion)
      → All Numbered (include_lines includes more levels inclusion)
  of_inclusion more all levels (Given index) = of_include more all levels index (slice_get includes index) refl
  of_inclusion more all levels inclusion = All-nil Numbered

  -- the lines that a line brings in
  of_brought : (levels : ℕ) (line : List ℕ) → All Numbered (brought includes levels line)
  unfolding brought
  of_brought zero line = All-nil Numbered
  of_brought (suc levels) line =
      of_inclusion (brought includes levels) (of_brought levels) levels (inclusion_of includes (suc levels) (said line))

  of_text : All Numbered (text_lines source includes)
  unfolding text_lines
  of_text =
      All-take Numbered 65536 (file_lines includes 8 0 source.bytes)
      (with_numbers (brought includes 8) (of_brought 8) 8 0 1 (lines source.bytes) (omega arith) (omega arith)
      (omega arith))

  one_statement : (l : TextLine) (r : Result StmtTree ℕ) (more : List LineTree) → Numbered l
      → All NumberedTree more → All NumberedTree (with_statement l r more)
  one_statement l (Ok statement) more h all =
      All-cons NumberedTree _ more (record { given = h.given; first = h.first; last = h.last }) all
  one_statement l (Err number) more h all = all

  of_statements : (ls : List TextLine) → All Numbered ls → All NumberedTree (statements_of ls)
  of_statements [] all = All-nil NumberedTree
  of_statements (l ∷ ls) all =
      one_statement l (said l.bytes) (statements_of ls) (All-head Numbered l ls all)
      (of_statements ls (All-tail Numbered l ls all))

  found_are : (faults : List Fault) (ls found : List LineTree) → faults_or_lines faults ls ≡ Lines found → ls ≡ found
  found_are [] ls found h = cc h
  found_are (fault ∷ faults) ls found h = absurd (cc h)

  pub numbered : (found : List LineTree) → text_of source includes ≡ Lines found → All NumberedTree found
  numbered found h =
      let is : statements_of (text_lines source includes) ≡ found =
      found_are (faults_of includes (text_lines source includes)) (statements_of (text_lines source includes)) found
      h in
      subst (All NumberedTree) is (of_statements (text_lines source includes) of_text)

pub lines_are_of_files : LinesAreOfFiles
lines_are_of_files = λ source includes found h. numbered source includes found h
