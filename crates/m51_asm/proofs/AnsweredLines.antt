-- The answer of a text: that of the first line that has a fault by the lines above it, or else the faults of content,
-- or the module and the rows; no other. Also how lines are read in a loop, and that a text has at most 65,536.
use Rattle.m51_asm.proofs
use Rattle.m51_asm.specs
use proofs.Common.{◌≡◌, ℕ, zero, suc, ◌+◌, ◌<◌, ◌≤◌, List, [], ◌∷◌, length, Option, Some, None, refl, ap, slice_get}
use proofs.Common.{arith, LineTree, Assignment, content_faults, AreFree, IsFirstFault, map, get_or, line_tree}
use proofs.Common.{LinePlace, IsPlaceOf, ArePlaces, ◌==◌, false, take, length-take, Fault, Row, SourceFile, IsGivenTo}
use proofs.Common.{IsText, placed_fault, fault_of_line, append-nil, ModuleParts, Contents, parts, length-map}
use specs.Answer.{Faults, first_fault, content_or_faults, answer_of_lines, Gives}
use Rattle.m51_text.specs.Answer.{Lines, TextTree, Faults as TextFaults, statements_of}
use specs.AnswerRows.{rows}
use specs.AnswerLaws.{HasOneAnswer}
use proofs.AnAssignment.{same, fitting, fits}
use Rattle.std.proofs.lemmas.Option.{slice_get-map, slice_get_read, slice_get-get_or}
use Rattle.m51_text.specs.declared.text.Line.{Line}
use Rattle.std.proofs.Math.Seq.{drop-length}
use Rattle.m51_text.specs.Text.{file_lines, text_lines, TextLine}

-- a number further on
pub moved : (n k : ℕ) → suc n + k ≡ n + suc k
moved n k = omega arith

module _ (fault : ℕ → Option ℕ) where
  no_fault : (lines : List LineTree) (n : ℕ) → ((m : ℕ) → n ≤ m → m < n + length lines → fault m ≡ None)
      → first_fault fault n lines ≡ None
  no_fault [] n h = refl
  no_fault (l ∷ lines) n h =
      cc (h n (omega arith) (omega arith), no_fault lines (suc n) (λ m low up. h m (omega arith) (omega arith)))

  fault_first : (lines : List LineTree) (n k m : ℕ) (line : LineTree) (number : ℕ) → slice_get lines k ≡ Some line
      → m ≡ n + k → fault m ≡ Some number → ((j : ℕ) → n ≤ j → j < m → fault j ≡ None)
      → first_fault fault n lines ≡ Some (fault_of_line line number)
  fault_first [] n k m line number is at found earlier = absurd (cc is)
  fault_first (l ∷ lines) n zero m line number is at found earlier = grind arith
  fault_first (l ∷ lines) n (suc k) m line number is at found earlier =
      cc (
        earlier n (omega arith) (omega arith),
        fault_first lines (suc n) k m line number is (omega arith) found (λ j
            low up. earlier j (omega arith) up),
      )

-- the fault of the first line that has one by the lines above it is the answer
pub fault_answer : (file : List ℕ) (lines : List LineTree) (a : Assignment) (k number : ℕ) (line : LineTree)
    → slice_get lines k ≡ Some line
    → IsFirstFault lines a k number → answer_of_lines file lines a ≡ Faults (fault_of_line line number ∷ [])
unfolding answer_of_lines
fault_answer file lines a k number line is h =
    cc (fault_first (placed_fault lines a) lines 0 k k line number is (omega arith) h.found (λ j low up. h.earlier j
    up))

-- where no line has one, the answer is that of the content
pub content_answer : (file : List ℕ) (lines : List LineTree) (a : Assignment) → AreFree lines a (length lines)
    → answer_of_lines file lines a ≡ content_or_faults file lines a (content_faults lines a)
unfolding answer_of_lines
content_answer file lines a h = cc (no_fault (placed_fault lines a) lines 0 (λ m low up. h m (omega arith)))

-- the answer of a text, and no other
pub one_answer : (file : List ℕ) (text : TextTree) → HasOneAnswer file text
one_answer file (TextFaults faults) = record { answer = Faults faults; is = refl; only = λ other h. h }
one_answer file (Lines lines) = record {
  answer = answer_of_lines file lines (fitting lines);
  is = λ a f. ap (answer_of_lines file lines) (same (fits lines) f);
  only = λ other h. h (fitting lines) (fits lines);
}

-- a line that is read in a loop over the lines of a text
pub line_at : (lines : List Line) (k : ℕ) (line : Line) → k < length lines → line ≡ get_or lines k line
    → slice_get (map line_tree lines) k ≡ Some (line_tree line)
line_at lines k line within is =
    cc (slice_get-map line_tree lines k, slice_get_read lines (length lines) k line refl within is)

-- a line that is read in a loop over the lines of a text and their places, and its place
pub read_at : (lines : List Line) (a : Assignment) (places : List LinePlace) → ArePlaces (map line_tree lines) a places
    → (k : ℕ) → k < length lines → k < length places
    → (line : Line) → line ≡ get_or lines k line → (d : LinePlace)
    → (slice_get (map line_tree lines) k ≡ Some (line_tree line))
    × IsPlaceOf (map line_tree lines) a k (get_or places k d)
read_at lines a places each k within room line is d =
    (line_at lines k line within is, each k (get_or places k d) (slice_get-get_or places k d room))

module _ (lines : List LineTree) (a : Assignment) (c : Contents) (h : IsGivenTo lines a (length lines) c) where
  -- the faults of all lines
  pub all_faults : content_faults lines a ≡ c.faults
  all_faults = cc (drop-length lines, append-nil c.faults)

  -- the rows of all lines
  pub all_rows : c.rows ≡ rows lines a
  all_rows = cc (append-nil c.rows, drop-length lines)

module _ (file : List ℕ) (lines : List LineTree) (a : Assignment) (free : AreFree lines a (length lines)) where
  some_by : (faults : List Fault) → (length faults == 0) ≡ false → Faults faults ≡ content_or_faults file lines a faults
  some_by b some = grind arith

  -- where content has faults, they are the answer
  pub faults_answer : (faults : List Fault) → content_faults lines a ≡ faults → (length faults == 0) ≡ false
      → Faults faults ≡ answer_of_lines file lines a
  faults_answer faults e some = cc (some_by faults some, content_answer file lines a free)

  -- where it has none, the module and the rows are
  pub module_answer : (m : ModuleParts) (listed : List Row) → content_faults lines a ≡ [] → m ≡ parts file lines a
      → listed ≡ rows lines a
      → Gives m listed ≡ answer_of_lines file lines a
  module_answer m listed none made all = cc (content_answer file lines a free)

said_few : (ls : List TextLine) → length (statements_of ls) ≤ length ls
said_few [] = omega arith
said_few (l ∷ ls) = grind (arith, said_few ls)

short : {A : Type 0} (n : ℕ) (xs : List A) → length (take n xs) ≤ n
short n xs = omega (arith, length-take n xs)

read_few : (source : SourceFile) (includes : List SourceFile) → length (text_lines source includes) ≤ 65536
unfolding text_lines
read_few source includes = short 65536 (file_lines includes 8 0 source.bytes)

-- a text has at most 65,536 lines
pub lines_few : (lines : List LineTree) → IsText lines → length lines ≤ 65536
lines_few lines text = grind (arith, said_few, read_few)

pub ruleset text_short = (lines_few, length-map)
