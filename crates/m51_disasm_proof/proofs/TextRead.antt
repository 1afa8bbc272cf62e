-- No line has a fault: in the text, which is read as its lines, and by the lines above it, part by part.
use Rattle.m51_disasm_proof.proofs
use proofs.Common.{AllByRecursion, AreBytes, Assignment, Bool, CodeRange, In, IsSound, IsSpot, LayoutParts, LineGives}
use proofs.Common.{LineTree, List, None, Ok, Some, SourceFile, SourceLine, Statement, TextSegment, [], above, ap}
use proofs.Common.{append-nil, append_assoc, arith, code_ranges, codes, common_steps, cond, false, flat_map, in_first}
use proofs.Common.{in_later, is_character, length, length-append, length_in, line_size, line_text, lines_of, list_all}
use proofs.Common.{map, meant, nat_lt, nat_tests, not, opening, read_from, refl, segment_after, slice_get}
use proofs.Common.{statement_lines, statements_of, subst, suc, true, zero, ℕ, ◌&&◌, ◌++◌, ◌+◌, ◌-◌, ◌<◌, ◌==◌, ◌∙◌, ◌∷◌}
use proofs.Common.{◌≡◌, ◌≤◌}
use Rattle.m51_asm.proofs.Common.{cases_eq}
use Rattle.m51_asm.specs.Assignment.{absolute}
use Rattle.m51_asm.specs.FirstFault.{AreFree}
use Rattle.m51_asm.specs.Fitting.{externals_before, externals_in}
use Rattle.m51_asm.specs.ObjectSegments.{begun_by, kept_before}
use Rattle.m51_asm.specs.PlacedFaults.{is_misplaced, operand_fault, placed_fault, segments_before}
use Rattle.m51_asm.specs.Repeats.{is_repeated}
use Rattle.m51_cells.proofs.LineLaws.{ended}
use Rattle.m51_cells.specs.Lines.{is_line_feed}
use Rattle.m51_disasm.specs.Answer.{disassembled, text_by, text_within}
use Rattle.m51_disasm.specs.Lines.{part_lines}
use Rattle.m51_disasm.specs.Texts.{text_of_lines}
use Rattle.m51_expr.specs.Evaluation.{value_of}
use Rattle.m51_module.specs.declared.linked.Quantity.{Quantity}
use Rattle.m51_stmt.proofs.ReadStatements.{at_most_255}
use Rattle.m51_text.specs.Answer.{Lines, statements_of as said_in, text_of}
use Rattle.m51_text.specs.Faults.{ends_source, fault_on_line, faults_from}
use Rattle.m51_text.specs.Said.{is_end_body, said}
use Rattle.m51_text.specs.Text.{TextLine, brought, lines_with, text_lines}
use Rattle.std.proofs.Common.{Err, Result, inl, inr, min}
use Rattle.std.proofs.lemmas.List.{length-map, take_all}
use Rattle.std.proofs.lemmas.List.Folds.{list_any-append}
use Rattle.std.proofs.lemmas.List.Splits.{length-slice_split, slice_split_at}
use Rattle.std.proofs.lemmas.List.Sums.{AllPass-from_list_all}
use Rattle.std.specs.List.{list_any, slice_split}
use Rattle.std.specs.Str.Lines.{lines, strip_carriage_return}
use Rattle.m51_cells.specs.declared.kind.Kind.TheVariants as kind
use Rattle.m51_module.specs.Sound as layout
use Rattle.m51_disasm.specs.declared.line.SourceLine.TheVariants as line
use Rattle.m51_module.specs.declared.linked.Quantity.TheVariants as quantity
use proofs.LinesStand.{AreInOrder, LinesFrom, State, after, are_sound, body_is, body_read, given_after, next}
use proofs.LinesStand.{parts_in_order, read_at, says_here, size_is_of, spot_here, state}
use proofs.SoundLines.{Follow, line_in, lines_in, of_whole, part_follows, rest_of, whole, whole_good}
use proofs.StatementsRead.{line_read, line_short}

-- these lines, from line k on, give their bytes
abbrev pub GiveFrom : List LineTree → Assignment → List ℕ → ℕ → TextSegment → ℕ → List SourceLine → Type 0
GiveFrom lines a image k s given [] = Unit {0}
GiveFrom lines a image k s given (l ∷ ls) =
    LineGives lines a image k (s.base + given) (line_size l)
    × GiveFrom lines a image (suc k) (segment_after k s l) (given_after given l) ls

-- a segment is counted where it gets its first byte
abbrev one_if : Bool → ℕ
one_if b = cond b 1 0

counts : (given size : ℕ) → one_if ((given == 0) && not (size == 0)) ≡ min 1 (given + size) - min 1 given
counts given size = grind (arith, nat_tests)

-- no line from line k on has a fault
abbrev FreeFrom : List LineTree → Assignment → ℕ → Type 0
FreeFrom lines a k = (j : ℕ) → k ≤ j → j < length lines → placed_fault lines a j ≡ None

module _ {lines : List LineTree} {a : Assignment} {k : ℕ} {s : State} {l : SourceLine} {ls : List SourceLine}
    (h : LinesFrom lines a k s (l ∷ ls)) where
  pub kept_next : kept_before lines a (suc k)
      ≡ kept_before lines a k ++ begun_by lines a k (segment_after k s.segment l)
  unfolding kept_before
  kept_next = grind (arith, common_steps, body_is h, next h)

  -- a line that keeps the segment adds none
  pub kept_same : segment_after k s.segment l ≡ s.segment → kept_before lines a (suc k) ≡ kept_before lines a k
  kept_same same = grind (arith, common_steps, kept_next, append-nil)

  count_next : segments_before lines a (suc k)
      ≡ segments_before lines a k + (min 1 (s.given + line_size l) - min 1 s.given)
  unfolding segments_before
  count_next = grind (arith, common_steps, body_is h, size_is_of h, counts s.given (line_size l))

  -- A line has no fault, where the bytes given to its segment end in program memory, the segment is not too large, and
  -- there are few enough segments.
  free_here : externals_before lines (suc k) ≡ 0 → segments_before lines a (suc k) ≤ 254
      → (segment_after k s.segment l).base + given_after s.given l ≤ 65536 → given_after s.given l ≤ 65535
      → FreeFrom lines a (suc k) → FreeFrom lines a k
  unfolding placed_fault is_repeated value_of
  free_here none few address size more j le less =
      let place = spot_here (next h) in
      let body = body_is h in
      let misplaced : is_misplaced s.segment (meant l).body ≡ false = grind (arith, common_steps) in
      let operand : operand_fault lines (above lines a k) k (meant l).body ≡ None = grind (arith, common_steps) in
      let here = says_here h in
      let repeated : is_repeated lines k ≡ false = grind (arith, common_steps) in
      let free : placed_fault lines a k ≡ None = grind (arith, common_steps) in
      elim (cases_eq k j) [
        | inl e ↦ rw (← e) free
        | inr ne ↦ more j (omega arith) less
      ]

-- the segment of a part that begins at line k
abbrev pub part_segment : ℕ → CodeRange → TextSegment
part_segment k part = absolute (k + 2) kind.Code part.base

-- the lines of statements of a part, from line k and an address on, and from line n on those of the parts after it
pub record StatementsFrom (lines : List LineTree) (a : Assignment) (image : List ℕ) (part : CodeRange)
    (parts : List CodeRange) (n at k : ℕ) (s : State) (statements : List Statement) : Type 0 where
  pub follow : Follow image (part.base + part.size) at statements
  pub place : at ≡ s.segment.base + s.given
  pub last : n ≡ k + length statements
  pub all : part.size ≡ s.given + (part.base + part.size - at)
  pub from : LinesFrom lines a k s (lines_in image part parts statements)

-- the lines of parts from line n on, after lines from line k on that add no segment and keep the one that is open
pub record Passed (lines : List LineTree) (a : Assignment) (image : List ℕ) (parts : List CodeRange) (k : ℕ) (s : State)
    (ls : List SourceLine) (n given : ℕ) : Type 0 where
  pub low : ℕ
  pub from : LinesFrom lines a n (state s.segment given low) (rest_of image parts)
  pub kept : kept_before lines a n ≡ kept_before lines a k
  pub give : GiveFrom lines a image k s.segment s.given ls
      → GiveFrom lines a image n s.segment given (rest_of image parts)

module _ {lines : List LineTree} {a : Assignment} {image : List ℕ} {part : CodeRange} {parts : List CodeRange} where
  pub in_part : {k : ℕ} {s : State} → LinesFrom lines a k s (rest_of image (part ∷ parts))
      → StatementsFrom lines a image part parts (suc k + length (statements_of image part)) part.base (suc k)
      (state (part_segment k part) 0 s.low) (statements_of image part)
  in_part h = grind (arith, part_follows image part, next h)

  pub next_statement : {n at k : ℕ} {s : State} {x : Statement} {statements : List Statement}
      → StatementsFrom lines a image part parts n at k s (x ∷ statements)
      → StatementsFrom lines a image part parts n (at + length_in x.content) (suc k) (after k s (line_in image part x))
      statements
  next_statement h = grind (arith, next h.from)

  -- what holds at the end of the part, holds where statements have ended
  pub from_end : {n at k : ℕ} {s : State} (P : ℕ → ℕ → Type 0) → StatementsFrom lines a image part parts n at k s []
      → P n part.size → P k s.given
  from_end {n} {k = k} {s} P h holds =
      let here : n ≡ k = omega arith in
      let all : part.size ≡ s.given = omega arith in
      subst (λ m. P m s.given) here (subst (λ given. P n given) all holds)

  -- the lines after those of a part
  pub statements_passed : (statements : List Statement) {n at k : ℕ} {s : State}
      → StatementsFrom lines a image part parts n at k s statements
      → Passed lines a image parts k s (lines_in image part parts statements) n part.size
  statements_passed [] {n} {k = k} {s} h =
      grind arith
  statements_passed (x ∷ statements) h =
      let p = statements_passed statements (next_statement h) in
      grind (arith, kept_same h.from refl)

  -- a statement is in its spot, and gives its bytes of the image
  pub statement_there : (statements : List Statement) {end at k : ℕ} {s : State} (n : ℕ)
      → StatementsFrom lines a image part parts end at k s statements
      → GiveFrom lines a image k s.segment s.given (lines_in image part parts statements) → (j : ℕ) (x : Statement)
      → slice_get statements j ≡ Some x → n ≡ k + j
      → IsSpot a n (record { segment = s.segment; address = x.at })
      × LineGives lines a image n x.at (length_in x.content)
  statement_there [] n h gives j x e is = absurd (cc e)
  statement_there (y ∷ statements) n h gives zero x e is = grind (arith, common_steps, spot_here h.from)
  statement_there (y ∷ statements) n h gives (suc j) x e is =
      statement_there statements n (next_statement h) gives.1 j x e (omega arith)

-- a part after others
pub record PartThere (lines : List LineTree) (a : Assignment) (image : List ℕ) (k : ℕ) (parts : List CodeRange)
    : Type 0 where
  pub least : ℕ
  pub order : AreInOrder least parts
  pub start : State
  pub from : LinesFrom lines a k start (rest_of image parts)
  pub give : GiveFrom lines a image k start.segment start.given (rest_of image parts)

pub parts_passed : {lines : List LineTree} {a : Assignment} (image : List ℕ) (before parts : List CodeRange) (k n : ℕ)
    → PartThere lines a image k (before ++ parts) → n ≡ k + length (flat_map (part_lines image) before)
    → PartThere lines a image n parts
unfolding part_lines
parts_passed {lines} {a} image [] parts k n h e = let here : k ≡ n = omega arith in rw (← here) h
parts_passed image (part ∷ before) parts k n h e =
    let statements : List Statement = statements_of image part in
    let p = statements_passed _ (in_part h.from) in
    let one = length-append (statement_lines statements) (flat_map (part_lines image) before) in
    let two = length-map statements (line_in image part) in
    parts_passed image before parts (suc k + length statements) n
    (record { least = _; order = h.order.2; start = _; from = p.from; give = p.give h.give.1 })
    (omega arith)

-- ---- no line has a fault by the lines above it

-- parts are not too large for segments
abbrev pub AreSmall : List CodeRange → Type 0
AreSmall parts = (p : CodeRange) → In p parts → p.size < 65536

none_external : (ls : List SourceLine) (k : ℕ) → externals_before (read_at 0 ls) k ≡ 0
unfolding externals_before
none_external ls zero = refl
none_external ls (suc k) =
    let none = body_read (λ b. externals_in b ≡ 0) refl (λ l. grind (arith, common_steps)) 0 ls k in
    grind (arith, common_steps, none_external ls k)

module _ {lines : List LineTree} {a : Assignment} (image : List ℕ) (none : (j : ℕ) → externals_before lines j ≡ 0) where
  statements_free : {part : CodeRange} {parts : List CodeRange} (statements : List Statement) {n at k : ℕ} {s : State}
      → StatementsFrom lines a image part parts n at k s statements → part.base + part.size ≤ 65536
      → part.size ≤ 65535 → segments_before lines a k + length parts ≤ 253 + min 1 s.given
      → (segments_before lines a n + length parts ≤ 253 + min 1 part.size → FreeFrom lines a n) → FreeFrom lines a k
  statements_free {parts = parts} [] h inside small few more =
      from_end (λ m given. segments_before lines a m + length parts ≤ 253 + min 1 given → FreeFrom lines a m) h more few
  statements_free (x ∷ statements) {k = k} h inside small few more =
      let here = h.follow.0 in
      let count = count_next h.from in
      free_here h.from (none (suc k)) (omega arith) (omega arith) (omega arith)
      (statements_free statements (next_statement h) inside small (omega arith) more)

  parts_free : (parts : List CodeRange) {k : ℕ} {s : State} (low : ℕ) → AreInOrder low parts → AreSmall parts
      → LinesFrom lines a k s (rest_of image parts) → s.segment.base + s.given ≤ 65536 → s.given ≤ 65535
      → segments_before lines a k + length parts ≤ 254 → FreeFrom lines a k
  parts_free [] {k} low order sizes h address small few =
      let count = count_next h in
      let last = (next h).count in
      free_here h (none (suc k)) (omega arith) (omega arith) (omega arith) (λ j le less. absurd (omega arith))
  parts_free (part ∷ parts) {k} low order sizes h address small few =
      let inside = order.1.ends in
      let size = sizes part (in_first part parts) in
      let count = count_next h in
      free_here h (none (suc k)) (omega arith) (omega arith) (omega arith)
      (statements_free _ (in_part h) inside (omega arith) (omega arith)
      (λ enough. parts_free parts _ order.2 (λ p i. sizes p (in_later p part parts i))
      (statements_passed _ (in_part h)).from inside (omega arith) (omega arith)))

-- few and small parts have no fault
pub whole_free : {a : Assignment} (image : List ℕ) (parts : List CodeRange) → AreInOrder 0 parts → AreSmall parts
    → length parts ≤ 254
    → let lines = read_at 0 (whole image parts) in
    LinesFrom lines a 0 (state opening 0 0) (whole image parts) → AreFree lines a (length lines)
unfolding segments_before
whole_free image parts order sizes few h j less =
    let none = none_external (whole image parts) in
    let count = count_next h in
    free_here h (none 1) (omega arith) (omega arith) (omega arith)
    (parts_free image none parts 0 order sizes (next h) (omega arith) (omega arith) (omega arith)) j (omega arith) less

-- ---- each line says what is meant

line_said : (l : SourceLine) → IsSound l → said (line_text l) ≡ Ok (meant l)
unfolding said
line_said l is =
    let short = line_short l is in
    grind (arith, common_steps, at_most_255 (length (line_text l)), line_read l is)

-- ---- the lines of the text

unstripped : (text : List ℕ) → list_all is_character text ≡ true → strip_carriage_return text ≡ text
unstripped text h = grind (arith, common_steps)

first_line : (text rest : List ℕ) → list_all is_character text ≡ true
    → lines ((text ++ codes "\n") ++ rest) ≡ text ∷ lines rest
first_line text rest h =
    let some = length-slice_split is_line_feed rest in
    let split = slice_split_at is_line_feed text 10 rest
    (λ k d below. grind (arith, common_steps, AllPass-from_list_all is_character text h k d below)) refl in
    grind (arith, common_steps, append_assoc, ended text (slice_split is_line_feed rest), unstripped text h)

-- ---- the lines are only those of the source

none_brought : (l : SourceLine) → IsSound l → brought [] 8 (line_text l) ≡ []
unfolding brought
none_brought l is = grind (arith, common_steps)

-- the line of a text with this number
abbrev text_line : ℕ → SourceLine → TextLine
text_line n l = record { file = 0; line = n; levels = 8; bytes = line_text l }

-- the lines of a text, of which the first has this number
abbrev numbered : ℕ → List SourceLine → List TextLine
numbered n [] = []
numbered n (l ∷ ls) = text_line n l ∷ numbered (n + 1) ls

-- the text of lines is cut into them, brings in no others, and says what is meant
lines_are : (n : ℕ) (ls : List SourceLine) → AllByRecursion IsSound ls
    → (lines (text_of_lines ls) ≡ map line_text ls)
    × (lines_with (brought [] 8) 8 0 n (map line_text ls) ≡ numbered n ls)
    × (length (numbered n ls) ≡ length ls)
    × (said_in (numbered n ls) ≡ read_from n ls)
lines_are n [] is = (refl, refl, refl, refl)
lines_are n (l ∷ ls) is =
    let more = lines_are (n + 1) ls is.1 in (
      grind (arith, common_steps, first_line (line_text l) (text_of_lines ls) (line_short l is.0).allowed),
      grind (arith, common_steps, none_brought l is.0),
      ap suc more.2,
      grind (arith, common_steps, line_said l is.0),
    )

all_lines : (source : SourceFile) (ls : List SourceLine) → AllByRecursion IsSound ls → length ls ≤ 65535
    → source.bytes ≡ text_of_lines ls → text_lines source [] ≡ numbered 1 ls
unfolding text_lines
all_lines source ls is few bytes =
    let all = lines_are 1 ls is in grind (arith, common_steps, take_all 65536 (numbered 1 ls))

-- ---- no line has a fault

-- END comes last, and nowhere else
abbrev EndsOnce : List SourceLine → Type 0
EndsOnce [] = ⊥
EndsOnce (l ∷ []) = l ≡ line.End
EndsOnce (l ∷ m ∷ ls) = (is_end_body (meant l).body ≡ false) × EndsOnce (m ∷ ls)

ends_said : (n : ℕ) (l : SourceLine) → IsSound l
    → ends_source (text_line n l) ≡ is_end_body (meant l).body
ends_said n l is = grind (arith, common_steps, line_said l is)

has_end : (n : ℕ) (ls : List SourceLine) → AllByRecursion IsSound ls → EndsOnce ls
    → list_any ends_source (numbered n ls) ≡ true
has_end n [] is e = absurd e
has_end n (l ∷ []) is e = grind (arith, common_steps, ends_said n l is.0)
has_end n (l ∷ m ∷ ls) is e = grind (arith, common_steps, has_end (n + 1) (m ∷ ls) is.1 e.1)

-- a line without an END above it, before line 65,536
no_fault : (above : List TextLine) (n : ℕ) (l : SourceLine) → IsSound l → list_any ends_source above ≡ false
    → length above < 65535
    → fault_on_line [] above (text_line n l) false ≡ None
no_fault above n l is none few = grind (arith, common_steps, line_said l is)

no_faults : (above : List TextLine) (n : ℕ) (ls : List SourceLine) → AllByRecursion IsSound ls → EndsOnce ls
    → list_any ends_source above ≡ false → length above + length ls ≤ 65535
    → faults_from [] false above (numbered n ls) ≡ []
no_faults above n [] is e none few = absurd e
no_faults above n (l ∷ []) is e none few =
    grind (arith, common_steps, no_fault above n l is.0 none)
no_faults above n (l ∷ m ∷ ls) is e none few =
    let one = text_line n l ∷ [] in
    let more = no_faults (above ++ text_line n l ∷ []) (n + 1) (m ∷ ls) is.1 e.1 in
    let first = no_fault above n l is.0 none in
    grind (arith, common_steps, ends_said n l is.0, length-append above one, list_any-append ends_source above one)

-- the text of lines is read as these lines
text_read : (source : SourceFile) (ls : List SourceLine) → AllByRecursion IsSound ls → EndsOnce ls
    → length ls ≤ 65535 → source.bytes ≡ text_of_lines ls
    → text_of source [] ≡ Lines (read_from 1 ls)
text_read source ls is e few bytes =
    let faults = no_faults [] 1 ls is e refl (omega arith) in
    grind (arith, common_steps, all_lines source ls is few bytes, has_end 1 ls is e, (lines_are 1 ls is).3)

-- ---- END comes last

one_more : (l : SourceLine) (more : List SourceLine) → is_end_body (meant l).body ≡ false → EndsOnce more
    → EndsOnce (l ∷ more)
one_more l [] h e = absurd e
one_more l (m ∷ more) h e = (h, e)

statements_end : (image : List ℕ) (part : CodeRange) (parts : List CodeRange) (statements : List Statement)
    → EndsOnce (rest_of image parts) → EndsOnce (lines_in image part parts statements)
statements_end image part parts [] e = e
statements_end image part parts (s ∷ statements) e =
    one_more _ (lines_in image part parts statements) (grind (arith, common_steps))
    (statements_end image part parts statements e)

parts_end : (image : List ℕ) (parts : List CodeRange) → EndsOnce (rest_of image parts)
parts_end image [] = refl
parts_end image (part ∷ parts) =
    one_more _ (lines_in image part parts (statements_of image part)) refl
    (statements_end image part parts _ (parts_end image parts))

-- ---- a text that is given is that of its lines, of which there are not too many

-- a text, or a limit
abbrev text_or_limit : List ℕ → Result (List ℕ) Quantity
text_or_limit text = Ok text

answered : (m n : ℕ) (x text : List ℕ)
    → cond (nat_lt 254 m) (Err quantity.Parts) (cond (nat_lt 65535 n) (Err quantity.Lines) (Ok x)) ≡ text_or_limit text
    → (m ≤ 254) × (n ≤ 65535) × (text ≡ x)
answered m n x text h = grind (arith, common_steps)

pub given : (l : LayoutParts) (image text : List ℕ) → disassembled l image ≡ Ok text
    → let lines = lines_of image (code_ranges l) in
    (length (code_ranges l) ≤ 254) × (length lines ≤ 65535) × (text ≡ text_of_lines lines)
unfolding disassembled text_by text_within
given l image text h = answered _ _ _ text h

-- each text that is given is read as the lines that are meant
pub disassembly_read : (l : LayoutParts) (image text : List ℕ) (source : SourceFile) → layout.IsSound l → AreBytes image
    → disassembled l image ≡ Ok text → source.bytes ≡ text
    → text_of source [] ≡ Lines (read_from 1 (lines_of image (code_ranges l)))
disassembly_read l image text source sound bytes answer is =
    let g = given l image text answer in
    let parts : List CodeRange = code_ranges l in
    of_whole image parts
    (λ ls. length ls ≤ 65535 → source.bytes ≡ text_of_lines ls → text_of source [] ≡ Lines (read_from 1 ls))
    (text_read source (whole image parts)
    (are_sound 0 (whole image parts) (whole_good image bytes parts (parts_in_order l sound)))
    (one_more line.Nomod51 (rest_of image parts) refl (parts_end image parts))) g.1 (is ∙ g.2)
