-- What a disassembly gives, under each assignment that fits: where its statements and labels are, its bytes, that no
-- line has a fault, and the module of its parts, with nothing else in it.
use Rattle.m51_disasm_proof.proofs
use proofs.Common.{AllByRecursion, AreBytes, Assignment, CodeRange, Fits, GivesBytes, HaveSizes, IsNamed, IsSoundLayout}
use proofs.Common.{IsSpot, LayoutParts, LineGives, LineTree, List, None, Ok, Option, Some, SourceFile, SourceLine, Spot}
use proofs.Common.{Stands, StandsAt, Statement, Target, TextSegment, [], above, ap, append-nil, append_assoc, arith}
use proofs.Common.{beginnings, body_at, body_of, bytes_at, code_ranges, code_value, common_steps, cond, disassembled}
use proofs.Common.{false, filled, flat_map, is_among, label_text, length, length_in, lines_of, map, meant, opening}
use proofs.Common.{option_map, outcomes, read_from, refl, runs_from, slice_get, slice_index, spots_from}
use proofs.Common.{statement_target, statements_of, subst, suc, sym, targets, true, written_target, zero, ℕ, ◌++◌, ◌+◌}
use proofs.Common.{◌-◌, ◌<◌, ◌||◌, ◌∙◌, ◌∷◌, ◌≡◌, ◌≢◌, ◌≤◌}
use Rattle.m51_asm.proofs.AnAssignment.{fits, fitting}
use Rattle.m51_asm.proofs.AnsweredLines.{content_answer}
use Rattle.m51_asm.proofs.KnownSegments.{known as segment_known}
use Rattle.m51_asm.specs.Answer.{AnswerTree, Gives, IsAnswer, answer_of_lines}
use Rattle.m51_asm.specs.AnswerRows.{rows}
use Rattle.m51_asm.specs.Assignment.{here_at}
use Rattle.m51_asm.specs.ContentFaults.{content_fault, faults_from, line_outcomes, made_before}
use Rattle.m51_asm.specs.Naming.{module_name}
use Rattle.m51_asm.specs.ObjectSegments.{Kept, absolute_of, final, index_in, kept, kept_before, number_in}
use Rattle.m51_asm.specs.ObjectSegments.{object_segments, segment_number}
use Rattle.m51_asm.specs.Parts.{banks, externals, is_selected, name_in, parts as module_parts, publics_before}
use Rattle.m51_asm.specs.Parts.{publics_by, selects_by, version_of}
use Rattle.m51_asm.specs.Pieces.{content_at, fixups_from, pieces, segment_pieces}
use Rattle.m51_disasm_proof.specs.Module.{GivesModule, module_of, pieces_from, range_segment}
use Rattle.m51_disasm_proof.specs.Places.{lines_before}
use Rattle.m51_disasm_proof.specs.Standing.{AreFaultless}
use Rattle.m51_emit.specs.Outcomes.{leftmost_fault}
use Rattle.m51_emit.specs.Pieces.{if_bytes}
use Rattle.m51_encode.specs.declared.outcome.OperandOutcome.{OperandOutcome}
use Rattle.std.proofs.lemmas.List.FromFn.{length-map-range_with_len}
use Rattle.m51_disasm.specs.declared.line.SourceLine.TheVariants as line
use proofs.LinesStand.{AreInOrder, IsCode, LinesFrom, State, adds, at_start, body_is, body_read, is_open, next}
use proofs.LinesStand.{other_segment, parts_in_order, parts_small, passes, read_at, read_is, skips, spot_here}
use proofs.LinesStand.{spots_are, state}
use proofs.SoundLines.{lines_in, of_whole, rest_of, whole, whole_good}
use proofs.StatementsBack.{statement_gives}
use proofs.TextRead.{GiveFrom, PartThere, StatementsFrom, disassembly_read, from_end, given, in_part, kept_next}
use proofs.TextRead.{kept_same, next_statement, part_segment, parts_passed, statement_there, statements_passed}
use proofs.TextRead.{whole_free}

-- the segments of parts, of which the first begins at line k
abbrev pub kept_parts : List ℕ → ℕ → List CodeRange → List Kept
kept_parts image k [] = []
kept_parts image k (part ∷ parts) =
    absolute_of (part_segment k part) part.size ∷ kept_parts image (suc k + length (statements_of image part)) parts

-- no line from line k on gives to a segment
record IsClosed (lines : List LineTree) (a : Assignment) (k : ℕ) (ls : List SourceLine) (id given : ℕ) : Type 0 where
  filled : filled lines a id (length lines) ≡ given
  runs : runs_from lines a id k (read_at k ls) ≡ []

-- a segment that is not open gets nothing more
closed : {lines : List LineTree} {a : Assignment} (ls : List SourceLine) {k : ℕ} {s : State} → LinesFrom lines a k s ls
    → (id : ℕ) → id < k + 2 → s.segment.id ≢ id → IsClosed lines a k ls id (filled lines a id k)
closed [] h id low ne = record { filled = grind (arith, common_steps); runs = refl }
closed (l ∷ ls) {k} {s} h id low ne =
    let c = closed ls (next h) id (omega arith) (other_segment k id s.segment l low ne) in
    grind (arith, common_steps, passes h id ne, skips h id ne)

-- a line that gives nothing
abbrev IsBare : SourceLine → Type 0
IsBare (line.Statement s) = ⊥
IsBare l = Unit {0}

bare_line : (lines : List LineTree) (a : Assignment) (image : List ℕ) (k address : ℕ) (l : SourceLine) → IsBare l
    → body_at lines k ≡ (meant l).body → LineGives lines a image k address 0
unfolding content_at line_outcomes
bare_line lines a image k address l bare is = grind (arith, common_steps)

module _ {lines : List LineTree} {a : Assignment} {k : ℕ} {s : State} {l : SourceLine} {ls : List SourceLine}
    (image : List ℕ) (h : LinesFrom lines a k s (l ∷ ls)) (bare : IsBare l) where
  bare_gives : LineGives lines a image k (s.segment.base + s.given) 0
  bare_gives = bare_line lines a image k (s.segment.base + s.given) l bare (body_is h)

  bare_runs : (id : ℕ)
      → runs_from lines a id k (read_at k (l ∷ ls)) ≡ runs_from lines a id (suc k) (read_at (suc k) ls)
  bare_runs id = grind (arith, common_steps, bare_gives)

-- nor does the one that is open where a part begins or END comes
ends : {lines : List LineTree} {a : Assignment} {k : ℕ} {s : State} (image : List ℕ) (parts : List CodeRange)
    → LinesFrom lines a k s (rest_of image parts) → IsClosed lines a k (rest_of image parts) s.segment.id s.given
ends {s = s} image [] h = grind (arith, common_steps, adds h, bare_runs image h tt s.segment.id)
ends {s = s} image (part ∷ parts) h =
    let c = closed (lines_in image part parts (statements_of image part)) (next h) s.segment.id
    (omega arith) (λ e. omega arith) in
    grind (arith, common_steps, adds h, bare_runs image h tt s.segment.id)

-- the segments of parts come after those of the lines before
parts_kept : {lines : List LineTree} {a : Assignment} (image : List ℕ) (parts : List CodeRange) {k : ℕ} {s : State}
    (low : ℕ) → AreInOrder low parts → LinesFrom lines a k s (rest_of image parts)
    → kept_before lines a (length lines) ≡ kept_before lines a k ++ kept_parts image k parts
parts_kept image [] low order h = grind (arith, common_steps, kept_same h refl, append-nil)
parts_kept image (part ∷ parts) {k = k} low order h =
    let p = statements_passed _ (in_part h) in
    let e = ends image parts p.from in
    let some = order.1.some in
    grind (arith, common_steps, parts_kept image parts _ order.2 p.from, kept_next h, append_assoc)

-- ---- bytes one after another

bytes_joined : (image : List ℕ) (at m n : ℕ)
    → bytes_at image at m ++ bytes_at image (at + m) n ≡ bytes_at image at (m + n)
bytes_joined image at zero n = grind (arith, common_steps)
bytes_joined image at (suc m) n =
    let next : at + suc m ≡ at + 1 + m = omega arith in
    let count : suc m + n ≡ suc (m + n) = omega arith in
    rw (next, count) (ap (λ l. slice_index image at ∷ l) (bytes_joined image (at + 1) m n))

-- bytes that follow others are in one run with them
runs_joined : (at : ℕ) (xs ys : List ℕ) → if_bytes at xs (if_bytes (at + length xs) ys []) ≡ if_bytes at (xs ++ ys) []
runs_joined at xs ys = grind (arith, common_steps, append-nil)

-- ---- the run of a part

-- statements are one run, if nothing follows them
statements_run : {lines : List LineTree} {a : Assignment} {image : List ℕ} {part : CodeRange} {parts : List CodeRange}
    (statements : List Statement) {n at k : ℕ} {s : State}
    → StatementsFrom lines a image part parts n at k s statements
    → GiveFrom lines a image k s.segment s.given (lines_in image part parts statements)
    → runs_from lines a s.segment.id n (read_at n (rest_of image parts)) ≡ []
    → runs_from lines a s.segment.id k (read_at k (lines_in image part parts statements))
    ≡ if_bytes s.given (bytes_at image at (part.base + part.size - at)) []
statements_run [] h gives none = grind (arith, common_steps)
statements_run {image = image} {part = part} (x ∷ statements) {at = at} {s = s} h gives none =
    let len = length_in x.content in
    let end = part.base + part.size in
    let below = h.follow.0.ends in
    let size : len + (end - (at + len)) ≡ end - at = omega arith in
    let later = statements_run statements (next_statement h) gives.1 none in
    let is_here = is_open h.from in
    let run = runs_joined s.given (bytes_at image at len) (bytes_at image (at + len) (end - (at + len))) in
    let bytes = bytes_joined image at len (end - (at + len)) in
    let count = length-map-range_with_len (slice_index image) at len in
    grind (arith, common_steps)

-- ---- the number of a segment

abbrev ids : List Kept → List ℕ
ids xs = map (λ s. s.id) xs

-- in a list of segments those of an id from the first on are where they are in a later list, after m others
abbrev AreNext : List Kept → ℕ → ℕ → List Kept → Type 0
AreNext all first m ks = (id : ℕ) → first ≤ id → index_in (ids all) id ≡ option_map (λ n. m + n) (index_in (ids ks) id)

one_later : (m : ℕ) (o : Option ℕ)
    → option_map (λ n. m + n) (option_map (λ n. suc n) o) ≡ option_map (λ n. suc m + n) o
one_later m o = grind (arith, common_steps)

next_ids : (all : List Kept) (first later m : ℕ) (y : Kept) (ks : List Kept) → AreNext all first m (y ∷ ks)
    → first ≤ later → y.id < later → AreNext all later (suc m) ks
next_ids all first later m y ks h le less id above =
    grind (arith, common_steps, h id, one_later m (index_in (ids ks) id))

-- ---- the pieces of parts, before whose segments there are others

parts_pieces : {lines : List LineTree} {a : Assignment} (image : List ℕ) (parts : List CodeRange) {k : ℕ} {s : State}
    (m low : ℕ) → AreInOrder low parts → LinesFrom lines a k s (rest_of image parts)
    → GiveFrom lines a image k s.segment s.given (rest_of image parts)
    → AreNext (kept lines a) (k + 2) m (kept_parts image k parts)
    → flat_map (segment_pieces lines a) (kept_parts image k parts) ≡ pieces_from (suc m) image parts
unfolding number_in
parts_pieces image [] m low order h gives all = refl
parts_pieces {lines} {a} image (part ∷ parts) {k} m low order h gives all =
    let later : ℕ = suc k + length (statements_of image part) in
    let y : Kept = absolute_of (part_segment k part) part.size in
    let p = statements_passed _ (in_part h) in
    let number : segment_number lines a y.id ≡ suc m = grind (arith, common_steps, all (k + 2)) in
    let rest = parts_pieces image parts (suc m) _ order.2 p.from (p.give gives.1)
    (next_ids (kept lines a) (k + 2) (later + 2) m y (kept_parts image later parts) all (omega arith) (omega arith)) in
    let some = order.1.some in
    let run = statements_run _ (in_part h) gives.1 (ends image parts p.from).runs in
    grind (arith, common_steps, append-nil, bare_runs image h tt (k + 2), h.fresh (k + 2))

-- ---- labels, and the bytes of each line

-- an address, as a value
place_value : (a : Assignment) (k address : ℕ) (segment : TextSegment) → address < 65536 → IsCode segment
    → IsSpot a k (record { segment = segment; address = address }) → here_at a k ≡ code_value segment.id address
place_value a k address segment small code spot = grind (arith, common_steps)

-- statements that others lead to are labels, with the values of their addresses
pub label_known : {lines : List LineTree} {a : Assignment} {image : List ℕ} {part : CodeRange} {parts : List CodeRange}
    (statements : List Statement) {n at k : ℕ} {s : State}
    → StatementsFrom lines a image part parts n at k s statements
    → part.base + part.size ≤ 65536 → (address : ℕ) → is_among (beginnings statements) address ≡ true
    → is_among (targets (statements_of image part)) address ≡ true
    → (j : ℕ) → a.value j (label_text address) ≡ Some (code_value s.segment.id address)
label_known [] h inside address there target j = absurd (cc there)
label_known {a = a} (x ∷ statements) {k = k} {s = s} h inside address there target j =
    let more = label_known statements (next_statement h) inside address in
    grind (arith, common_steps, place_value a k address s.segment, spot_here h.from)

-- a statement begins at its address
pub begins_there : (statements : List Statement) (j : ℕ) (s : Statement) → slice_get statements j ≡ Some s
    → is_among (beginnings statements) s.at ≡ true
begins_there [] j s e = absurd (cc e)
begins_there (x ∷ statements) zero s e = grind (arith, common_steps)
begins_there (x ∷ statements) (suc j) s e = grind (arith, common_steps, begins_there statements j s e)

-- ---- where statements lead

-- where statements of the part begin
abbrev begin_of : List ℕ → CodeRange → List ℕ
begin_of image part = beginnings (statements_of image part)

-- one of them leads to the address
abbrev IsLedTo : List ℕ → CodeRange → ℕ → Type 0
IsLedTo image part address = is_among (targets (statements_of image part)) address ≡ true

-- ---- statements

module _ (lines : List LineTree) (a : Assignment) (image : List ℕ) (bytes : AreBytes image)
    (part : CodeRange) (inside : part.base + part.size ≤ 65536) (id : ℕ)
    (known : (address : ℕ) → is_among (begin_of image part) address ≡ true → IsLedTo image part address
    → (j : ℕ) → a.value j (label_text address) ≡ Some (code_value id address)) where
  named : (k : ℕ) (o : Option ℕ) → ((address : ℕ) → o ≡ Some address → IsLedTo image part address)
      → IsNamed (final lines a k) id (written_target (begin_of image part) o)
  unfolding final
  named k None lead = tt
  named k (Some address) lead =
      let value = λ (yes : is_among (begin_of image part) address ≡ true). known address yes (lead address refl) k in
      grind (arith, common_steps, value)

  -- statements give their bytes, if what follows them does
  statements_give : (statements : List Statement) {parts : List CodeRange} {n at k : ℕ} {s : State}
      → StatementsFrom lines a image part parts n at k s statements
      → ((address : ℕ) → is_among (targets statements) address ≡ true → IsLedTo image part address)
      → s.segment.id ≡ id
      → GiveFrom lines a image n s.segment part.size (rest_of image parts)
      → GiveFrom lines a image k s.segment s.given (lines_in image part parts statements)
  unfolding content_at line_outcomes final
  statements_give [] {parts} {s = s} h lead same more =
      from_end (λ m given. GiveFrom lines a image m s.segment given (rest_of image parts)) h more
  statements_give (x ∷ statements) {at = at} {k} {s} h lead same more =
      let begin = begin_of image part in
      let names = final lines a k in
      let t : Target = written_target begin (statement_target x) in
      let stands : StandsAt names id at =
      grind (arith, common_steps, place_value a k at s.segment, segment_known lines a h.from.fits k) in
      let named_here = named k (statement_target x) (λ address e. lead address (grind (arith, common_steps))) in
      let gives : GivesBytes names (a.form k) (body_of t x.content) (bytes_at image at (length_in x.content)) =
      rw h.follow.0.is (statement_gives image (part.base + part.size) at bytes begin names id (a.form k) stands
      (rw h.follow.0.is at named_here)) in (
        grind (arith, common_steps, body_is h.from, h.place),
        statements_give statements (next_statement h) (λ address e. lead address (grind (arith, common_steps))) same
            more,
      )

parts_give : {lines : List LineTree} {a : Assignment} (image : List ℕ) → AreBytes image
    → (parts : List CodeRange) {k : ℕ} {s : State} (low : ℕ) → AreInOrder low parts
    → LinesFrom lines a k s (rest_of image parts) → GiveFrom lines a image k s.segment s.given (rest_of image parts)
parts_give image bytes [] low order h = (bare_gives image h tt, tt)
parts_give {lines} {a} image bytes (part ∷ parts) {k} low order h = (
  bare_gives image h tt,
  statements_give lines a image bytes part order.1.ends (k + 2)
      (label_known _ (in_part h) order.1.ends) _ (in_part h) (λ address e. e) refl
      (parts_give image bytes parts _ order.2 (statements_passed _ (in_part h)).from),
)

-- all lines
module _ {lines : List LineTree} {a : Assignment} (image : List ℕ) (parts : List CodeRange) (order : AreInOrder 0 parts)
    (h : LinesFrom lines a 0 (state opening 0 0) (whole image parts)) where
  -- the segments of a disassembly are those of its parts
  kept_are : kept lines a ≡ kept_parts image 1 parts
  unfolding kept kept_before
  kept_are =
      let e = ends image parts (next h) in
      grind (arith, common_steps, parts_kept image parts 0 order (next h), kept_same h refl)

  whole_gives : AreBytes image → GiveFrom lines a image 0 opening 0 (whole image parts)
  whole_gives bytes = (bare_gives image h tt, parts_give image bytes parts 0 order (next h))

  pieces_are : GiveFrom lines a image 0 opening 0 (whole image parts) → pieces lines a ≡ pieces_from 1 image parts
  pieces_are gives =
      let all = kept_are in
      let parted = parts_pieces image parts 0 0 order (next h) gives.1 (λ id le. grind (arith, common_steps)) in
      grind (arith, common_steps)

-- ---- no faults of content, and no fixups

stand_well : (outcomes : List OperandOutcome) (made : ℕ) → AllByRecursion (λ outcome. outcome ≡ Stands) outcomes
    → leftmost_fault made outcomes ≡ None
stand_well [] made h = refl
stand_well (x ∷ outcomes) made h = grind (arith, common_steps, stand_well outcomes made h.1)

module _ (lines : List LineTree) (a : Assignment) (image : List ℕ) where
  no_fixups_or_faults : (k : ℕ) (s : TextSegment) (given : ℕ) (ls : List SourceLine)
      → GiveFrom lines a image k s given ls
      → (faults_from (content_fault lines a) k (read_at k ls) ≡ [])
      × ((kept : Kept) → fixups_from lines a kept k (read_at k ls) ≡ [])
  unfolding content_fault
  no_fixups_or_faults k s given [] gives = (refl, λ kept. refl)
  no_fixups_or_faults k s given (l ∷ ls) gives =
      let here = stand_well (line_outcomes lines a k) (made_before lines a k) gives.0.stand in
      let more = no_fixups_or_faults (suc k) _ _ ls gives.1 in
      (grind (arith, common_steps), λ kept. grind (arith, common_steps, more.1 kept))

  no_fixups : (xs : List Kept) (ls : List SourceLine) → GiveFrom lines a image 0 opening 0 ls
      → flat_map (λ kept. fixups_from lines a kept 0 (read_at 0 ls)) xs ≡ []
  no_fixups [] ls gives = refl
  no_fixups (x ∷ xs) ls gives =
      grind (arith, common_steps, (no_fixups_or_faults 0 opening 0 ls gives).1 x, no_fixups xs ls gives)

-- ---- no publics, externals, banks and names

module _ (a : Assignment) (ls : List SourceLine) where
  abbrev read : List LineTree
  read = read_at 0 ls

  -- before a line none is public, and no bank is selected
  nothing_before : (k : ℕ) → (publics_before read a k ≡ []) × ((bank : ℕ) → is_selected read a bank k ≡ false)
  unfolding publics_before is_selected
  nothing_before zero = (refl, λ bank. refl)
  nothing_before (suc k) =
      let names = above read a k in
      let here = body_read (λ b. (publics_by read a k b ≡ []) × ((bank : ℕ) → selects_by names bank b ≡ false))
      (refl, λ bank. refl) (λ l. (grind (arith, common_steps), λ bank. grind (arith, common_steps))) 0 ls k in
      let more = nothing_before k in
      (grind (arith, common_steps), λ bank i. more.1 bank i || here.1 bank i)

  no_banks : banks read a ≡ 1
  no_banks =
      let none = (nothing_before (length read)).1 in
      (λ i. 1 + cond (none 1 i) 2 0 + cond (none 2 i) 4 0 + cond (none 3 i) 8 0)

-- no line has externals or names the module
nothing_in : (other : List ℕ) (k : ℕ) (ls : List SourceLine)
    → (externals (read_at k ls) ≡ []) × (name_in other (read_at k ls) ≡ other)
nothing_in other k [] = (refl, refl)
nothing_in other k (l ∷ ls) =
    grind (arith, common_steps, nothing_in other (suc k) ls)

-- ---- the segments

segments_are : (image : List ℕ) (k : ℕ) (parts : List CodeRange)
    → map (λ s. s.segment) (kept_parts image k parts) ≡ map range_segment parts
segments_are image k [] = refl
segments_are image k (part ∷ parts) =
    grind (arith, common_steps, segments_are image (suc k + length (statements_of image part)) parts)

first_version : (parts : List CodeRange) → version_of (map range_segment parts) ≡ 1
first_version [] = refl
first_version (part ∷ parts) = first_version parts

-- the text of all lines is that of a disassembly
text_is : (image : List ℕ) (parts : List CodeRange)
    → read_at 0 (whole image parts) ≡ read_from 1 (lines_of image parts)
text_is image parts =
    of_whole image parts (λ ls. read_at 0 (whole image parts) ≡ read_from 1 ls)
    (sym (read_is 0 1 (whole image parts) refl))

module _ (l : LayoutParts) (image text : List ℕ) (sound : IsSoundLayout l) (bytes : AreBytes image)
    (answer : disassembled l image ≡ Ok text) (a : Assignment)
    (f : Fits (read_from 1 (lines_of image (code_ranges l))) a) where
  abbrev parts : List CodeRange
  parts = code_ranges l

  order : AreInOrder 0 parts
  order = parts_in_order l sound

  abbrev lines : List LineTree
  lines = read_at 0 (whole image parts)

  all : LinesFrom lines a 0 (state opening 0 0) (whole image parts)
  all = at_start (whole image parts) a (rw (text_is image parts) f) (whole_good image bytes parts order)

  gives : GiveFrom lines a image 0 opening 0 (whole image parts)
  gives = whole_gives image parts order all bytes

  pub spot_is : (k : ℕ) (spot : Spot) → slice_get (spots_from 0 opening 0 (lines_of image parts)) k ≡ Some spot
      → IsSpot a k spot
  spot_is k spot =
      of_whole image parts (λ ls. slice_get (spots_from 0 opening 0 ls) k ≡ Some spot → IsSpot a k spot)
      (λ e. spots_are (whole image parts) 0 k all refl k spot e (omega arith))

  -- a statement of a part
  module _ (before : List CodeRange) (part : CodeRange) (after : List CodeRange) (is : parts ≡ before ++ part ∷ after)
      (j : ℕ) (s : Statement) (e : slice_get (statements_of image part) j ≡ Some s) where
    there : PartThere lines a image (lines_before image before) (part ∷ after)
    there =
        parts_passed image before (part ∷ after) 1 (lines_before image before)
        (subst (PartThere lines a image 1) is
        (record { least = 0; order = order; start = _; from = next all; give = gives.1 }))
        (omega arith)

    statement_is : let k = lines_before image before in
        IsSpot a (k + suc j) (record { segment = part_segment k part; address = s.at })
        × LineGives lines a image (k + suc j) s.at (length_in s.content)
    statement_is = statement_there _ _ (in_part there.from) there.give.1 j s e (omega arith)

    pub statement_spot : IsSpot a (lines_before image before + suc j)
        (record { segment = part_segment (lines_before image before) part; address = s.at })
    statement_spot = statement_is.0

    pub statement_gives_bytes : LineGives (read_from 1 (lines_of image parts)) a image
        (lines_before image before + suc j) s.at (length_in s.content)
    statement_gives_bytes = rw (text_is image parts) at statement_is.1

    pub label_is : is_among (targets (statements_of image part)) s.at ≡ true → (k : ℕ)
        → a.value k (label_text s.at) ≡ Some (code_value (lines_before image before + 2) s.at)
    label_is led k =
        label_known _ (in_part there.from) there.order.1.ends s.at (begins_there (statements_of image part) j s e) led k

  -- no line has a fault
  own_faultless : HaveSizes l → AreFaultless lines a
  own_faultless sizes = record {
    placed = whole_free image parts order (parts_small l sound sizes) (given l image text answer).0 all;
    content = (no_fixups_or_faults lines a image 0 opening 0 (whole image parts) gives).0;
  }

  pub faultless : HaveSizes l → AreFaultless (read_from 1 (lines_of image parts)) a
  faultless sizes = rw (text_is image parts) at (own_faultless sizes)

  segments : object_segments lines a ≡ map range_segment parts
  segments = grind (arith, common_steps, kept_are image parts order all, segments_are image 1 parts)

  module_is : (file : List ℕ) → module_parts file lines a ≡ module_of file image parts
  unfolding module_parts
  module_is file = (λ i. record {
    name = (nothing_in (module_name file) 0 (whole image parts)).1 i;
    version = ((ap version_of segments ∙ first_version parts) i);
    segments = segments i;
    publics = (nothing_before a (whole image parts) (length lines)).0 i;
    externals = (nothing_in [] 0 (whole image parts)).0 i;
    pieces = pieces_are image parts order all gives i;
    fixups = no_fixups lines a image (kept lines a) (whole image parts) gives i;
    banks = no_banks a (whole image parts) i;
  })

  -- the lines give the module of the parts
  answer_is : (file : List ℕ) → HaveSizes l → answer_of_lines file (read_from 1 (lines_of image parts)) a
      ≡ Gives (module_of file image parts) (rows (read_from 1 (lines_of image parts)) a)
  answer_is file sizes =
      let none = own_faultless sizes in
      rw (← text_is image parts) (grind (arith, common_steps, content_answer file lines a none.placed, module_is file))

-- the answer is the module of the parts
pub image_back : (l : LayoutParts) (image text : List ℕ) (source : SourceFile) (answer : AnswerTree) → IsSoundLayout l
    → HaveSizes l → AreBytes image → disassembled l image ≡ Ok text
    → source.bytes ≡ text → IsAnswer source [] answer → GivesModule (module_of source.name image (code_ranges l)) answer
image_back l image text source answer sound sizes bytes is source_is answers =
    let lines : List LineTree = read_from 1 (lines_of image (code_ranges l)) in
    let of_lines = rw (disassembly_read l image text source sound bytes is source_is) at answers in
    rw (of_lines (fitting lines) (fits lines)
    ∙ answer_is l image text sound bytes is (fitting lines) (fits lines) source.name sizes)
