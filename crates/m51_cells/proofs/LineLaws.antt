-- The first line of a text, and those after it.
use Rattle.std.proofs.Common.{◌≡◌, ℕ, suc, ◌+◌, ◌-◌, ◌<◌, ◌≤◌, Bool, cond, List, [], ◌∷◌, ◌++◌, length, take, drop}
use Rattle.std.proofs.Common.{refl, ap, sym, ◌∙◌, arith}
use Rattle.std.specs.List.{slice_split, position_or_len, before_first, after_first}
use Rattle.std.specs.Str.Lines.{lines, lines_of_parts, strip_carriage_return}
use Rattle.std.proofs.lemmas.Bool.{ne_eqb}
use Rattle.std.proofs.lemmas.List.{take_rest, append-nil}
use Rattle.std.proofs.lemmas.List.Splits.{slice_split_none, slice_split_first, length-slice_split}
use Rattle.std.proofs.lemmas.List.Sums.{fails_before_first}
use Rattle.m51_cells.specs.Lines.{is_line_feed}

-- a part before another is a line, without the carriage return at its end
pub ended : (part : List ℕ) (parts : List (List ℕ)) → 0 < length parts → lines_of_parts (part ∷ parts)
    ≡ strip_carriage_return part ∷ lines_of_parts parts
ended part [] some = absurd (omega (arith, some))
ended part (next ∷ parts) some = refl

-- a last part is a line where it has a byte
pub lone : (text : List ℕ) → 0 < length text → lines_of_parts (text ∷ []) ≡ text ∷ []
lone [] some = absurd (omega (arith, some))
lone (first ∷ text) some =
    ap (λ (b : Bool). cond b [] ((first ∷ text) ∷ [])) (ne_eqb (suc (length text)) 0 (λ e. omega (arith, e)))

-- a line that a line feed ends
ended_line : (text : List ℕ) → position_or_len is_line_feed text < length text
    → lines text ≡ strip_carriage_return (before_first is_line_feed text) ∷ lines (after_first is_line_feed text)
ended_line text found =
    let after = after_first is_line_feed text in
    ap lines_of_parts (slice_split_first is_line_feed text 0 found)
    ∙ ended (before_first is_line_feed text) (slice_split is_line_feed after)
    (omega (arith, length-slice_split is_line_feed after))

-- a last line that no line feed ends
pub last_line : (text : List ℕ) → 0 < length text → length text ≤ position_or_len is_line_feed text → lines text
    ≡ text ∷ []
last_line text some none =
    ap lines_of_parts
    (slice_split_none is_line_feed text
    (λ index d below. fails_before_first is_line_feed text index d (omega arith)))
    ∙ lone text some

-- the same where the line and the rest of the text are cut off by their positions
pub cut_line : (text line : List ℕ) (count : ℕ) → count ≡ position_or_len is_line_feed text → count < length text → line
    ≡ strip_carriage_return (take count text)
    → lines text ≡ line ∷ lines (take (length text - (count + 1)) (drop (count + 1) text))
cut_line text line count is found cut =
    ended_line text (omega arith)
    ∙ ap (λ (n : ℕ). strip_carriage_return (take n text) ∷ lines (drop (n + 1) text)) (sym is)
    ∙ ap (λ (l : List ℕ). l ∷ lines (drop (count + 1) text)) (sym cut)
    ∙ ap (λ (rest : List ℕ). line ∷ lines rest) (sym (take_rest text (count + 1)))

-- where no text is left, the lines found are all of them
pub no_more : (found : List (List ℕ)) (rest text : List ℕ) → rest ≡ [] → found ++ lines rest ≡ lines text → found
    ≡ lines text
no_more found rest text none all = sym (append-nil found) ∙ ap (λ (r : List ℕ). found ++ lines r) (sym none) ∙ all
