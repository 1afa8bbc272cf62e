-- What was read of a text, line by line, gives what the text gives.
use Rattle.std.proofs.Common.{◌≡◌, ℕ, zero, suc, ◌+◌, ◌<◌, Bool, true, false, ◌||◌, ◌&&◌, ◌==◌, not, List, [], ◌∷◌}
use Rattle.std.proofs.Common.{length, get_or, drop, map, refl, sym, ap, ◌∙◌, arith, add-one, ◌++◌, append_assoc}
use Rattle.std.proofs.Common.{length-append, vec_len, ◌-◌, slice_get, Option, Some, None, cond, nat_le, Result, Ok, Err}
use Rattle.std.proofs.Common.{◌≤◌, nat_lt, take}
use Rattle.std.specs.List.{list_any, filter_map, cons_option}
use Rattle.std.proofs.Math.ListN.{set}
use Rattle.std.proofs.Math.Seq.{drop-cons}
use Rattle.std.proofs.lemmas.List.{map-set, get_or-map, get_or_default, drop-map, append-nil, map-append, length-take}
use Rattle.std.proofs.lemmas.List.{drop_all, length-map}
use Rattle.std.proofs.lemmas.Bool.{or_parts, or_left, or_right, cond-true, cond-false}
use Rattle.std.proofs.lemmas.Bool.Decides.{nat_tests}
use Rattle.std.specs.Str.Lines.{lines}
use Rattle.std.specs.Option.{option_map}
use Rattle.std.proofs.lemmas.List.Folds.{list_any-append}
use Rattle.std.proofs.Math.Bool.{or-false}
use Rattle.m51_module.specs.declared.source.SourceFile.{SourceFile}
use Rattle.m51_stmt.specs.Statement.{StmtTree}
use Rattle.m51_module.specs.declared.source.Fault.{Fault}
use Rattle.m51_cells.specs.declared.fault.TheConstants.{MISPLACED_END}
use Rattle.m51_text.specs.declared.entry.LineEntry.{LineEntry}
use Rattle.m51_text.specs.Entries.{EntryTree, entry_tree, is_of_source, with_missing_end, marked, faultless}
use Rattle.m51_text.specs.Entries.{entry_of_line, read_entries, line_count, line_of_entry, fault_at, fault_said}
use Rattle.m51_text.specs.Entries.{fault_of_entry, tree_said, tree_of_entry}
use Rattle.m51_text.specs.declared.text.Line.{Line}
use Rattle.m51_text.specs.declared.read_lines.ReadLines.{ReadLines}
use Rattle.m51_text.specs.declared.inclusion.Inclusion.{Inclusion}
use Rattle.m51_text.specs.declared.inclusion.Inclusion.TheVariants.{Nothing, Refused, Given}
use Rattle.m51_text.specs.Said.{said, asked}
use Rattle.m51_text.specs.Text.{inclusion_by, inclusion_of, include_lines, brought, bytes_of_file, file_lines, TextLine}
use Rattle.m51_text.specs.Text.{lines_with, text_lines}
use Rattle.m51_text.specs.Reading.{inserted, State, state_of, next, state_of_lines, fault_above, entry_of, nothing_yet}
use Rattle.m51_text.specs.Reading.{settled, told}
use Rattle.m51_text.specs.declared.reading.TextReading.{TextReading}
use Rattle.m51_text.specs.Faults.{ends_source, fault_with, fault_on_line, before, faults_from, is_last_of_source}
use Rattle.m51_text.specs.Answer.{LineTree, with_statement, statements_of, faults_or_lines, text_answer, text_of}
use Rattle.m51_text.specs.Faults as text

-- Where the missing END is put.

-- where no line is of the source, nothing is marked
marked_none : (entries : List EntryTree) → list_any is_of_source entries ≡ false → marked entries ≡ entries
marked_none [] h = refl
marked_none (e ∷ entries) h =
    let parts = or_parts (is_of_source e) (list_any is_of_source entries) h in
    ap (λ a. with_missing_end (a && not (list_any is_of_source entries)) e ∷ marked entries) parts.0
    ∙ ap (λ l. e ∷ l) (marked_none entries parts.1)

any_at : (entries : List EntryTree) (at : ℕ) (d : EntryTree) → at < length entries
    → is_of_source (get_or entries at d) ≡ true → list_any is_of_source entries ≡ true
any_at [] at d inside h = absurd (omega (arith, inside))
any_at (e ∷ entries) zero d inside h = or_left (is_of_source e) (list_any is_of_source entries) h
any_at (e ∷ entries) (suc at) d inside h =
    or_right (is_of_source e) (list_any is_of_source entries) (any_at entries at d (omega (arith, inside)) h)

and_false : (b : Bool) → (b && false) ≡ false
and_false true = refl
and_false false = refl

-- the last line of the source is marked
marked_at : (entries : List EntryTree) (at : ℕ) (d : EntryTree) → at < length entries
    → is_of_source (get_or entries at d) ≡ true → list_any is_of_source (drop (suc at) entries) ≡ false
    → marked entries ≡ set entries at (with_missing_end true (get_or entries at d))
marked_at [] at d inside h none = absurd (omega (arith, inside))
marked_at (e ∷ entries) zero d inside h none =
    ap (λ a. with_missing_end (a && not (list_any is_of_source entries)) e ∷ marked entries) h
    ∙ ap (λ b. with_missing_end (not b) e ∷ marked entries) none
    ∙ ap (λ l. with_missing_end true e ∷ l) (marked_none entries none)
marked_at (e ∷ entries) (suc at) d inside h none =
    let within : at < length entries = omega (arith, inside) in
    ap (λ b. with_missing_end (is_of_source e && not b) e ∷ marked entries) (any_at entries at d within h)
    ∙ ap (λ m. with_missing_end m e ∷ marked entries) (and_false (is_of_source e))
    ∙ ap (λ l. e ∷ l) (marked_at entries at d within h none)

-- from this place on, no line is of the source
pub record NoneFrom (at : ℕ) (entries : List LineEntry) : Type 0 where
  pub none : list_any is_of_source (map entry_tree (drop at entries)) ≡ false

pub none_behind : (entries : List LineEntry) (at : ℕ) → at ≡ length entries → NoneFrom at entries
none_behind entries at h =
    record { none = ap (λ l. list_any is_of_source (map entry_tree l)) (drop_all at entries (omega (arith, h))) }

not_zero : (n : ℕ) → (n ≡ 0 → ⊥) → (n == 0) ≡ false
not_zero n h = grind (arith, nat_tests, h)

is_zero : (n : ℕ) → n ≡ 0 → (n == 0) ≡ true
is_zero n h = grind (arith, nat_tests, h)

-- no line is of the source from one line earlier on, if that line is not of the source
pub none_more : (entries : List LineEntry) (at next : ℕ) (r : LineEntry) → at < length entries → at + 1 ≡ next
    → r ≡ get_or entries at r → (r.file ≡ 0 → ⊥) → NoneFrom next entries → NoneFrom at entries
none_more entries at next r inside step got other h =
    let here : is_of_source (entry_tree (get_or entries at r)) ≡ false = ap (λ (e : LineEntry). e.file == 0) (sym got)
    ∙ not_zero r.file other in
    record {
      none =
          ap (λ l. list_any is_of_source (map entry_tree l)) (drop-cons entries at r inside)
          ∙ ap (λ b. b || list_any is_of_source (map entry_tree (drop (suc at) entries))) here
          ∙ ap (λ n. list_any is_of_source (map entry_tree (drop n entries))) (sym (add-one at) ∙ step)
          ∙ h.none;
    }

-- the mark at the last line of the source
pub mark_found : (entries before : List LineEntry) (at next : ℕ) (r m e : LineEntry) → at < length entries
    → at + 1 ≡ next → r ≡ get_or entries at r → m ≡ get_or entries at m → r.file ≡ 0 → NoneFrom next entries
    → entry_tree e ≡ with_missing_end true (entry_tree m) → entries ≡ before
    → map entry_tree (set entries at e) ≡ marked (map entry_tree before)
mark_found entries before at next r m e inside step got_r got_m here h is same =
    let trees = map entry_tree entries in
    let got : get_or trees at (entry_tree m) ≡ entry_tree m = get_or-map entry_tree entries at m (entry_tree m) inside
    ∙ ap entry_tree (sym got_m) in
    let of_source : is_of_source (entry_tree m) ≡ true =
    ap (λ (x : LineEntry). x.file == 0) (got_m ∙ get_or_default entries at m r inside ∙ sym got_r)
    ∙ is_zero r.file here in
    let none : list_any is_of_source (drop (suc at) trees) ≡ false =
    ap (list_any is_of_source) (drop-map entry_tree (suc at) entries)
    ∙ ap (λ n. list_any is_of_source (map entry_tree (drop n entries))) (sym (add-one at) ∙ step) ∙ h.none in
    map-set entry_tree entries at e
    ∙ ap (set trees at) (is ∙ ap (with_missing_end true) (sym got))
    ∙ sym (marked_at trees at (entry_tree m) (omega (arith, inside, length-map entries entry_tree))
    (ap is_of_source got ∙ of_source) none)
    ∙ ap (λ l. marked (map entry_tree l)) same

-- no line is of the source
pub mark_nowhere : (entries before : List LineEntry) (at : ℕ) → at ≡ 0 → NoneFrom at entries → entries ≡ before
    → map entry_tree entries ≡ marked (map entry_tree before)
mark_nowhere entries before at zero_at h same =
    sym (marked_none (map entry_tree entries)
    (ap (λ n. list_any is_of_source (map entry_tree (drop n entries))) (sym zero_at) ∙ h.none))
    ∙ ap (λ l. marked (map entry_tree l)) same

-- The lines that were read: those before the first fault, and the others.

-- a line without a fault is added, where none before it has one
pub push_line : (lines : List Line) (entries : List LineEntry) (e : LineEntry) → entries ≡ []
    → entry_tree e ≡ faultless (line_of_entry e)
    → map faultless (lines ++ line_of_entry e ∷ []) ++ map entry_tree entries
    ≡ (map faultless lines ++ map entry_tree entries) ++ entry_tree e ∷ []
push_line lines entries e none is =
    rw (none, append-nil (map faultless (lines ++ line_of_entry e ∷ [])), append-nil (map faultless lines), is)
    (map-append faultless lines (line_of_entry e ∷ []))

-- a line is added to those after the first fault
pub push_entry : (lines : List Line) (entries : List LineEntry) (e : LineEntry)
    → map faultless lines ++ map entry_tree (entries ++ e ∷ [])
    ≡ (map faultless lines ++ map entry_tree entries) ++ entry_tree e ∷ []
push_entry lines entries e =
    ap (λ l. map faultless lines ++ l) (map-append entry_tree entries (e ∷ []))
    ∙ sym (append_assoc (map faultless lines) (map entry_tree entries) (entry_tree e ∷ []))

-- contracts see as many lines
pub length_entries : (r : ReadLines) → length (read_entries r) ≡ line_count r
length_entries r =
    length-append (map faultless r.lines.items) (map entry_tree r.entries.items)
    ∙ ap (λ n. n + length (map entry_tree r.entries.items)) (length-map r.lines.items faultless ∙ sym r.lines.ok.0)
    ∙ ap (λ n. vec_len r.lines + n) (length-map r.entries.items entry_tree ∙ sym r.entries.ok.0)

same_entries : (lines : List Line) → map entry_tree (map entry_of_line lines) ≡ map faultless lines
same_entries [] = refl
same_entries (l ∷ lines) = ap (λ entries. faultless l ∷ entries) (same_entries lines)

-- all lines as those that may have a fault
pub all_kept : (lines : List Line) (entries : List LineEntry)
    → map entry_tree (map entry_of_line lines ++ entries) ≡ map faultless lines ++ map entry_tree entries
all_kept lines entries = map-append entry_tree (map entry_of_line lines) entries
    ∙ ap (λ l. l ++ map entry_tree entries) (same_entries lines)

-- What a line brings in.

none_inserted : (includes : List SourceFile) (name : Option (List ℕ))
    → [] ≡ inserted includes 0 (inclusion_by includes 0 name)
none_inserted includes (Some name) = refl
none_inserted includes None = refl

less_one : (levels : ℕ) → suc levels - 1 ≡ levels
less_one levels = omega arith

some_inserted : (includes : List SourceFile) (levels : ℕ) (inclusion : Inclusion)
    → include_lines includes (brought includes levels) levels inclusion ≡ inserted includes (suc levels) inclusion
some_inserted includes levels (Given index) =
    ap (λ n. file_lines includes n (index + 1) (bytes_of_file (slice_get includes index))) (sym (less_one levels))
some_inserted includes levels Nothing = refl
some_inserted includes levels Refused = refl

-- what a line brings in is what is inserted after it
pub brought_is : (includes : List SourceFile) (levels : ℕ) (line : List ℕ)
    → brought includes levels line ≡ inserted includes levels (inclusion_of includes levels (said line))
unfolding brought
brought_is includes zero line = none_inserted includes (asked (said line))
brought_is includes (suc levels) line = some_inserted includes levels (inclusion_of includes (suc levels) (said line))

-- Lines that are read one after another.

-- lines that are read in two parts
pub after_append : (includes : List SourceFile) (s : State) (xs ys : List TextLine)
    → state_of_lines includes s (xs ++ ys) ≡ state_of_lines includes (state_of_lines includes s xs) ys
unfolding state_of_lines
after_append includes s [] ys = refl
after_append includes s (x ∷ xs) ys = after_append includes (next includes s x) xs ys

next_full : (includes : List SourceFile) (s : State) (x : TextLine) → nat_le 65536 (length s.entries) ≡ true
    → next includes s x ≡ s
next_full includes s x full = cond-true (nat_le 65536 (length s.entries)) s _ full

-- after 65,536 lines no more are read
pub after_full : (includes : List SourceFile) (s : State) (xs : List TextLine) → nat_le 65536 (length s.entries) ≡ true
    → state_of_lines includes s xs ≡ s
unfolding state_of_lines
after_full includes s [] full = refl
after_full includes s (x ∷ xs) full = ap (λ t. state_of_lines includes t xs) (next_full includes s x full)
    ∙ after_full includes s xs full

-- a line is read, and then what it brings in
pub after_line : (includes : List SourceFile) (levels file number : ℕ) (bytes : List ℕ) (rest behind : List ℕ)
    (s s1 s2 whole : State) (found : Inclusion)
    → lines rest ≡ bytes ∷ lines behind
    → s1 ≡ next includes s (record { file = file; line = number; levels = levels; bytes = bytes })
    → found ≡ inclusion_of includes levels (said bytes)
    → s2 ≡ state_of_lines includes s1 (inserted includes levels found)
    → state_of_lines includes s (lines_with (brought includes levels) levels file number (lines rest)) ≡ whole
    → state_of_lines includes s2 (lines_with (brought includes levels) levels file (number + 1) (lines behind)) ≡ whole
unfolding state_of_lines
after_line includes levels file number bytes rest behind s s1 s2 whole found cut read given inserts so_far =
    let line : TextLine = record { file = file; line = number; levels = levels; bytes = bytes } in
    let more = lines_with (brought includes levels) levels file (number + 1) (lines behind) in
    rw (inserts, given, ← brought_is includes levels bytes, read)
    (sym (after_append includes (next includes s line) (brought includes levels bytes) more)
    ∙ ap (λ l. state_of_lines includes s (lines_with (brought includes levels) levels file number l)) (sym cut)
    ∙ so_far)

-- no line is left
pub after_last : (includes : List SourceFile) (s : State) → state_of_lines includes s [] ≡ s
unfolding state_of_lines
after_last includes s = refl

pub after_end : (includes : List SourceFile) (levels file number : ℕ) (rest : List ℕ) (s whole : State) → rest ≡ []
    → state_of_lines includes s (lines_with (brought includes levels) levels file number (lines rest)) ≡ whole → s
    ≡ whole
unfolding state_of_lines
after_end includes levels file number rest s whole none so_far = rw none at so_far

-- reading has stopped
pub after_stop : (includes : List SourceFile) (r : TextReading) (xs : List TextLine) (whole : State)
    → nat_le 65536 (line_count r.read) ≡ true → state_of_lines includes (state_of r) xs ≡ whole → state_of r ≡ whole
after_stop includes r xs whole full so_far =
    sym (after_full includes (state_of r) xs (ap (nat_le 65536) (length_entries r.read) ∙ full)) ∙ so_far

-- The fault of a line as it is kept is the fault that it has.

-- the entries of lines below those above them
abbrev pub entries_from : List SourceFile → List TextLine → List TextLine → List EntryTree
entries_from includes above [] = []
entries_from includes above (line ∷ below) = entry_of includes (length above) (list_any ends_source above) line
    ∷ entries_from includes (above ++ line ∷ []) below

by_said : (includes : List SourceFile) (above : List TextLine) (line : TextLine) (missing : Bool)
    (r : Result StmtTree ℕ)
    → fault_said line.file line.line
    (cond missing (Some MISPLACED_END)
    (fault_above (length above) (list_any ends_source above) line.file (inclusion_of includes line.levels r) r)) r
    ≡ option_map (fault_at line.file line.line) (fault_with includes above line missing r)
by_said includes above line true (Ok statement) = refl
by_said includes above line false (Ok statement) = refl
by_said includes above line true (Err number) = refl
by_said includes above line false (Err number) = refl

-- the fault of a line, where END is missing at it or not
line_fault : (includes : List SourceFile) (above : List TextLine) (line : TextLine) (missing : Bool)
    → fault_of_entry (with_missing_end missing (entry_of includes (length above) (list_any ends_source above) line))
    ≡ option_map (fault_at line.file line.line) (fault_on_line includes above line missing)
line_fault includes above line missing = by_said includes above line missing (said line.bytes)

before_list : (line : TextLine) (fault : Option ℕ) (faults : List Fault)
    → cons_option (option_map (fault_at line.file line.line) fault) faults ≡ before line fault faults
before_list line (Some number) faults = refl
before_list line None faults = refl

one_more : (includes : List SourceFile) (above : List TextLine) (line : TextLine) (missing : Bool)
    (kept faults : List Fault) → kept ≡ faults
    → cons_option (fault_of_entry
    (with_missing_end missing (entry_of includes (length above) (list_any ends_source above) line))) kept
    ≡ before line (fault_on_line includes above line missing) faults
one_more includes above line missing kept faults same =
    rw (line_fault includes above line missing, same)
    (before_list line (fault_on_line includes above line missing) faults)

-- the faults of lines where END is not missing
pub plain_faults : (includes : List SourceFile) (above lines : List TextLine)
    → filter_map fault_of_entry (entries_from includes above lines) ≡ faults_from includes false above lines
plain_faults includes above [] = refl
plain_faults includes above (line ∷ below) =
    one_more includes above line false _ _ (plain_faults includes (above ++ line ∷ []) below)

-- the lines of the source among them
same_source : (includes : List SourceFile) (above lines : List TextLine)
    → list_any is_of_source (entries_from includes above lines) ≡ list_any text.is_of_source lines
same_source includes above [] = refl
same_source includes above (line ∷ below) =
    ap (λ b. line.file == 0 || b) (same_source includes (above ++ line ∷ []) below)

-- the faults of lines where END is missing
pub marked_faults : (includes : List SourceFile) (above lines : List TextLine)
    → filter_map fault_of_entry (marked (entries_from includes above lines)) ≡ faults_from includes true above lines
marked_faults includes above [] = refl
marked_faults includes above (line ∷ below) =
    let here = entry_of includes (length above) (list_any ends_source above) line in
    let rest = entries_from includes (above ++ line ∷ []) below in
    ap (λ b. cons_option (fault_of_entry (with_missing_end (line.file == 0 && not b) here))
    (filter_map fault_of_entry (marked rest))) (same_source includes (above ++ line ∷ []) below)
    ∙ one_more includes above line (is_last_of_source line below) _ _
    (marked_faults includes (above ++ line ∷ []) below)

tree_more : (line : TextLine) (r : Result StmtTree ℕ) (kept lines : List LineTree) → kept ≡ lines
    → cons_option (tree_said line.file line.line r) kept ≡ with_statement line r lines
tree_more line (Ok statement) kept lines same = rw same refl
tree_more line (Err number) kept lines same = same

-- the lines with their statements
pub same_statements : (includes : List SourceFile) (above lines : List TextLine)
    → filter_map tree_of_entry (entries_from includes above lines) ≡ statements_of lines
same_statements includes above [] = refl
same_statements includes above (line ∷ below) =
    tree_more line (said line.bytes) _ _ (same_statements includes (above ++ line ∷ []) below)

-- the missing END changes no statement
pub marked_statements : (entries : List EntryTree)
    → filter_map tree_of_entry (marked entries) ≡ filter_map tree_of_entry entries
marked_statements [] = refl
marked_statements (e ∷ entries) = ap (cons_option (tree_of_entry e)) (marked_statements entries)

-- What was read of a text gives what the text gives.

-- the state with one additional line
abbrev more : List SourceFile → State → TextLine → State
more includes s line =
    record {
      entries = s.entries ++ entry_of includes (length s.entries) s.ended line ∷ [];
      ended = s.ended || ends_source line;
    }

next_is : (includes : List SourceFile) (s : State) (line : TextLine) → length s.entries < 65536
    → next includes s line ≡ more includes s line
next_is includes s line h =
    cond-false (nat_le 65536 (length s.entries)) s (more includes s line) (grind (arith, nat_tests, h))

length_more : (includes : List SourceFile) (s : State) (line : TextLine)
    → length (more includes s line).entries ≡ length s.entries + 1
length_more includes s line = length-append s.entries (entry_of includes (length s.entries) s.ended line ∷ [])

-- only the first 65,536 lines are read
pub cut : (includes : List SourceFile) (n : ℕ) (s : State) (xs : List TextLine) → length s.entries + n ≡ 65536
    → state_of_lines includes s xs ≡ state_of_lines includes s (take n xs)
unfolding state_of_lines
cut includes zero s xs h =
    let all : length s.entries ≡ 65536 = omega (arith, h) in
    after_full includes s xs (grind (arith, nat_tests, all)) ∙ sym (after_last includes s)
cut includes (suc n) s [] h = refl
cut includes (suc n) s (x ∷ xs) h =
    let step : next includes s x ≡ more includes s x = next_is includes s x (omega (arith, h)) in
    ap (λ t. state_of_lines includes t xs) step
    ∙ cut includes n (more includes s x) xs (omega (arith, h, length_more includes s x))
    ∙ ap (λ t. state_of_lines includes t (take n xs)) (sym step)

-- a state by its parts
abbrev state : List EntryTree → Bool → State
state entries ended = record { entries = entries; ended = ended }

one_ended : (above : List TextLine) (line : TextLine)
    → list_any ends_source (above ++ line ∷ []) ≡ (list_any ends_source above || ends_source line)
one_ended above line = list_any-append ends_source above (line ∷ [])
    ∙ ap (λ b. list_any ends_source above || b) (or-false (ends_source line))

same_more : (includes : List SourceFile) (above : List TextLine) (line : TextLine) (s : State)
    → length s.entries ≡ length above → s.ended ≡ list_any ends_source above
    → (entries_from includes above (line ∷ [])) ≡ entry_of includes (length s.entries) s.ended line ∷ []
same_more includes above line s len ended =
    ap (λ n. entry_of includes n (list_any ends_source above) line ∷ []) (sym len)
    ∙ ap (λ b. entry_of includes (length s.entries) b line ∷ []) (sym ended)

-- what is read of lines below others
pub reads : (includes : List SourceFile) (above lines : List TextLine) (s : State) → length s.entries ≡ length above
    → s.ended ≡ list_any ends_source above → length above + length lines ≤ 65536
    → state_of_lines includes s lines ≡ state (s.entries ++ entries_from includes above lines)
    (list_any ends_source (above ++ lines))
unfolding state_of_lines
reads includes above [] s len ended room =
    ap (λ e. state e s.ended) (sym (append-nil s.entries))
    ∙ ap (state (s.entries ++ [])) (ended ∙ ap (list_any ends_source) (sym (append-nil above)))
reads includes above (line ∷ below) s len ended room =
    let next_above = above ++ line ∷ [] in
    let e = entry_of includes (length s.entries) s.ended line in
    let rest = entries_from includes next_above below in
    let len_above : length next_above ≡ length above + 1 = length-append above (line ∷ []) in
    let len_below : length (line ∷ below) ≡ suc (length below) = refl in
    let few : length s.entries < 65536 = omega (arith, len, room, len_below) in
    let len_next : length (more includes s line).entries ≡ length next_above =
    omega (arith, length_more includes s line, len, len_above) in
    let ended_next : (more includes s line).ended ≡ list_any ends_source next_above =
    ap (λ b. b || ends_source line) ended ∙ sym (one_ended above line) in
    let room_next : length next_above + length below ≤ 65536 = omega (arith, room, len_above, len_below) in
    ap (λ t. state_of_lines includes t below) (next_is includes s line few)
    ∙ reads includes next_above below (more includes s line) len_next ended_next room_next
    ∙ ap (λ l. state l (list_any ends_source (next_above ++ below)))
    (append_assoc s.entries (e ∷ []) rest
    ∙ ap (λ l. s.entries ++ (l ++ rest)) (sym (same_more includes above line s len ended)))
    ∙ ap (λ l. state (s.entries ++ entries_from includes above (line ∷ below)) (list_any ends_source l))
    (append_assoc above (line ∷ []) below)

length_from : (includes : List SourceFile) (above lines : List TextLine)
    → length (entries_from includes above lines) ≡ length lines
length_from includes above [] = refl
length_from includes above (line ∷ below) = ap (λ n. suc n) (length_from includes (above ++ line ∷ []) below)

abbrev marked_if : Bool → List EntryTree → List EntryTree
marked_if b entries = cond b (marked entries) entries

-- the faults of a text that is read, or its lines
judged : (includes : List SourceFile) (line : TextLine) (below : List TextLine) (lacking : Bool)
    → told (marked_if lacking (entries_from includes [] (line ∷ below)))
    ≡ faults_or_lines (faults_from includes lacking [] (line ∷ below)) (statements_of (line ∷ below))
judged includes line below true =
    let entries = entries_from includes [] (line ∷ below) in
    ap (λ f. faults_or_lines f (filter_map tree_of_entry (marked entries))) (marked_faults includes [] (line ∷ below))
    ∙ ap (faults_or_lines (faults_from includes true [] (line ∷ below)))
    (marked_statements entries ∙ same_statements includes [] (line ∷ below))
judged includes line below false =
    let entries = entries_from includes [] (line ∷ below) in
    ap (λ f. faults_or_lines f (filter_map tree_of_entry entries)) (plain_faults includes [] (line ∷ below))
    ∙ ap (faults_or_lines (faults_from includes false [] (line ∷ below))) (same_statements includes [] (line ∷ below))

all_told : (includes : List SourceFile) (lines : List TextLine)
    → told (marked_if (text.lacks_end lines) (entries_from includes [] lines)) ≡ text_answer includes lines
all_told includes [] = refl
all_told includes (line ∷ below) = judged includes line below (text.lacks_end (line ∷ below))

-- what a text of at most 65,536 lines gives
text_told : (includes : List SourceFile) (lines : List TextLine) → length lines ≤ 65536
    → told (settled (state_of_lines includes nothing_yet lines)) ≡ text_answer includes lines
text_told includes lines room =
    ap (λ s. told (settled s)) (reads includes [] lines nothing_yet refl refl (omega (arith, room)))
    ∙ ap (λ n. told (marked_if (nat_lt n 65536 && not (list_any ends_source lines)) (entries_from includes [] lines)))
    (length_from includes [] lines)
    ∙ all_told includes lines

most : (n m : ℕ) (lines : List TextLine) → n ≡ m → length (take n lines) ≤ m
most n m lines same = omega (arith, length-take n lines, same)

-- the answer for all that was read is that for the source and its includes
pub whole : (source : SourceFile) (includes : List SourceFile)
    → told (settled (state_of_lines includes nothing_yet (file_lines includes 8 0 source.bytes)))
    ≡ text_of source includes
unfolding text_lines
whole source includes =
    let lines = file_lines includes 8 0 source.bytes in
    ap (λ s. told (settled s)) (cut includes 65536 nothing_yet lines refl)
    ∙ text_told includes (take 65536 lines) (most 65536 65536 lines refl)

-- the same of what was kept
pub told_whole : (source : SourceFile) (includes : List SourceFile) (s t : State) (bytes : List ℕ)
    (entries : List EntryTree)
    → s ≡ nothing_yet → bytes ≡ source.bytes → t ≡ state_of_lines includes s (file_lines includes 8 0 bytes)
    → entries ≡ settled t → told entries ≡ text_of source includes
told_whole source includes s t bytes entries start same read kept =
    rw (kept, read, start, same) (whole source includes)
