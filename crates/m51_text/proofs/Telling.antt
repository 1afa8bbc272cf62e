-- The answer for lines that were read: their faults, or the lines.
use Rattle.std.proofs.Common.{◌≡◌, ℕ, suc, true, false, ◌==◌, List, [], ◌∷◌, length, map, Option, Some, None, refl, sym}
use Rattle.std.proofs.Common.{ap, ◌∙◌, arith, ◌++◌}
use Rattle.std.specs.List.{filter_map, cons_option}
use Rattle.std.proofs.lemmas.List.{map-append}
use Rattle.std.proofs.lemmas.List.Elements.{filter_map-append}
use Rattle.std.proofs.lemmas.Bool.Decides.{nat_tests}
use Rattle.m51_stmt.specs.declared.statement.Stmt.{Stmt}
use Rattle.m51_module.specs.declared.source.Fault.{Fault}
use Rattle.m51_cells.specs.declared.fault.TheConstants.{MISPLACED_END}
use Rattle.m51_text.specs.declared.text.Line.{Line}
use Rattle.m51_text.specs.declared.entry.LineEntry.{LineEntry}
use Rattle.m51_text.specs.Answer.{Lines, Faults, LineTree, line_tree, faults_or_lines}
use Rattle.m51_text.specs.Said.{said_with}
use Rattle.m51_text.specs.Entries.{entry_tree, fault_at, fault_kept, fault_of_entry, fault_said, line_of_entry}
use Rattle.m51_text.specs.Entries.{tree_said, tree_of_entry}
use Rattle.m51_text.specs.declared.read_lines.ReadLines.{ReadLines}
use Rattle.m51_text.specs.Entries.{EntryTree, read_entries, faultless, line_count}
use Rattle.m51_text.specs.Reading.{told}
use Rattle.m51_text.proofs.WholeText.{length_entries}

-- a list that is empty
pub is_nothing : {A : Type 0} (xs : List A) → (length xs == 0) ≡ true → xs ≡ []
is_nothing [] h = refl
is_nothing (x ∷ xs) h = let none : suc (length xs) ≡ 0 = grind (arith, nat_tests, h) in absurd (omega (arith, none))

-- the faults of lines as contracts see them
same_faults : (entries : List LineEntry)
    → filter_map fault_of_entry (map entry_tree entries) ≡ filter_map fault_kept entries
unfolding fault_kept
same_faults [] = refl
same_faults (e ∷ entries) = ap (cons_option (fault_of_entry (entry_tree e))) (same_faults entries)

-- a line without a fault before lines that have none
one_line : (file line : ℕ) (statement : Stmt) (fault by_place : Option ℕ) (faults : List Fault)
    (lines trees : List LineTree)
    → cons_option (fault_said file line by_place (said_with statement fault)) faults ≡ []
    → (faults ≡ [] → lines ≡ trees)
    → line_tree (record { file = file; line = line; stmt = statement }) ∷ lines
    ≡ cons_option (tree_said file line (said_with statement fault)) trees
one_line file line statement None None faults lines trees none same = rw (same none) refl
one_line file line statement None (Some number) faults lines trees none same = absurd (cc none)
one_line file line statement (Some number) by_place faults lines trees none same = absurd (cc none)

-- the lines, where none has a fault
same_lines : (entries : List LineEntry) → filter_map fault_of_entry (map entry_tree entries) ≡ []
    → map line_tree (map line_of_entry entries) ≡ filter_map tree_of_entry (map entry_tree entries)
same_lines [] none = refl
same_lines (e ∷ entries) none =
    one_line e.file e.line e.said.statement e.said.fault e.by_place _ _ _ none (λ h. same_lines entries h)

-- lines before the first fault have none
no_faults : (lines : List Line) → filter_map fault_of_entry (map faultless lines) ≡ []
no_faults [] = refl
no_faults (l ∷ lines) = no_faults lines

-- and each of them says a statement
all_say : (lines : List Line) → filter_map tree_of_entry (map faultless lines) ≡ map line_tree lines
all_say [] = refl
all_say (l ∷ lines) = ap (λ trees. line_tree l ∷ trees) (all_say lines)

-- the faults of all lines
faults_in : (r : ReadLines) → filter_map fault_of_entry (read_entries r) ≡ filter_map fault_kept r.entries.items
faults_in r =
    filter_map-append fault_of_entry (map faultless r.lines.items) (map entry_tree r.entries.items)
    ∙ ap (λ l. l ++ filter_map fault_of_entry (map entry_tree r.entries.items)) (no_faults r.lines.items)
    ∙ same_faults r.entries.items

-- the statements of all lines, where none has a fault
trees_in : (r : ReadLines) → filter_map fault_kept r.entries.items ≡ []
    → map line_tree (r.lines.items ++ map line_of_entry r.entries.items) ≡ filter_map tree_of_entry (read_entries r)
trees_in r none =
    rw (
      map-append line_tree r.lines.items (map line_of_entry r.entries.items),
      same_lines r.entries.items (same_faults r.entries.items ∙ none),
      ← all_say r.lines.items,
    )
    (sym (filter_map-append tree_of_entry (map faultless r.lines.items) (map entry_tree r.entries.items)))

-- the lines, where there is no fault
pub lines_told : (r : ReadLines) (faults : List Fault) (lines : List Line) → (length faults == 0) ≡ true
    → faults ≡ filter_map fault_kept r.entries.items
    → lines ≡ r.lines.items ++ map line_of_entry r.entries.items
    → Lines (map line_tree lines) ≡ faults_or_lines (filter_map fault_of_entry (read_entries r))
    (filter_map tree_of_entry (read_entries r))
lines_told r faults lines empty kept said =
    let none : [] ≡ filter_map fault_kept r.entries.items = sym (is_nothing faults empty) ∙ kept in
    ap (λ l. Lines (map line_tree l)) said
    ∙ ap Lines (trees_in r (sym none))
    ∙ ap (λ f. faults_or_lines f (filter_map tree_of_entry (read_entries r))) (none ∙ sym (faults_in r))

some_faults : (faults : List Fault) (lines : List LineTree) → (length faults == 0) ≡ false
    → Faults faults ≡ faults_or_lines faults lines
some_faults [] lines h = absurd (cc h)
some_faults (fault ∷ faults) lines h = refl

-- the faults, where there are some
pub faults_told : (r : ReadLines) (faults : List Fault) → (length faults == 0) ≡ false
    → faults ≡ filter_map fault_kept r.entries.items
    → Faults faults ≡ faults_or_lines (filter_map fault_of_entry (read_entries r))
    (filter_map tree_of_entry (read_entries r))
faults_told r faults some kept =
    some_faults faults (filter_map tree_of_entry (read_entries r)) some
    ∙ ap (λ f. faults_or_lines f (filter_map tree_of_entry (read_entries r))) (kept ∙ sym (faults_in r))

-- of no lines
pub nothing_told : (r : ReadLines) → (line_count r == 0) ≡ true
    → Faults (fault_at 0 1 MISPLACED_END ∷ []) ≡ told (read_entries r)
nothing_told r h = ap told (sym (is_nothing (read_entries r) (ap (λ n. n == 0) (length_entries r) ∙ h)))

told_of : (entries : List EntryTree) → (length entries == 0) ≡ false
    → faults_or_lines (filter_map fault_of_entry entries) (filter_map tree_of_entry entries) ≡ told entries
told_of [] h = absurd (cc h)
told_of (e ∷ entries) h = refl

-- of lines
pub some_told : (r : ReadLines) → (line_count r == 0) ≡ false
    → faults_or_lines (filter_map fault_of_entry (read_entries r)) (filter_map tree_of_entry (read_entries r))
    ≡ told (read_entries r)
some_told r h = told_of (read_entries r) (ap (λ n. n == 0) (length_entries r) ∙ h)
