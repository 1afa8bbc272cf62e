-- Printed statements read back.
use Rattle.m51_stmt.proofs
use proofs.Common.{◌≡◌, ℕ, ◌<◌, ◌==◌, true, false, map, List, [], ◌∷◌, ◌++◌, length, Option, Some, None, Ok, refl, sym}
use proofs.Common.{ap, ◌∙◌, arith, append_assoc, inl, inr, list_all, prefix_len, common_steps, drop-append_seam}
use proofs.Common.{take-append_seam, name_of, is_name, BodyTree, StmtTree, is_inside, closed_at, statement, token_line}
use proofs.Common.{stmt_text}
use Rattle.std.proofs.Common.{◌⊎◌}
use Rattle.m51_cells.proofs.Small.{not_zero}
use Rattle.m51_stmt.specs.Control.{is_ignored_word}
use Rattle.m51_stmt.specs.Lines.{any_line}
use Rattle.m51_stmt.specs.Printing.{body_text}
use proofs.LineCuts.{Word, laid, laid_cut, symbol, words_read}
use proofs.WordCuts.{name_word, sign_word, name_cut, sign_cut, run_ends}
use proofs.PrintedParts.{name_symbol}
use proofs.PrintedExterns.{IsFree}
use proofs.PrintedBodies.{IsBody, body_words, body_laid, body_cut, body_said}
use proofs.Derives.{statement_reads}
use Rattle.m51_cells.specs.Name as cells
use Rattle.m51_stmt.specs.Statement as body
use Rattle.m51_stmt.specs.Control as control
use Rattle.m51_stmt.specs.Grammar as grammar

-- a control that can be read
abbrev pub IsControl : BodyTree → Type 0
IsControl body.Ignored = Unit {0}
IsControl (body.Include name) = (0 < length name) × (list_all is_inside name ≡ true)
IsControl (body.Mod51 on) = Unit {0}
IsControl b = ⊥

-- a statement that can be read: a control without a label, or a body at its index after the label
abbrev pub IsLine : Option (List ℕ) → BodyTree → Type 0
IsLine None b = IsControl b ⊎ IsBody 0 b
IsLine (Some name) b = IsFree name × IsBody 2 b

abbrev pub IsStatement : StmtTree → Type 0
IsStatement s = IsLine s.label s.body

-- words of which the first is a name
record Begins (ws : List Word) : Type 0 where
  name : List ℕ
  rest : List Word
  is : ws ≡ name_word name ∷ rest
  written : name_of name ≡ Some name

begun : (name : List ℕ) (rest : List Word) → name_of name ≡ Some name → Begins (name_word name ∷ rest)
begun name rest h = record { name = name; rest = rest; is = refl; written = h }

no_dollar : (c : ℕ) → cells.is_name_byte c ≡ true → (c == 0x24) ≡ false
no_dollar c h = grind (arith, common_steps)

no_percent : (c : ℕ) → cells.is_name_byte c ≡ true → (c == 0x25) ≡ false
no_percent c h = grind (arith, common_steps)

-- a line that begins with a name is one of tokens
pub name_line : (text rest : List ℕ) → is_name text ≡ true → any_line (text ++ rest) ≡ token_line (text ++ rest)
unfolding any_line
name_line text rest h = grind (arith, no_dollar, no_percent)

begun_line : (ws : List Word) → Begins ws → any_line (laid ws) ≡ token_line (laid ws)
begun_line ws b = rw b.is (grind (arith, name_line))

abbrev bare : BodyTree → StmtTree
bare b = record { label = None; body = b }

-- a statement after a label
abbrev pub labelled : List ℕ → BodyTree → StmtTree
labelled name b = record { label = Some name; body = b }

-- without a label
bare_printed : (b : BodyTree) → IsBody 0 b → (b ≡ body.Empty) ⊎ Begins (body_words b)
    → any_line (stmt_text (bare b)) ≡ Ok (bare b)
unfolding any_line body_text
bare_printed b is (inl empty) = rw empty refl
bare_printed b is (inr begins) =
    ap any_line (sym (body_laid 0 b is)) ∙ begun_line _ begins
    ∙ words_read (bare b) (laid_cut _ (body_cut 0 b is))
    (statement_reads _ _ (grammar.Bare (body_said false 0 (λ _. refl) b is)))

-- after a label
abbrev labelled_words : List ℕ → BodyTree → List Word
labelled_words name b = name_word name ∷ sign_word 0x3A ∷ body_words b

labelled_read : (name : List ℕ) (b : BodyTree) → IsFree name → IsBody 2 b
    → statement (map symbol (labelled_words name b)) ≡ Some (labelled name b)
labelled_read name b label is =
    rw (name_symbol name label.leaf)
    (statement_reads _ _ (grammar.Labelled label.free (body_said true 2 (λ h. absurd (cc h)) b is)))

labelled_laid : (name : List ℕ) (b : BodyTree) → IsBody 2 b → laid (labelled_words name b) ≡ stmt_text (labelled name b)
labelled_laid name b is =
    rw (body_laid 2 b is)
    (grind (arith, append_assoc))

labelled_printed : (name : List ℕ) (b : BodyTree) → IsFree name → IsBody 2 b
    → any_line (stmt_text (labelled name b)) ≡ Ok (labelled name b)
labelled_printed name b label is =
    ap any_line (sym (labelled_laid name b is))
    ∙ begun_line _ (begun name (sign_word 0x3A ∷ body_words b) label.leaf.written)
    ∙ words_read (labelled name b)
    (laid_cut (labelled_words name b) (name_cut label.leaf.written, (sign_cut refl, body_cut 2 b is)))
    (labelled_read name b label is)

-- controls
closed_here : (name : List ℕ) → 0 < length name → list_all is_inside name ≡ true
    → closed_at (name ++ 0x29 ∷ 32 ∷ []) (prefix_len is_inside (name ++ 0x29 ∷ 32 ∷ [])) ≡ Some name
closed_here name some all =
    rw (
      run_ends is_inside name (0x29 ∷ 32 ∷ []) all refl,
      not_zero (length name) some,
      take-append_seam name (0x29 ∷ 32 ∷ []),
      drop-append_seam name (0x29 ∷ 32 ∷ []),
    ) refl

include_printed : (name : List ℕ) → 0 < length name → list_all is_inside name ≡ true
    → any_line (stmt_text (bare (body.Include name))) ≡ Ok (bare (body.Include name))
unfolding any_line body_text control.body_by_word
include_printed name some all = rw (closed_here name some all) refl

control_printed : (b : BodyTree) → IsControl b → any_line (stmt_text (bare b)) ≡ Ok (bare b)
unfolding any_line body_text control.body_by_word is_ignored_word
control_printed b is = grind (arith, include_printed)

printed_by : (label : Option (List ℕ)) (b : BodyTree) → IsLine label b
    → any_line (stmt_text (record { label = label; body = b })) ≡ Ok (record { label = label; body = b })
printed_by label b h2 = grind (arith, control_printed, bare_printed, labelled_printed)

-- each statement that can be read is what its printed text is read as
pub printed : (s : StmtTree) → IsStatement s → any_line (stmt_text s) ≡ Ok s
printed s is = printed_by s.label s.body is
