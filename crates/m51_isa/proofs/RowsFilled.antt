-- Rows by their own text, rows with numbers in their fields, and rows of generic jumps.
use Rattle.std.proofs.Common.{◌≡◌, Some, refl, ap, ◌∙◌, ℕ, List, Option, None}
use Rattle.m51_isa.specs.declared.instr.Instr.{Instr}
use Rattle.m51_isa.specs.declared.instr.Instr.TheVariants.{Nop}
use Rattle.m51_isa.specs.Filling.{with_numbers}
use Rattle.m51_isa.specs.Search.{search, row_or, row_for}
use Rattle.m51_isa.specs.Spelling.{text_of, look_of}
use Rattle.m51_isa.specs.TextLaws.{HasNumbers, number_of_slot, read_text, HasText, HasRowText, meant_by, TextsAreRows}
use Rattle.std.specs.Prelude.{IfSome}
use Rattle.m51_isa.specs.declared.look.Look.{Look}
use Rattle.m51_isa.specs.declared.look.Look.TheVariants.{Nothing, Plain}
use Rattle.m51_isa.specs.declared.generics.Jump.{Jump}
use Rattle.m51_isa.specs.declared.generics.Jump.TheVariants.{Short, Block, Long}
use Rattle.m51_isa.specs.declared.generics.Verb.{Verb}
use Rattle.m51_isa.specs.declared.generics.Verb.TheVariants.{Jmp, Call}
use Rattle.m51_isa.specs.Generic.{generic, jump_row}
use Rattle.m51_isa.proofs.RowsSearched.{as_is, found_rows_are_written}

-- a row with the numbers of its text
abbrev renumbered : Instr → Instr
renumbered i =
    let t = text_of i in with_numbers i (number_of_slot t.first) (number_of_slot t.second) (number_of_slot t.third)

found : (i : Instr) → read_text (text_of i) ≡ Some (renumbered i)
unfolding search
found Nop = refl
found i = refl

same : (i : Instr) → HasNumbers (text_of i) → renumbered i ≡ i
same Nop h = refl
same i h = cc (ap number_of_slot h.first, ap number_of_slot h.second, ap number_of_slot h.third)

pub rows_are_found : (i : Instr) → HasNumbers (text_of i) → read_text (text_of i) ≡ Some i
rows_are_found i h = found i ∙ ap Some (same i h)

rows_are_filled : (i : Instr) (a b c : ℕ) → HasText i (with_numbers i a b c) a b c
rows_are_filled Nop a b c = record { same = refl; length = refl }
rows_are_filled i a b c = record { same = refl; length = refl }

-- no row is written as a generic jump
pub rows_are_apart : (i : Instr)
    → generic (text_of i).mnemonic (look_of (text_of i).first) (look_of (text_of i).second) (look_of (text_of i).third)
    ≡ None
rows_are_apart Nop = refl
rows_are_apart i = refl

jump_written : (verb : Verb) (form : Jump)
    → HasRowText (text_of (jump_row verb form)).mnemonic Plain Nothing Nothing (jump_row verb form)
jump_written Jmp Short = as_is (jump_row Jmp Short)
jump_written Jmp Block = as_is (jump_row Jmp Block)
jump_written Jmp Long = as_is (jump_row Jmp Long)
jump_written Call Short = as_is (jump_row Call Short)
jump_written Call Block = as_is (jump_row Call Block)
jump_written Call Long = as_is (jump_row Call Long)

by_verb : (word : List ℕ) (form : Jump) (a b c : Look) (v : Option Verb) (o : Option Instr)
    → IfSome o (HasRowText word a b c)
    → ((verb : Verb) → v ≡ Some verb → HasRowText (text_of (jump_row verb form)).mnemonic a b c (jump_row verb form))
    → IfSome (row_or form v o) (HasRowText (meant_by word form v) a b c)
by_verb word form a b c None o h go = h
by_verb word form a b c (Some verb) o h go = go verb refl

generic_written : (word : List ℕ) (form : Jump) (a b c : Look) (verb : Verb) → generic word a b c ≡ Some verb
    → HasRowText (text_of (jump_row verb form)).mnemonic a b c (jump_row verb form)
generic_written word form Plain Nothing Nothing verb is = jump_written verb form
generic_written word form a b c verb is = absurd (cc is)

rows_are_meant : (word : List ℕ) (form : Jump) (a b c : Look)
    → IfSome (row_for word form a b c) (HasRowText (meant_by word form (generic word a b c)) a b c)
rows_are_meant word form a b c =
    by_verb word form a b c (generic word a b c) (search word a b c) (found_rows_are_written word a b c)
    (generic_written word form a b c)

pub texts_are_rows : TextsAreRows
texts_are_rows = record {
  found = rows_are_found;
  written = found_rows_are_written;
  meant = rows_are_meant;
  apart = rows_are_apart;
  filled = rows_are_filled;
}
