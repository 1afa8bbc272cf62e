-- Reserves are read where they are written.
use Rattle.std.proofs.Common.{◌≡◌, ℕ, true, List, [], ◌∷◌, ◌++◌, Some}
use Rattle.std.proofs.Common.{sym, ap, ◌∙◌, subst, arith}
use Rattle.std.specs.Char.{is_ascii_alphanumeric}
use Rattle.std.specs.List.{list_all}
use Rattle.std.proofs.lemmas.Option.{cond_some, same_Some}
use Rattle.std.proofs.lemmas.Bool.Decides.{nat_tests}
use Rattle.m51_cells.specs.declared.cell.Space.{Space}
use Rattle.m51_cells.specs.declared.cell.Space.TheVariants as space
use Rattle.m51_lex.specs.Tokens.{tokens_of}
use Rattle.m51_cells.proofs.Passing.{goes_on, guarded, weaker}
use Rattle.m51_control.specs.declared.control.Control.{Control}
use Rattle.m51_control.specs.declared.control.Control.TheVariants.{Reserve}
use Rattle.m51_cells.specs.Blanks.{is_blank}
use Rattle.m51_control.specs.Parts.{open_parenthesis, close_parenthesis, hyphen, cut_at, single_part, word_in}
use Rattle.m51_control.specs.Reserve.{number_of_tokens, assembler_number, trimmed_number, bounds_of, space_of, is_range}
use Rattle.m51_control.specs.Reserve.{IsRange, until_closing, reserved_memory, reserve}
use Rattle.m51_control.specs.Written.{AreBlanks, WritesWord, WritesNumber}
use Rattle.m51_control.proofs.CutLaws.{cut_sound}
use Rattle.m51_control.proofs.PartLaws.{is_part_byte, is_field_byte, IsPart, part_sound, part_complete, field_bytes}
use Rattle.m51_control.proofs.NameLaws.{word_sound}

digit_byte : (b : ℕ) → is_ascii_alphanumeric b ≡ true → is_part_byte b ≡ true
digit_byte b h = grind (arith, nat_tests, h)

number_part : (part : List ℕ) (number : ℕ) → assembler_number part ≡ Some number → IsPart part
number_part [] number h = absurd (cc)
number_part (b ∷ bs) number h =
    let tests = guarded (list_all is_ascii_alphanumeric (b ∷ bs)) (number_of_tokens (tokens_of (b ∷ bs))) number h in
    record { some = omega arith; each = weaker is_ascii_alphanumeric is_part_byte digit_byte (b ∷ bs) tests.0 }

number_sound : (text : List ℕ) (number : ℕ) → trimmed_number text ≡ Some number → WritesNumber text number
number_sound text number h =
    let step = goes_on assembler_number (single_part text) number h in
    record { part = step.value; surrounds = part_sound text step.value step.found; is = step.goes }

pub number_complete : (text : List ℕ) (number : ℕ) → WritesNumber text number → trimmed_number text ≡ Some number
number_complete text number w =
    rw (part_complete text w.part w.surrounds (number_part w.part number w.is)) w.is

pub number_field : (text : List ℕ) (number : ℕ) → WritesNumber text number → list_all is_field_byte text ≡ true
number_field text number w = field_bytes text w.part w.surrounds (number_part w.part number w.is)

-- two numbers with a hyphen between them
pub record WritesBounds (text : List ℕ) (bounds : ℕ × ℕ) : Type 0 where
  pub lo : List ℕ
  pub hi : List ℕ
  pub low : WritesNumber lo bounds.0
  pub high : WritesNumber hi bounds.1
  pub is : text ≡ lo ++ hyphen ∷ hi

pub bounds_sound : (text : List ℕ) (bounds : ℕ × ℕ) → bounds_of text ≡ Some bounds → WritesBounds text bounds
bounds_sound text bounds h =
    let cut = goes_on _ (cut_at hyphen text) bounds h in
    let low = goes_on _ (trimmed_number cut.value.0) bounds cut.goes in
    let high = goes_on _ (trimmed_number cut.value.1) bounds low.goes in
    let whole : WritesBounds text (low.value, high.value) = record {
      lo = cut.value.0;
      hi = cut.value.1;
      low = number_sound cut.value.0 low.value low.found;
      high = number_sound cut.value.1 high.value high.found;
      is = cut_sound hyphen text cut.value cut.found;
    } in
    subst (λ (b : ℕ × ℕ). WritesBounds text b) (same_Some (low.value, high.value) bounds high.goes) whole

pub closed_sound : (text inside : List ℕ) → until_closing text ≡ Some inside → (blanks : List ℕ) × AreBlanks blanks
    × (text ≡ inside ++ close_parenthesis ∷ blanks)
closed_sound text inside h =
    let cut = goes_on _ (cut_at close_parenthesis text) inside h in
    let tests = cond_some (list_all is_blank cut.value.1) cut.value.0 inside cut.goes in (
      cut.value.1,
      tests.0,
      cut_sound close_parenthesis text cut.value cut.found
          ∙ ap (λ l. l ++ close_parenthesis ∷ cut.value.1) tests.1,
    )

range_fact : (memory : Space) (low high : ℕ) → is_range memory low high ≡ true → IsRange memory low high
range_fact space.Ram low high h = (grind (arith, nat_tests, h), grind (arith, nat_tests, h))
range_fact space.Xram low high h =
    (grind (arith, nat_tests, h), grind (arith, nat_tests, h), grind (arith, nat_tests, h))
range_fact space.Code low high h = absurd (cc)

pub range_test : (memory : Space) (low high : ℕ) → IsRange memory low high → is_range memory low high ≡ true
range_test space.Ram low high h = grind (arith, nat_tests, h.0, h.1)
range_test space.Xram low high h = grind (arith, nat_tests, h.0, h.1, h.2)
range_test space.Code low high h = absurd h

-- what a reserve is written of
pub record WritesReserve (inside : List ℕ) (control : Control) : Type 0 where
  pub text : List ℕ
  pub word : List ℕ
  pub range : List ℕ
  pub blanks : List ℕ
  pub memory : Space
  pub bounds : ℕ × ℕ
  pub is_word : WritesWord text word
  pub is_memory : space_of word ≡ Some memory
  pub is_range : WritesBounds range bounds
  pub fits : IsRange memory bounds.0 bounds.1
  pub blank : AreBlanks blanks
  pub is : inside ≡ text ++ open_parenthesis ∷ (range ++ close_parenthesis ∷ blanks)
  pub says : control ≡ Reserve memory bounds.0 bounds.1

pub record WritesMemory (inside : List ℕ) (memory : Space × List ℕ) : Type 0 where
  pub text : List ℕ
  pub word : List ℕ
  pub blanks : List ℕ
  pub is_word : WritesWord text word
  pub is_memory : space_of word ≡ Some memory.0
  pub blank : AreBlanks blanks
  pub is : inside ≡ text ++ open_parenthesis ∷ (memory.1 ++ close_parenthesis ∷ blanks)

memory_sound : (inside : List ℕ) (memory : Space × List ℕ) → reserved_memory inside ≡ Some memory
    → WritesMemory inside memory
memory_sound inside memory h =
    let cut = goes_on _ (cut_at open_parenthesis inside) memory h in
    let word = goes_on _ (word_in cut.value.0) memory cut.goes in
    let trimmed_name = goes_on _ (space_of word.value) memory word.goes in
    let range = goes_on _ (until_closing cut.value.1) memory trimmed_name.goes in
    let after = closed_sound cut.value.1 range.value range.found in
    let whole : WritesMemory inside (trimmed_name.value, range.value) = record {
      text = cut.value.0;
      word = word.value;
      blanks = after.0;
      is_word = word_sound cut.value.0 word.value word.found;
      is_memory = trimmed_name.found;
      blank = after.1;
      is = cut_sound open_parenthesis inside cut.value cut.found
          ∙ ap (λ l. cut.value.0 ++ open_parenthesis ∷ l) after.2;
    } in
    subst (λ (m : Space × List ℕ). WritesMemory inside m)
    (same_Some (trimmed_name.value, range.value) memory range.goes) whole

pub reserve_sound : (inside : List ℕ) (control : Control) → reserve inside ≡ Some control → WritesReserve inside control
reserve_sound inside control h =
    let memory = goes_on _ (reserved_memory inside) control h in
    let bounds = goes_on _ (bounds_of memory.value.1) control memory.goes in
    let tests =
    cond_some (is_range memory.value.0 bounds.value.0 bounds.value.1)
    (Reserve memory.value.0 bounds.value.0 bounds.value.1) control bounds.goes in
    let written = memory_sound inside memory.value memory.found in
    record {
      text = written.text;
      word = written.word;
      range = memory.value.1;
      blanks = written.blanks;
      memory = memory.value.0;
      bounds = bounds.value;
      is_word = written.is_word;
      is_memory = written.is_memory;
      is_range = bounds_sound memory.value.1 bounds.value bounds.found;
      fits = range_fact memory.value.0 bounds.value.0 bounds.value.1 tests.0;
      blank = written.blank;
      is = written.is;
      says = sym tests.1;
    }
