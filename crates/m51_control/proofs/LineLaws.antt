-- A line says exactly the control that is written in it.
use Rattle.std.proofs.Common.{◌≡◌, ◌↔◌, ℕ, suc, ◌+◌, ◌-◌, ◌<◌, Bool, true, false, ◌&&◌, cond, nat_lt, List, [], ◌∷◌}
use Rattle.std.proofs.Common.{◌++◌, length, take, drop, get_or, Some, None, refl, sym, ap, ◌∙◌, subst, arith}
use Rattle.std.proofs.Common.{length-append, slice_index}
use Rattle.std.specs.Option.{option_and_then}
use Rattle.std.specs.List.{list_all}
use Rattle.std.proofs.lemmas.Option.{cond_some, same_Some}
use Rattle.std.proofs.lemmas.List.{take-append-drop}
use Rattle.std.proofs.lemmas.Bool.{eq-eqb, and_parts, eqb-true, le-ltb, lt-ltb, ltb-false, ltb-true}
use Rattle.std.proofs.Math.Seq.{take-append_seam, drop-cons, drop-length, get_or-append_seam}
use Rattle.m51_cells.specs.Name.{name_of}
use Rattle.m51_cells.proofs.Passing.{goes_on, pass_append, weaker}
use Rattle.m51_control.specs.declared.control.Control.{Control}
use Rattle.m51_cells.specs.Blanks.{is_blank}
use Rattle.m51_cells.specs.declared.limits.TheConstants.{MOST_LINE_BYTES}
use Rattle.m51_control.specs.Parts.{open_parenthesis, close_parenthesis, is_sign, cut_at, before_last, before_blanks}
use Rattle.m51_control.specs.Grammar.{by_word, call_of, control_of}
use Rattle.m51_control.specs.Written.{AreBlanks, SpellsLine}
use Rattle.m51_control.proofs.CutLaws.{Lacks, cut_sound, cut_complete}
use Rattle.m51_control.proofs.PartLaws.{is_part_byte, is_field_byte, before_sound, before_complete, field_lacks}
use Rattle.m51_control.proofs.PartLaws.{blank_field, part_field}
use Rattle.m51_control.proofs.NameLaws.{name_part}
use Rattle.m51_control.proofs.FormLaws.{says_sound, says_complete}

last_is : (sign : ℕ) (text : List ℕ) (at : ℕ) → at + 1 ≡ length text → get_or text at 0 ≡ sign → text
    ≡ take at text ++ sign ∷ []
last_is sign text at end is =
    let inside : at < length text = omega (arith, end) in
    let next : suc at ≡ length text = omega (arith, end) in
    sym (take-append-drop at text)
    ∙ ap (λ l. take at text ++ l)
    (drop-cons text at 0 inside ∙ ap (λ b. b ∷ drop (suc at) text) is ∙ ap (λ n. sign ∷ drop n text) next
    ∙ ap (λ l. sign ∷ l) (drop-length text))

last_sound : (sign : ℕ) (text front : List ℕ) → before_last sign text ≡ Some front → text ≡ front ++ sign ∷ []
last_sound sign text front h =
    let at = length text - 1 in
    let found = cond_some (nat_lt 0 (length text) && is_sign sign (slice_index text at)) (take at text) front h in
    let tests = and_parts (nat_lt 0 (length text)) (is_sign sign (slice_index text at)) found.0 in
    let some : 0 < length text = ltb-true 0 (length text) tests.0 in
    last_is sign text at (omega (arith, some)) (eqb-true (slice_index text at) sign tests.1)
    ∙ ap (λ l. l ++ sign ∷ []) found.1

last_complete : (sign : ℕ) (front : List ℕ) → before_last sign (front ++ sign ∷ []) ≡ Some front
last_complete sign front =
    let text = front ++ sign ∷ [] in
    let len : length text - 1 ≡ length front = omega (arith, length-append front (sign ∷ [])) in
    let some : nat_lt 0 (length text) ≡ true =
    lt-ltb 0 (length text) (omega (arith, length-append front (sign ∷ []))) in
    rw (
      len,
      some,
      eq-eqb (slice_index text (length front)) sign (get_or-append_seam front sign [] 0),
      take-append_seam front (sign ∷ []),
    ) refl

-- a word, and the text in the parentheses after it
record WritesCall (line : List ℕ) (call : List ℕ × List ℕ) : Type 0 where
  pub part : List ℕ
  pub blanks : List ℕ
  pub is_word : name_of part ≡ Some call.0
  pub blank : AreBlanks blanks
  pub is : line ≡ part ++ blanks ++ open_parenthesis ∷ (call.1 ++ close_parenthesis ∷ [])

call_sound : (line : List ℕ) (call : List ℕ × List ℕ) → call_of line ≡ Some call → WritesCall line call
call_sound line call h =
    let cut = goes_on _ (cut_at open_parenthesis line) call h in
    let part = goes_on _ (before_blanks cut.value.0) call cut.goes in
    let word = goes_on _ (name_of part.value) call part.goes in
    let inside = goes_on _ (before_last close_parenthesis cut.value.1) call word.goes in
    let front = before_sound cut.value.0 part.value part.found in
    let whole : WritesCall line (word.value, inside.value) = record {
      part = part.value;
      blanks = front.0;
      is_word = word.found;
      blank = front.1;
      is = cut_sound open_parenthesis line cut.value cut.found
          ∙ ap (λ l. l ++ open_parenthesis ∷ cut.value.1) front.2
          ∙ ap (λ l. part.value ++ front.0 ++ open_parenthesis ∷ l)
          (last_sound close_parenthesis cut.value.1 inside.value inside.found);
    } in
    subst (λ (c : List ℕ × List ℕ). WritesCall line c) (same_Some (word.value, inside.value) call inside.goes) whole

long_or_not : (control : Control) (line : List ℕ) (t : Bool) → nat_lt MOST_LINE_BYTES (length line) ≡ t
    → cond t None (option_and_then (λ (call : List ℕ × List ℕ). by_word call.0 call.1) (call_of line)) ≡ Some control
    → SpellsLine line control
long_or_not control line true long h = absurd (cc)
long_or_not control line false long h =
    let call = goes_on _ (call_of line) control h in
    let w = call_sound line call.value call.found in
    record {
      short = ltb-false MOST_LINE_BYTES (length line) long;
      part = w.part;
      word = call.value.0;
      blanks = w.blanks;
      inside = call.value.1;
      is_word = w.is_word;
      blank = w.blank;
      is = w.is;
      says = says_sound call.value.0 call.value.1 control call.goes;
    }

line_complete : (line : List ℕ) (control : Control) → SpellsLine line control → control_of line ≡ Some control
line_complete line control w =
    let front = w.part ++ w.blanks in
    let each : list_all is_part_byte w.part ≡ true = (name_part w.part w.word w.is_word).each in
    let lacks : Lacks open_parenthesis front =
    field_lacks open_parenthesis refl front
    (pass_append is_field_byte w.part w.blanks (weaker is_part_byte is_field_byte part_field w.part each)
    (weaker is_blank is_field_byte blank_field w.blanks w.blank)) in
    rw (
      le-ltb MOST_LINE_BYTES (length line) w.short,
      w.is,
      cut_complete open_parenthesis front (w.inside ++ close_parenthesis ∷ []) lacks,
      before_complete w.part w.blanks each w.blank,
      w.is_word,
      last_complete close_parenthesis w.inside,
    )
    (says_complete w.word w.inside control w.says)

-- what is read of a line is what is written in it
pub line_law : (line : List ℕ) (control : Control) → (control_of line ≡ Some control) ↔ SpellsLine line control
line_law line control =
    (long_or_not control line (nat_lt MOST_LINE_BYTES (length line)) refl, line_complete line control)
