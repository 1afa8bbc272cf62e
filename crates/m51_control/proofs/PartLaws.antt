-- The part of a text, with blanks before and after it.
use Rattle.std.proofs.Common.{◌≡◌, ℕ, ◌<◌, Bool, true, false, not, ◌||◌, ◌==◌, List, [], ◌∷◌, ◌++◌, length, take}
use Rattle.std.proofs.Common.{drop, Some, refl, sym, ap, ◌∙◌, arith}
use Rattle.std.specs.List.{list_all, prefix_len, position_or_len}
use Rattle.std.proofs.lemmas.Option.{cond_some}
use Rattle.std.proofs.Math.Seq.{take-append_seam, drop-append_seam}
use Rattle.std.proofs.lemmas.List.{take-append-drop}
use Rattle.std.proofs.lemmas.Bool.Decides.{nat_tests}
use Rattle.std.proofs.lemmas.Bool.{and_parts, or_right}
use Rattle.m51_cells.specs.Name.{is_name_byte}
use Rattle.m51_cells.proofs.Passing.{front_passes, pass_append, run_len, stops_at, weaker}
use Rattle.m51_cells.specs.Blanks.{is_blank}
use Rattle.m51_control.specs.Parts.{at_sign, is_sign, before_blanks, single_part}
use Rattle.m51_control.specs.Written.{AreBlanks, Surrounds}
use Rattle.m51_control.proofs.CutLaws.{Lacks}

-- a byte of a word, name, title or number
abbrev pub is_part_byte : ℕ → Bool
is_part_byte b = is_name_byte b || b == at_sign

-- a byte of such a part or of the blanks round it
abbrev pub is_field_byte : ℕ → Bool
is_field_byte b = is_blank b || is_part_byte b

-- one or more bytes of a part
pub record IsPart (part : List ℕ) : Type 0 where
  pub some : 0 < length part
  pub each : list_all is_part_byte part ≡ true

no_blank : (b : ℕ) → is_part_byte b ≡ true → is_blank b ≡ false
no_blank b h = grind (arith, nat_tests)

not_blank : (b : ℕ) → is_part_byte b ≡ true → not (is_blank b) ≡ true
not_blank b h = ap not (no_blank b h)

-- what a text holds that is cut into blanks, a part and blanks
pub part_sound : (text part : List ℕ) → single_part text ≡ Some part → Surrounds part text
part_sound text part h =
    let n = prefix_len is_blank text in
    let rest = drop n text in
    let m = position_or_len is_blank rest in
    let found : (list_all is_blank (drop m rest) ≡ true) × (take m rest ≡ part) =
    cond_some (list_all is_blank (drop m rest)) (take m rest) part h in
    record {
      before = take n text;
      after = drop m rest;
      blank_before = front_passes is_blank text;
      blank_after = found.0;
      is = sym (take-append-drop n text)
          ∙ ap (λ l. take n text ++ l) (sym (take-append-drop m rest) ∙ ap (λ l. l ++ drop m rest) found.1);
    }

-- a part that comes first, with blanks after it
pub before_sound : (text part : List ℕ) → before_blanks text ≡ Some part → (blanks : List ℕ) × AreBlanks blanks
    × (text ≡ part ++ blanks)
before_sound text part h =
    let m = position_or_len is_blank text in
    let found : (list_all is_blank (drop m text) ≡ true) × (take m text ≡ part) =
    cond_some (list_all is_blank (drop m text)) (take m text) part h in
    (drop m text, found.0, sym (take-append-drop m text) ∙ ap (λ l. l ++ drop m text) found.1)

stops_blank : (blanks : List ℕ) → AreBlanks blanks → prefix_len (λ b. not (is_blank b)) blanks ≡ 0
stops_blank [] all = refl
stops_blank (b ∷ blanks) all =
    stops_at (λ b. not (is_blank b)) b blanks (ap not (and_parts (is_blank b) (list_all is_blank blanks) all).0)

pub before_complete : (part blanks : List ℕ) → list_all is_part_byte part ≡ true → AreBlanks blanks
    → before_blanks (part ++ blanks) ≡ Some part
before_complete part blanks each blank =
    rw (
      run_len (λ b. not (is_blank b)) part blanks (weaker is_part_byte (λ b. not (is_blank b)) not_blank part each)
          (stops_blank blanks blank),
      drop-append_seam part blanks,
      blank,
      take-append_seam part blanks,
    ) refl

stops_part : (part rest : List ℕ) → IsPart part → prefix_len is_blank (part ++ rest) ≡ 0
stops_part [] rest h = absurd (omega (arith, h.some))
stops_part (b ∷ part) rest h =
    stops_at is_blank b (part ++ rest) (no_blank b (and_parts (is_part_byte b) (list_all is_part_byte part) h.each).0)

-- the part of a text that was made of blanks, the part and blanks
pub part_complete : (text part : List ℕ) → Surrounds part text → IsPart part → single_part text ≡ Some part
part_complete text part s h =
    let rest = part ++ s.after in
    rw (s.is, run_len is_blank s.before rest s.blank_before (stops_part part s.after h), drop-append_seam s.before rest)
    (before_complete part s.after h.each s.blank_after)

pub blank_field : (b : ℕ) → is_blank b ≡ true → is_field_byte b ≡ true
blank_field b h = ap (λ t. t || is_part_byte b) h

pub part_field : (b : ℕ) → is_part_byte b ≡ true → is_field_byte b ≡ true
part_field b h = or_right (is_blank b) (is_part_byte b) h

-- the bytes of a text that is a part between blanks
pub field_bytes : (text part : List ℕ) → Surrounds part text → IsPart part → list_all is_field_byte text ≡ true
field_bytes text part s h =
    ap (list_all is_field_byte) s.is
    ∙ pass_append is_field_byte s.before (part ++ s.after)
    (weaker is_blank is_field_byte blank_field s.before s.blank_before)
    (pass_append is_field_byte part s.after (weaker is_part_byte is_field_byte part_field part h.each)
    (weaker is_blank is_field_byte blank_field s.after s.blank_after))

differs : (sign : ℕ) → is_field_byte sign ≡ false → (b : ℕ) → is_field_byte b ≡ true → (t : Bool) → is_sign sign b ≡ t
    → not t ≡ true
differs sign other b h true same =
    let is : b ≡ sign = grind (arith, nat_tests, same) in
    absurd (let k : true ≡ false = sym h ∙ ap is_field_byte is ∙ other in cc)
differs sign other b h false same = refl

-- such bytes are none of the signs
pub field_lacks : (sign : ℕ) → is_field_byte sign ≡ false → (text : List ℕ) → list_all is_field_byte text ≡ true
    → Lacks sign text
field_lacks sign other text each =
    weaker is_field_byte (λ b. not (is_sign sign b)) (λ b h. differs sign other b h (is_sign sign b) refl) text each
