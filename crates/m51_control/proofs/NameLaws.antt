-- Names are read where they are written.
use Rattle.std.proofs.Common.{◌≡◌, ℕ, ◌<◌, Bool, true, false, not, ◌&&◌, ◌||◌, ◌==◌, cond, nat_lt, nat_le, List, []}
use Rattle.std.proofs.Common.{◌∷◌, length, map, Option, Some, None, refl, sym, ap, ◌∙◌, subst, arith}
use Rattle.std.specs.Char.{is_ascii_digit, digit_value as value_of, to_ascii_uppercase}
use Rattle.std.specs.List.{list_all, slice_split, join_with_byte}
use Rattle.std.proofs.lemmas.Option.{cond_some}
use Rattle.std.proofs.lemmas.List.Splits.{join_with_byte-slice_split, length-slice_split}
use Rattle.std.proofs.lemmas.Bool.Decides.{nat_tests}
use Rattle.std.proofs.lemmas.Bool.{and_from, and_parts}
use Rattle.m51_cells.specs.Hex.{digit_value}
use Rattle.m51_cells.specs.Name.{is_name_byte, is_name, name_of}
use Rattle.m51_cells.proofs.Passing.{goes_on, guarded, pass_append, weaker}
use Rattle.m51_control.specs.declared.naming.Role.{Role}
use Rattle.m51_control.specs.declared.naming.Role.TheVariants as role
use Rattle.m51_control.specs.Parts.{at_sign, comma, is_sign, single_part, word_in}
use Rattle.m51_control.specs.Naming.{hex4_value, absolute_title, name_as, trimmed_name, all_named, names_in}
use Rattle.m51_control.specs.Written.{WritesName, AreNames, WritesNames, WritesWord}
use Rattle.m51_control.proofs.CutLaws.{split_complete, split_none}
use Rattle.m51_control.proofs.PartLaws.{is_part_byte, is_field_byte, IsPart, part_sound, part_complete, field_bytes}
use Rattle.m51_control.proofs.PartLaws.{field_lacks}

name_byte : (b : ℕ) → is_name_byte b ≡ true → is_part_byte b ≡ true
name_byte b h = ap (λ t. t || b == at_sign) h

-- a written name is a part
pub name_part : (part name : List ℕ) → name_of part ≡ Some name → IsPart part
name_part [] name h = absurd (cc)
name_part (b ∷ bs) name h =
    let tests : (is_name (b ∷ bs) ≡ true) × (map to_ascii_uppercase (b ∷ bs) ≡ name) =
    cond_some (is_name (b ∷ bs)) (map to_ascii_uppercase (b ∷ bs)) name h in
    let bytes : list_all is_name_byte (b ∷ bs) ≡ true =
    (and_parts (not (is_ascii_digit b) && nat_le (length (b ∷ bs)) 31) (list_all is_name_byte (b ∷ bs)) tests.0).1
    in
    record { some = omega arith; each = weaker is_name_byte is_part_byte name_byte (b ∷ bs) bytes }

hex_byte : (b value : ℕ) → digit_value b ≡ Some value → is_part_byte b ≡ true
hex_byte b value h =
    let test : nat_lt (value_of b) 16 ≡ true = (guarded (nat_lt (value_of b) 16) (Some (value_of b)) value h).0 in
    grind (arith, nat_tests, test)

four_pass : (p : ℕ → Bool) (a b c d : ℕ) → p a ≡ true → p b ≡ true → p c ≡ true → p d ≡ true
    → list_all p (a ∷ b ∷ c ∷ d ∷ []) ≡ true
four_pass p a b c d h i j k = and_from (p a) _ h (and_from (p b) _ i (and_from (p c) _ j (and_from (p d) true k refl)))

hex4_bytes : (a b c d value : ℕ) → hex4_value a b c d ≡ Some value → list_all is_part_byte (a ∷ b ∷ c ∷ d ∷ []) ≡ true
hex4_bytes a b c d value h =
    let one = goes_on _ (digit_value a) value h in
    let two = goes_on _ (digit_value b) value one.goes in
    let three = goes_on _ (digit_value c) value two.goes in
    let four = goes_on _ (digit_value d) value three.goes in
    four_pass is_part_byte a b c d (hex_byte a one.value one.found) (hex_byte b two.value two.found)
    (hex_byte c three.value three.found) (hex_byte d four.value four.found)

at_byte : (sign : ℕ) → (sign == at_sign) ≡ true → is_part_byte sign ≡ true
at_byte sign h = grind (arith, nat_tests)

title_part : (part name : List ℕ) → absolute_title part ≡ Some name → IsPart part
title_part [] name h = absurd (cc)
title_part (s ∷ []) name h = absurd (cc)
title_part (s ∷ a ∷ []) name h = absurd (cc)
title_part (s ∷ a ∷ b ∷ []) name h = absurd (cc)
title_part (s ∷ a ∷ b ∷ c ∷ []) name h = absurd (cc)
title_part (s ∷ a ∷ b ∷ c ∷ d ∷ []) name h =
    let tests = guarded (s == at_sign) _ name h in
    let digits = goes_on _ (hex4_value a b c d) name tests.1 in
    record {
      some = omega arith;
      each =
          and_from (is_part_byte s) (list_all is_part_byte (a ∷ b ∷ c ∷ d ∷ [])) (at_byte s tests.0)
          (hex4_bytes a b c d digits.value digits.found);
    }
title_part (s ∷ a ∷ b ∷ c ∷ d ∷ e ∷ more) name h = absurd (cc)

unit_step : (s : ℕ) (digits name : List ℕ) (t : Bool) → cond t (absolute_title (s ∷ digits)) (name_of (s ∷ digits))
    ≡ Some name → IsPart (s ∷ digits)
unit_step s digits name true h = title_part (s ∷ digits) name h
unit_step s digits name false h = name_part (s ∷ digits) name h

-- what names a unit or a segment is a part
pub named_part : (r : Role) (part name : List ℕ) → name_as r part ≡ Some name → IsPart part
named_part role.Unit [] name h = absurd (cc)
named_part role.Unit (s ∷ digits) name h = unit_step s digits name (s == at_sign) h
named_part role.Segment part name h = name_part part name h

pub name_sound : (r : Role) (text name : List ℕ) → trimmed_name r text ≡ Some name → WritesName r text name
name_sound r text name h =
    let step = goes_on (name_as r) (single_part text) name h in
    record { part = step.value; surrounds = part_sound text step.value step.found; is = step.goes }

pub name_complete : (r : Role) (text name : List ℕ) → WritesName r text name → trimmed_name r text ≡ Some name
name_complete r text name w = rw (part_complete text w.part w.surrounds (named_part r w.part name w.is)) w.is

pub name_field : (r : Role) (text name : List ℕ) → WritesName r text name → list_all is_field_byte text ≡ true
name_field r text name w = field_bytes text w.part w.surrounds (named_part r w.part name w.is)

pub word_sound : (text word : List ℕ) → word_in text ≡ Some word → WritesWord text word
word_sound text word h =
    let step = goes_on name_of (single_part text) word h in
    record { part = step.value; surrounds = part_sound text step.value step.found; is = step.goes }

pub word_complete : (text word : List ℕ) → WritesWord text word → word_in text ≡ Some word
word_complete text word w = rw (part_complete text w.part w.surrounds (name_part w.part word w.is)) w.is

pub word_field : (text word : List ℕ) → WritesWord text word → list_all is_field_byte text ≡ true
word_field text word w = field_bytes text w.part w.surrounds (name_part w.part word w.is)

abbrev each_of : Role → List (List ℕ) → Option (List (List ℕ)) → Type 0
each_of r texts None = Unit {0}
each_of r texts (Some names) = AreNames r texts names

-- names before others, where there are others
all_step : (r : Role) (text : List ℕ) (texts names : List (List ℕ))
    → ((more : List (List ℕ)) → all_named r texts ≡ Some more → AreNames r texts more) → all_named r (text ∷ texts)
    ≡ Some names → AreNames r (text ∷ texts) names
all_step r text texts names rest h =
    let one = goes_on _ (trimmed_name r text) names h in
    let two = goes_on _ (all_named r texts) names one.goes in
    let is : Some (one.value ∷ two.value) ≡ Some names = two.goes in
    subst (λ o. each_of r (text ∷ texts) o) is (name_sound r text one.value one.found, rest two.value two.found)

pub all_sound : (r : Role) (texts names : List (List ℕ)) → all_named r texts ≡ Some names → AreNames r texts names
all_sound r [] names h = subst (λ o. each_of r [] o) h tt
all_sound r (text ∷ texts) names h = all_step r text texts names (all_sound r texts) h

pub all_complete : (r : Role) (texts names : List (List ℕ)) → AreNames r texts names → all_named r texts ≡ Some names
all_complete r [] [] h = refl
all_complete r [] (name ∷ names) h = absurd h
all_complete r (text ∷ texts) [] h = absurd h
all_complete r (text ∷ texts) (name ∷ names) h =
    rw (name_complete r text name h.0, all_complete r texts names h.1) refl

pub names_sound : (r : Role) (text : List ℕ) (names : List (List ℕ)) → names_in r text ≡ Some names
    → WritesNames r text names
names_sound r text names h = record {
  texts = slice_split (is_sign comma) text;
  some = omega (arith, length-slice_split (is_sign comma) text);
  is = sym (join_with_byte-slice_split comma text);
  each = all_sound r (slice_split (is_sign comma) text) names h;
}

split_again : (r : Role) (texts names : List (List ℕ)) → 0 < length texts → AreNames r texts names
    → slice_split (is_sign comma) (join_with_byte comma texts) ≡ texts
split_again r [] names some h = absurd (omega (arith, some))
split_again r (text ∷ texts) [] some h = absurd h
split_again r (text ∷ []) (name ∷ names) some h =
    split_none comma text (field_lacks comma refl text (name_field r text name h.0))
split_again r (text ∷ next ∷ texts) (name ∷ names) some h =
    split_complete comma text (join_with_byte comma (next ∷ texts))
    (field_lacks comma refl text (name_field r text name h.0))
    ∙ ap (λ l. text ∷ l) (split_again r (next ∷ texts) names (omega arith) h.1)

pub names_complete : (r : Role) (text : List ℕ) (names : List (List ℕ)) → WritesNames r text names → names_in r text
    ≡ Some names
names_complete r text names w =
    ap (names_in r) w.is
    ∙ ap (all_named r) (split_again r w.texts names w.some w.each)
    ∙ all_complete r w.texts names w.each

-- the bytes of names with commas between them
abbrev pub is_list_byte : ℕ → Bool
is_list_byte b = is_field_byte b || is_sign comma b

list_byte : (b : ℕ) → is_field_byte b ≡ true → is_list_byte b ≡ true
list_byte b h = ap (λ t. t || is_sign comma b) h

joined_bytes : (r : Role) (texts names : List (List ℕ)) → AreNames r texts names
    → list_all is_list_byte (join_with_byte comma texts) ≡ true
joined_bytes r [] names h = refl
joined_bytes r (text ∷ texts) [] h = absurd h
joined_bytes r (text ∷ []) (name ∷ names) h =
    weaker is_field_byte is_list_byte list_byte text (name_field r text name h.0)
joined_bytes r (text ∷ next ∷ texts) (name ∷ names) h =
    pass_append is_list_byte text (comma ∷ join_with_byte comma (next ∷ texts))
    (weaker is_field_byte is_list_byte list_byte text (name_field r text name h.0))
    (joined_bytes r (next ∷ texts) names h.1)

pub names_bytes : (r : Role) (text : List ℕ) (names : List (List ℕ)) → WritesNames r text names
    → list_all is_list_byte text ≡ true
names_bytes r text names w = ap (list_all is_list_byte) w.is ∙ joined_bytes r w.texts names w.each
