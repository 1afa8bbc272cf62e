-- Names in upper case.
use Rattle.std.proofs.Common.{◌≡◌, ◌∙◌, ℕ, nat_le, Bool, true, false, not, ◌&&◌, cond, List, [], ◌∷◌, length, map, Some}
use Rattle.std.proofs.Common.{None, refl, ap, subst, arith}
use Rattle.std.specs.Char.{is_ascii_digit, to_ascii_uppercase}
use Rattle.std.specs.List.{list_all}
use Rattle.std.proofs.lemmas.Bool.{and_from, and_parts, not-true}
use Rattle.std.proofs.lemmas.Bool.Decides.{nat_tests}
use Rattle.std.proofs.lemmas.List.{length-map}
use Rattle.std.proofs.lemmas.Option.{cond_some}
use Rattle.std.proofs.lemmas.Str.Ascii.{uppercase-uppercase}
use Rattle.m51_cells.specs.Name.{is_name_byte, is_name, name_of, IsWritten}

-- a text in upper case stays as it is
pub upper_again : (text : List ℕ) → map to_ascii_uppercase (map to_ascii_uppercase text) ≡ map to_ascii_uppercase text
upper_again [] = refl
upper_again (b ∷ bs) = ap (λ c. c ∷ map to_ascii_uppercase (map to_ascii_uppercase bs)) (uppercase-uppercase b)
    ∙ ap (λ l. to_ascii_uppercase b ∷ l) (upper_again bs)

-- the byte of a name stays one
pub upper_name_byte : (b : ℕ) → is_name_byte b ≡ true → is_name_byte (to_ascii_uppercase b) ≡ true
upper_name_byte b h = grind (arith, nat_tests)

-- a digit, and no other byte, becomes one
pub upper_digit : (b : ℕ) → is_ascii_digit (to_ascii_uppercase b) ≡ is_ascii_digit b
upper_digit b = grind (arith, nat_tests)

-- so do the bytes of a name
pub upper_name_bytes : (text : List ℕ) → list_all is_name_byte text ≡ true
    → list_all is_name_byte (map to_ascii_uppercase text) ≡ true
upper_name_bytes [] h = refl
upper_name_bytes (b ∷ text) h =
    let parts : (is_name_byte b ≡ true) × (list_all is_name_byte text ≡ true) =
    and_parts (is_name_byte b) (list_all is_name_byte text) h in
    and_from (is_name_byte (to_ascii_uppercase b)) (list_all is_name_byte (map to_ascii_uppercase text))
    (upper_name_byte b parts.0) (upper_name_bytes text parts.1)

-- the three tests of a name, apart
pub record IsNameText (first : ℕ) (more : List ℕ) : Type 0 where
  pub digit : is_ascii_digit first ≡ false
  pub most : nat_le (length (first ∷ more)) 31 ≡ true
  pub bytes : list_all is_name_byte (first ∷ more) ≡ true

pub name_parts : (first : ℕ) (more : List ℕ) → is_name (first ∷ more) ≡ true → IsNameText first more
name_parts first more h =
    let all =
    and_parts (not (is_ascii_digit first) && nat_le (length (first ∷ more)) 31)
    (list_all is_name_byte (first ∷ more)) h in
    let front = and_parts (not (is_ascii_digit first)) (nat_le (length (first ∷ more)) 31) all.0 in
    record { digit = not-true (is_ascii_digit first) front.0; most = front.1; bytes = all.1 }

pub name_from_parts : (first : ℕ) (more : List ℕ) → IsNameText first more → is_name (first ∷ more) ≡ true
name_from_parts first more h =
    and_from (not (is_ascii_digit first) && nat_le (length (first ∷ more)) 31) (list_all is_name_byte (first ∷ more))
    (and_from (not (is_ascii_digit first)) (nat_le (length (first ∷ more)) 31) (ap not h.digit) h.most) h.bytes

-- a name in upper case is a name
pub name_upper : (text : List ℕ) → is_name text ≡ true → is_name (map to_ascii_uppercase text) ≡ true
name_upper [] h = h
name_upper (b ∷ text) h =
    let parts = name_parts b text h in
    name_from_parts (to_ascii_uppercase b) (map to_ascii_uppercase text) (record {
      digit = upper_digit b ∙ parts.digit;
      most = rw (length-map (b ∷ text) to_ascii_uppercase) parts.most;
      bytes = upper_name_bytes (b ∷ text) parts.bytes;
    })

-- the name of a text that writes one
pub name_is : (text : List ℕ) → is_name text ≡ true → name_of text ≡ Some (map to_ascii_uppercase text)
name_is text h = ap (λ (b : Bool). cond b (Some (map to_ascii_uppercase text)) None) h

-- a text that has a name writes one
pub named_is_name : (text name : List ℕ) → name_of text ≡ Some name → is_name text ≡ true
named_is_name text name h = (cond_some (is_name text) (map to_ascii_uppercase text) name h).0

-- the name that a text writes, writes itself
pub name_written : (text name : List ℕ) → name_of text ≡ Some name → IsWritten name
name_written text name h =
    let parts = cond_some (is_name text) (map to_ascii_uppercase text) name h in
    let itself : IsWritten (map to_ascii_uppercase text) =
    name_is (map to_ascii_uppercase text) (name_upper text parts.0) ∙ ap (λ n. Some n) (upper_again text) in
    subst (λ n. IsWritten n) parts.1 itself
