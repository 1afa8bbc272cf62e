-- A number is read exactly if digits write it.
use Rattle.std.proofs.Common.{◌≡◌, ℕ, ◌+◌, ◌*◌, ◌≤◌, Bool, true, false, not, ◌==◌, cond, nat_lt, List, [], ◌∷◌}
use Rattle.std.proofs.Common.{length, Option, Some, None, refl, arith}
use Rattle.std.specs.Char.{digit_value}
use Rattle.std.specs.List.{list_all}
use Rattle.std.proofs.lemmas.Bool.{and_from, le-ltb, ltb-false}
use Rattle.std.proofs.lemmas.Bool.Decides.{nat_tests}
use Rattle.m51_cells.specs.Blanks.{is_blank}
use Rattle.m51_lex.specs.Number.{value_in}
use Rattle.m51_script.specs.Digits.{number_in_base}
use Rattle.m51_script.specs.Written.{WritesNumber}
use Rattle.m51_cells.proofs.Passing.{guarded}
use Rattle.m51_cells.proofs.Small.{not_zero, positive}
use Rattle.m51_script.proofs.CutLaws.{NoBlanks}

number_parts : (a b : Bool) (v : Option ℕ) (n : ℕ) → cond a None (cond b None v) ≡ Some n
    → (a ≡ false) × (b ≡ false) × (v ≡ Some n)
number_parts true b v n h = absurd (cc)
number_parts false true v n h = absurd (cc)
number_parts false false v n h = (refl, refl, h)

pub number_sound : (base most : ℕ) (text : List ℕ) (n : ℕ) → number_in_base base most text ≡ Some n
    → WritesNumber base most text n
number_sound base most text n h =
    let p = number_parts (length text == 0) (nat_lt most (length text)) (value_in base 0 text) n h in
    record { some = positive (length text) p.0; few = ltb-false most (length text) p.1; is = p.2 }

pub number_complete : {base most n : ℕ} {text : List ℕ} → WritesNumber base most text n
    → number_in_base base most text ≡ Some n
number_complete {base} {most} {n} {text} w = rw (not_zero (length text) w.some, le-ltb most (length text) w.few) w.is

blank_or_not : (c : ℕ) → nat_lt (digit_value c) 16 ≡ true → not (is_blank c) ≡ true
blank_or_not c h = grind (arith, nat_tests, h)

wider : (d base : ℕ) → base ≤ 16 → nat_lt d base ≡ true → nat_lt d 16 ≡ true
wider d base h k = grind (arith, nat_tests)

digits_lack : (base v : ℕ) (text : List ℕ) (n : ℕ) → base ≤ 16 → value_in base v text ≡ Some n → NoBlanks text
digits_lack base v [] n small h = refl
digits_lack base v (c ∷ text) n small h =
    let found = guarded (nat_lt (digit_value c) base) (value_in base (v * base + digit_value c) text) n h in
    and_from (not (is_blank c)) (list_all (λ b. not (is_blank b)) text)
    (blank_or_not c (wider (digit_value c) base small found.0))
    (digits_lack base (v * base + digit_value c) text n small found.1)

-- no digit is a blank
pub number_lacks : {base most n : ℕ} {text : List ℕ} → base ≤ 16 → WritesNumber base most text n → NoBlanks text
number_lacks {base} {n = n} {text = text} small w = digits_lack base 0 text n small w.is
