-- A text is cut at its first blanks where it was joined by them.
use Rattle.std.proofs.Common.{◌≡◌, ℕ, suc, ◌+◌, ◌<◌, ◌≤◌, Bool, true, false, not, cond, nat_lt, List, [], ◌∷◌, ◌++◌}
use Rattle.std.proofs.Common.{length, take, drop, Some, None, refl, sym, ap, ◌∙◌, subst, arith, length-append}
use Rattle.std.specs.List.{list_all, prefix_len, position_or_len}
use Rattle.std.proofs.lemmas.Bool.{and_parts, le-ltb, lt-ltb, ltb-true, not-true}
use Rattle.std.proofs.lemmas.Option.{cond_some}
use Rattle.std.proofs.lemmas.List.{take-append-drop}
use Rattle.std.proofs.Math.Seq.{take-append_seam, drop-append_seam}
use Rattle.m51_cells.proofs.Passing.{run_len, stops_at, front_passes}
use Rattle.m51_cells.specs.Blanks.{is_blank}
use Rattle.m51_script.specs.Parts.{cut}
use Rattle.m51_script.specs.Written.{AreBlanks}

-- no byte is a blank
abbrev pub NoBlanks : List ℕ → Type 0
NoBlanks text = list_all (λ b. not (is_blank b)) text ≡ true

all_len : (p : ℕ → Bool) (xs : List ℕ) → list_all p xs ≡ true → prefix_len p xs ≡ length xs
all_len p [] all = refl
all_len p (x ∷ xs) all =
    let parts : (p x ≡ true) × (list_all p xs ≡ true) = and_parts (p x) (list_all p xs) all in
    rw parts.0 (omega (arith, all_len p xs parts.1))

some_step : (x : ℕ) (xs : List ℕ) (b : Bool) (n : ℕ) → is_blank x ≡ b → cond (not b) (1 + n) 0 < length (x ∷ xs)
    → (n < length xs → 0 < length (take (prefix_len is_blank (drop n xs)) (drop n xs)))
    → 0 < length (take (prefix_len is_blank (drop (cond (not b) (1 + n) 0) (x ∷ xs)))
    (drop (cond (not b) (1 + n) 0) (x ∷ xs)))
some_step x xs true n is h more =
    let one : prefix_len is_blank (x ∷ xs) ≡ suc (prefix_len is_blank xs) =
    ap (λ b. cond b (1 + prefix_len is_blank xs) 0) is
    ∙ (let e : 1 + prefix_len is_blank xs ≡ suc (prefix_len is_blank xs) = omega arith in e) in
    subst (λ k. 0 < length (take k (x ∷ xs))) (sym one) (omega arith)
some_step x xs false n is h more =
    subst (λ k. 0 < length (take (prefix_len is_blank (drop k (x ∷ xs))) (drop k (x ∷ xs))))
    (let e : suc n ≡ 1 + n = omega arith in e) (more (omega (arith, h)))

-- a blank is where the part ends
some_blank : (text : List ℕ) → position_or_len is_blank text < length text
    → 0 < length (take (prefix_len is_blank (drop (position_or_len is_blank text) text))
    (drop (position_or_len is_blank text) text))
some_blank [] h = absurd (omega (arith, h))
some_blank (x ∷ xs) h = some_step x xs (is_blank x) (position_or_len is_blank xs) refl h (some_blank xs)

-- a text that is a part, one or more blanks, and the rest
pub record IsCut (text part rest : List ℕ) : Type 0 where
  pub blanks : List ℕ
  pub blank : AreBlanks blanks
  pub is : text ≡ part ++ (blanks ++ rest)

pub cut_sound : (text : List ℕ) (parts : List ℕ × List ℕ) → cut text ≡ Some parts → IsCut text parts.0 parts.1
cut_sound text parts h =
    let n = position_or_len is_blank text in
    let rest = drop n text in
    let m = prefix_len is_blank rest in
    let found : (nat_lt n (length text) ≡ true) × ((take n text, drop m rest) ≡ parts) =
    cond_some (nat_lt n (length text)) (take n text, drop m rest) parts h in
    let here : IsCut text (take n text) (drop m rest) = record {
      blanks = take m rest;
      blank = record { some = some_blank text (ltb-true n (length text) found.0); each = front_passes is_blank rest };
      is = rw (take-append-drop m rest, take-append-drop n text) refl;
    } in
    rw (← found.1) here

blank_first : (blanks rest : List ℕ) → AreBlanks blanks → prefix_len (λ b. not (is_blank b)) (blanks ++ rest) ≡ 0
blank_first [] rest h = absurd (omega (arith, h.some))
blank_first (x ∷ blanks) rest h =
    stops_at (λ b. not (is_blank b)) x (blanks ++ rest)
    (ap not (and_parts (is_blank x) (list_all is_blank blanks) h.each).0)

pub cut_complete : (part blanks rest : List ℕ) → NoBlanks part → AreBlanks blanks → prefix_len is_blank rest ≡ 0
    → cut (part ++ (blanks ++ rest)) ≡ Some (part, rest)
cut_complete part blanks rest lacks blank stops =
    let inside : length part < length (part ++ (blanks ++ rest)) =
    omega (arith, blank.some, length-append part (blanks ++ rest), length-append blanks rest) in
    rw (
      run_len (λ b. not (is_blank b)) part (blanks ++ rest) lacks (blank_first blanks rest blank),
      lt-ltb (length part) (length (part ++ (blanks ++ rest))) inside,
      take-append_seam part (blanks ++ rest),
      drop-append_seam part (blanks ++ rest),
      run_len is_blank blanks rest blank.each stops,
      drop-append_seam blanks rest,
    ) refl

-- a text without blanks is not cut
pub cut_none : (text : List ℕ) → NoBlanks text → cut text ≡ None
cut_none text lacks =
    let n = position_or_len is_blank text in
    let whole : length text ≤ n = omega (arith, all_len (λ b. not (is_blank b)) text lacks) in
    rw (le-ltb n (length text) whole) refl

-- a text that begins with no blank
pub starts : (text rest : List ℕ) → 0 < length text → NoBlanks text → prefix_len is_blank (text ++ rest) ≡ 0
starts [] rest h lacks = absurd (omega (arith, h))
starts (x ∷ text) rest h lacks =
    stops_at is_blank x (text ++ rest)
    (not-true (is_blank x) (and_parts (not (is_blank x)) (list_all (λ b. not (is_blank b)) text) lacks).0)

pub starts_alone : (text : List ℕ) → NoBlanks text → prefix_len is_blank text ≡ 0
starts_alone [] lacks = refl
starts_alone (x ∷ text) lacks =
    stops_at is_blank x text
    (not-true (is_blank x) (and_parts (not (is_blank x)) (list_all (λ b. not (is_blank b)) text) lacks).0)
