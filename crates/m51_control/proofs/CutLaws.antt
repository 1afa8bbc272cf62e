-- A text is cut at a sign where it was joined by it.
use Rattle.std.proofs.Common.{◌≡◌, ℕ, ◌+◌, ◌<◌, ◌≤◌, Bool, true, false, not, cond, nat_lt, List, [], ◌∷◌, ◌++◌, length}
use Rattle.std.proofs.Common.{take, drop, Some, refl, sym, subst, ap, ◌∙◌, arith, length-append}
use Rattle.std.specs.List.{list_all, position_or_len, before_first, after_first, slice_split, onto_first}
use Rattle.std.specs.List.{join_with_byte}
use Rattle.std.proofs.lemmas.Option.{cond_some}
use Rattle.std.proofs.lemmas.List.Splits.{join_with_byte-slice_split, length-slice_split, slice_split_first}
use Rattle.std.proofs.Math.Seq.{take-append_seam, drop-append-add}
use Rattle.std.proofs.lemmas.Bool.{eq-eqb, and_parts, lt-ltb, ltb-true}
use Rattle.m51_cells.proofs.Passing.{run_len, stops_at}
use Rattle.m51_control.specs.Parts.{is_sign, cut_at}

whole_step : (p : ℕ → Bool) (x : ℕ) (xs : List ℕ) (b : Bool)
    → length (x ∷ xs) ≤ cond (not b) (1 + position_or_len p xs) 0
    → (length xs ≤ position_or_len p xs → slice_split p xs ≡ xs ∷ [])
    → cond b ([] ∷ slice_split p xs) (onto_first x (slice_split p xs)) ≡ (x ∷ xs) ∷ []
whole_step p x xs true h more = absurd (omega (arith, h))
whole_step p x xs false h more = ap (onto_first x) (more (omega (arith, h)))

-- where the text has no such sign, the text is the one part
pub whole : (p : ℕ → Bool) (text : List ℕ) → length text ≤ position_or_len p text → slice_split p text ≡ text ∷ []
whole p [] h = refl
whole p (x ∷ xs) h = whole_step p x xs (p x) h (whole p xs)

-- what the first sign cuts off
pub cut_here : (p : ℕ → Bool) (at : ℕ) (text after : List ℕ) → at ≡ position_or_len p text → at < length text → after
    ≡ drop (at + 1) text → slice_split p text ≡ take at text ∷ slice_split p after
cut_here p at text after is inside rest =
    slice_split_first p text 0 (subst (λ n. n < length text) is inside)
    ∙ ap (λ n. take n text ∷ slice_split p (drop (n + 1) text)) (sym is)
    ∙ ap (λ l. take at text ∷ slice_split p l) (sym rest)

-- the sign is not in the text
abbrev pub Lacks : ℕ → List ℕ → Type 0
Lacks sign text = list_all (λ b. not (is_sign sign b)) text ≡ true

join_more : (sign : ℕ) (part : List ℕ) (parts : List (List ℕ)) → 0 < length parts → join_with_byte sign (part ∷ parts)
    ≡ part ++ sign ∷ join_with_byte sign parts
join_more sign part [] h = absurd (omega (arith, h))
join_more sign part (other ∷ parts) h = refl

some_parts : (sign : ℕ) (text : List ℕ) → 0 < length (slice_split (is_sign sign) text)
some_parts sign text = omega (arith, length-slice_split (is_sign sign) text)

joined : (sign : ℕ) (text a b : List ℕ) → slice_split (is_sign sign) text ≡ a ∷ slice_split (is_sign sign) b → text
    ≡ a ++ sign ∷ b
joined sign text a b is =
    sym (join_with_byte-slice_split sign text)
    ∙ ap (join_with_byte sign) is
    ∙ join_more sign a (slice_split (is_sign sign) b) (some_parts sign b)
    ∙ ap (λ l. a ++ sign ∷ l) (join_with_byte-slice_split sign b)

-- what is cut at a sign was joined by it
pub cut_sound : (sign : ℕ) (text : List ℕ) (parts : List ℕ × List ℕ) → cut_at sign text ≡ Some parts → text
    ≡ parts.0 ++ sign ∷ parts.1
cut_sound sign text parts h =
    let p = is_sign sign in
    let found : (nat_lt (position_or_len p text) (length text) ≡ true)
    × ((before_first p text, after_first p text) ≡ parts) =
    cond_some (nat_lt (position_or_len p text) (length text)) (before_first p text, after_first p text) parts h in
    joined sign text (before_first p text) (after_first p text)
    (cut_here p (position_or_len p text) text (after_first p text) refl
    (ltb-true (position_or_len p text) (length text) found.0) refl)
    ∙ ap (λ (c : List ℕ × List ℕ). c.0 ++ sign ∷ c.1) found.1

same_sign : (sign : ℕ) → not (is_sign sign sign) ≡ false
same_sign sign = ap not (eq-eqb sign sign refl)

-- what is joined by a sign is cut at it, where the first part lacks it
pub cut_complete : (sign : ℕ) (a b : List ℕ) → Lacks sign a → cut_at sign (a ++ sign ∷ b) ≡ Some (a, b)
cut_complete sign a b lacks =
    let inside : length a < length (a ++ sign ∷ b) = omega (arith, length-append a (sign ∷ b)) in
    rw (
      run_len (λ c. not (is_sign sign c)) a (sign ∷ b) lacks
          (stops_at (λ c. not (is_sign sign c)) sign b (same_sign sign)),
      lt-ltb (length a) (length (a ++ sign ∷ b)) inside,
      take-append_seam a (sign ∷ b),
      drop-append-add a (sign ∷ b) 1,
    ) refl

split_step : (p : ℕ → Bool) (x : ℕ) (a rest : List ℕ) (parts : List (List ℕ)) (b : Bool) → not b ≡ true
    → slice_split p rest ≡ a ∷ parts → cond b ([] ∷ slice_split p rest) (onto_first x (slice_split p rest))
    ≡ (x ∷ a) ∷ parts
split_step p x a rest parts true h is = absurd (cc)
split_step p x a rest parts false h is = ap (onto_first x) is

-- the parts of a text that is joined by a sign, where the first part lacks it
pub split_complete : (sign : ℕ) (a b : List ℕ) → Lacks sign a → slice_split (is_sign sign) (a ++ sign ∷ b)
    ≡ a ∷ slice_split (is_sign sign) b
split_complete sign [] b lacks =
    ap (λ t. cond t ([] ∷ slice_split (is_sign sign) b) (onto_first sign (slice_split (is_sign sign) b)))
    (eq-eqb sign sign refl)
split_complete sign (x ∷ a) b lacks =
    let parts : (not (is_sign sign x) ≡ true) × (Lacks sign a) =
    and_parts (not (is_sign sign x)) (list_all (λ c. not (is_sign sign c)) a) lacks in
    split_step (is_sign sign) x a (a ++ sign ∷ b) (slice_split (is_sign sign) b) (is_sign sign x) parts.0
    (split_complete sign a b parts.1)

-- a text that lacks the sign is its one part
pub split_none : (sign : ℕ) (a : List ℕ) → Lacks sign a → slice_split (is_sign sign) a ≡ a ∷ []
split_none sign [] lacks = refl
split_none sign (x ∷ a) lacks =
    let parts : (not (is_sign sign x) ≡ true) × (Lacks sign a) =
    and_parts (not (is_sign sign x)) (list_all (λ c. not (is_sign sign c)) a) lacks in
    split_step (is_sign sign) x a a [] (is_sign sign x) parts.0 (split_none sign a parts.1)
