-- Bits of rows of words.
use Rattle.std.proofs.Common.{◌≡◌, ◌≢◌, inl, inr, ℕ, zero, suc, ◌+◌, ◌*◌, ◌/◌, ◌%◌, ◌^◌, ◌<◌, ◌≤◌, max, true, false}
use Rattle.std.proofs.Common.{Bool, ◌||◌, ◌&&◌, nat_eq, List, [], length, set, get_or, replicate, refl, sym, ap, subst}
use Rattle.std.proofs.Common.{◌∙◌, arith, add-one, eq-eqb, w64}
use Rattle.std.specs.Prelude.{bit_and, bit_or}
use Rattle.std.specs.Int.{bit_at}
use Rattle.std.proofs.lemmas.Bool.{cases_eq, cases_lt, ne_eqb}
use Rattle.std.proofs.lemmas.List.{get_or-set_same, get_or-set_other, get_or-replicate, get_or_past, length-replicate}
use Rattle.std.proofs.lemmas.Nat.Bits.{bit_at_or, bit_at-lt, bit_at-zero, bit_at_set_same, bit_at_set_other}
use Rattle.std.proofs.lemmas.Nat.Bits.{shr_and_one}
use Rattle.m51_relations.specs.Bits.{bit}
use Rattle.m51_relations.specs.Rows.{closed_below, no_pair, pair_at}

-- the test of the code
pub bit_tested : (words : List ℕ) (number : ℕ) → nat_eq (bit_and (get_or words (number / 64) 0 / 2 ^ (number % 64)) 1) 1
    ≡ bit words number
unfolding bit
bit_tested words number = ap (λ b. nat_eq b 1) (shr_and_one (get_or words (number / 64) 0) (number % 64))

max_tested : (a b : ℕ) → a < 2 → b < 2 → nat_eq (max a b) 1 ≡ (nat_eq a 1 || nat_eq b 1)
max_tested zero zero p q = refl
max_tested zero (suc zero) p q = refl
max_tested (suc zero) zero p q = refl
max_tested (suc zero) (suc zero) p q = refl
max_tested zero (suc (suc b)) p q = absurd (omega (arith, q))
max_tested (suc zero) (suc (suc b)) p q = absurd (omega (arith, q))
max_tested (suc (suc a)) b p q = absurd (omega (arith, p))

or_tested : (a b i : ℕ) → nat_eq (bit_at (bit_or a b) i) 1 ≡ (nat_eq (bit_at a i) 1 || nat_eq (bit_at b i) 1)
or_tested a b i = ap (λ x. nat_eq x 1) (bit_at_or a b i)
    ∙ max_tested (bit_at a i) (bit_at b i) (bit_at-lt a i) (bit_at-lt b i)

-- words of which each has the bits of both
pub bits_joined : (old more new : List ℕ) → length old ≡ length more → length new ≡ length old
    → ((k : ℕ) → k < length old → get_or new k 0 ≡ bit_or (get_or old k 0) (get_or more k 0)) → (v : ℕ) → bit new v
    ≡ (bit old v || bit more v)
unfolding bit
bits_joined old more new same same' each v =
    elim (cases_lt (v / 64) (length old)) [
      | inl below ↦ ap (λ x. nat_eq (bit_at x (v % 64)) 1) (each (v / 64) below)
          ∙ or_tested (get_or old (v / 64) 0) (get_or more (v / 64) 0) (v % 64)
      | inr past ↦
          let none : get_or new (v / 64) 0 ≡ 0 = get_or_past new (v / 64) 0 (omega (arith, past, same')) in
          let none' : get_or old (v / 64) 0 ≡ 0 = get_or_past old (v / 64) 0 past in
          let none'' : get_or more (v / 64) 0 ≡ 0 = get_or_past more (v / 64) 0 (omega (arith, past, same)) in
          let zeros : nat_eq (bit_at 0 (v % 64)) 1 ≡ false = ap (λ x. nat_eq x 1) (bit_at-zero (v % 64)) in
          ap (λ x. nat_eq (bit_at x (v % 64)) 1) none ∙ zeros
          ∙ sym (ap (λ x. nat_eq (bit_at x (v % 64)) 1 || nat_eq (bit_at (get_or more (v / 64) 0) (v % 64)) 1) none'
          ∙ ap (λ b. b || nat_eq (bit_at (get_or more (v / 64) 0) (v % 64)) 1) zeros
          ∙ ap (λ x. nat_eq (bit_at x (v % 64)) 1) none'' ∙ zeros)
    ]

-- one more bit
pub bits_put : (words : List ℕ) (number : ℕ) → number < 64 * length words → (v : ℕ)
    → bit (set words (number / 64) (bit_or (get_or words (number / 64) 0) (1 * 2 ^ (number % 64) % 2 ^ 64))) v
    ≡ (nat_eq v number || bit words v)
unfolding bit
bits_put words number below v =
    let at : ℕ = number / 64 in
    let word : ℕ = bit_or (get_or words at 0) (1 * 2 ^ (number % 64) % 2 ^ 64) in
    let inside : at < length words = omega (arith, below) in
    let short : number % 64 < 64 = omega arith in
    let here : get_or (set words at word) at 0 ≡ word = get_or-set_same words at word 0 inside in
    elim (cases_eq v number) [
      | inl e ↦
          subst (λ n. bit (set words at word) n ≡ (nat_eq n number || bit words n)) (sym e)
          (ap (λ x. nat_eq (bit_at x (number % 64)) 1) here
          ∙ ap (λ x. nat_eq x 1) (bit_at_set_same w64 (get_or words at 0) (number % 64) short)
          ∙ sym (ap (λ b. b || bit words number) (eq-eqb number number refl)))
      | inr ne ↦ elim (cases_eq (v / 64) at) [
        | inl same ↦
            let other : v % 64 ≢ number % 64 = λ e. ne (omega (arith, e, same)) in
            ap (λ n. nat_eq (bit_at (get_or (set words at word) n 0) (v % 64)) 1) same
            ∙ ap (λ x. nat_eq (bit_at x (v % 64)) 1) here
            ∙ ap (λ x. nat_eq x 1) (bit_at_set_other w64 (get_or words at 0) (number % 64) short (v % 64) other)
            ∙ ap (λ n. nat_eq (bit_at (get_or words n 0) (v % 64)) 1) (sym same)
            ∙ sym (ap (λ b. b || bit words v) (ne_eqb v number ne))
        | inr other ↦
            ap (λ x. nat_eq (bit_at x (v % 64)) 1) (get_or-set_other words at (v / 64) word 0 other)
            ∙ sym (ap (λ b. b || bit words v) (ne_eqb v number ne))
      ]
    ]

-- a row without a bit
pub bit_none : (n v : ℕ) → bit (replicate n 0) v ≡ false
unfolding bit
bit_none n v =
    let none : ℕ = 0 in
    let blank : List ℕ = replicate n none in
    let zeros : get_or blank (v / 64) 0 ≡ none = elim (cases_lt (v / 64) n) [
      | inl below ↦ get_or-replicate n (v / 64) none 0 below
      | inr past ↦ get_or_past blank (v / 64) 0 (omega (arith, past, length-replicate n none))
    ] in
    ap (λ x. nat_eq (bit_at x (v % 64)) 1) zeros ∙ ap (λ x. nat_eq x 1) (bit_at-zero (v % 64))

-- past the last row there is no bit
bit_missing : (v : ℕ) → bit [] v ≡ false
bit_missing v = bit_none 0 v

pub pair_past : (rows : List (List ℕ)) (u v : ℕ) → length rows ≤ u → pair_at rows u v ≡ false
pair_past rows u v past = ap (λ row. bit row v) (get_or_past rows u [] past) ∙ bit_missing v

-- rows to which another was added where they have the bit
pub rows_passed : (old new : List (List ℕ)) (through : List ℕ) (k : ℕ) → length new ≡ length old
    → ((u v : ℕ) → u < length old → pair_at new u v ≡ (pair_at old u v || (pair_at old u k && bit through v)))
    → (u v : ℕ) → pair_at new u v ≡ (pair_at old u v || (pair_at old u k && bit through v))
rows_passed old new through k same each u v =
    elim (cases_lt u (length old)) [
      | inl below ↦ each u v below
      | inr past ↦
          pair_past new u v (omega (arith, past, same))
          ∙ sym (ap (λ b. b || (pair_at old u k && bit through v)) (pair_past old u v past)
          ∙ ap (λ b. b && bit through v) (pair_past old u k past))
    ]

pub and_true : (a : Bool) → a ≡ (a && true)
and_true true = refl
and_true false = refl

-- tests that agree everywhere are one
pub same_pairs : (p q : ℕ → ℕ → Bool) → ((u v : ℕ) → p u v ≡ q u v) → p ≡ q
same_pairs p q h i = λ u v. h u v i

-- the rows are closed below one more unit
pub close_more : (has : ℕ → ℕ → Bool) (k : ℕ) (old new : List (List ℕ)) (through : List ℕ) → through ≡ get_or old k []
    → pair_at old ≡ closed_below k has
    → ((u v : ℕ) → pair_at new u v ≡ (pair_at old u v || (pair_at old u k && bit through v))) → pair_at new
    ≡ closed_below (k + 1) has
unfolding closed_below
close_more has k old new through is before joined =
    same_pairs (pair_at new) (closed_below (k + 1) has)
    (λ u v. joined u v
    ∙ ap (λ row. pair_at old u v || (pair_at old u k && bit row v)) is
    ∙ ap (λ (p : ℕ → ℕ → Bool). p u v || (p u k && p k v)) before
    ∙ ap (λ n. closed_below n has u v) (sym (add-one k)))

pub close_first : (has : ℕ → ℕ → Bool) → has ≡ closed_below 0 has
unfolding closed_below
close_first has = refl

-- rows without a bit
pub rows_blank : (count words : ℕ) (rows : List (List ℕ)) → rows ≡ replicate count (replicate words 0) → (u v : ℕ)
    → pair_at rows u v ≡ false
rows_blank count words rows is u v = elim (cases_lt u (length rows)) [
  | inl below ↦
      let len : length rows ≡ count = ap length is ∙ length-replicate count (replicate words 0) in
      ap (λ (rs : List (List ℕ)). pair_at rs u v) is
      ∙ ap (λ row. bit row v) (get_or-replicate count u (replicate words 0) [] (omega (arith, below, len)))
      ∙ bit_none words v
  | inr past ↦ pair_past rows u v past
]

pub none_paired : (count words : ℕ) (rows : List (List ℕ)) → rows ≡ replicate count (replicate words 0) → pair_at rows
    ≡ no_pair
none_paired count words rows is = same_pairs (pair_at rows) no_pair (rows_blank count words rows is)
