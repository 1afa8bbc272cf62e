-- A name at the beginning of an array of 31 bytes.
use Rattle.std.proofs.Common.{◌≡◌, ℕ, ◌+◌, ◌-◌, ◌<◌, ◌≤◌, List, [], ◌∷◌, ◌++◌, length, take, map, replicate, slice_set}
use Rattle.std.proofs.Common.{slice_index, sym, ap, ◌∙◌, append_assoc, arith, length-take-le}
use Rattle.std.proofs.Math.Seq.{set-append_seam, take-append_seam, take-length}
use Rattle.std.proofs.lemmas.Grind.{common_steps}
use Rattle.std.proofs.lemmas.List.{length-map, length-append, length-replicate}
use Rattle.std.specs.Char.{to_ascii_uppercase}
use Rattle.m51_cells.specs.Padded.{IsPadded}
use Rattle.m51_cells.proofs.NameLaws.{upper_again}

-- n zeros
abbrev zeros : ℕ → List ℕ
zeros n = replicate n 0

-- a positive number of zeros begins with a zero
one_less : (n m : ℕ) → n ≡ m + 1 → zeros n ≡ 0 ∷ zeros m
one_less n m h = ap zeros h ∙ grind (arith, common_steps)

-- a write at the first index after a prefix extends the prefix
at_seam : (xs ys : List ℕ) (i y v : ℕ) → length xs ≡ i → slice_set (xs ++ y ∷ ys) i v ≡ (xs ++ v ∷ []) ++ ys
at_seam xs ys i y v e = ap (λ n. slice_set (xs ++ y ∷ ys) n v) (sym e) ∙ set-append_seam xs y ys v
    ∙ sym (append_assoc xs (v ∷ []) ys)

-- one more byte of the text in upper case
taken_more : (text : List ℕ) (i : ℕ) → i < length text
    → map to_ascii_uppercase (take (i + 1) text)
    ≡ map to_ascii_uppercase (take i text) ++ to_ascii_uppercase (slice_index text i) ∷ []
taken_more text i h = grind (arith, common_steps)

-- one more byte in upper case, at the first index that is free
pub one_more : (text : List ℕ) (i v : ℕ) (bytes : List ℕ) → i < length text → length text ≤ 31 → v
    ≡ to_ascii_uppercase (slice_index text i)
    → bytes ≡ map to_ascii_uppercase (take i text) ++ replicate (31 - i) 0
    → slice_set bytes i v ≡ map to_ascii_uppercase (take (i + 1) text) ++ replicate (31 - (i + 1)) 0
one_more text i v bytes inside short is b =
    let front = map to_ascii_uppercase (take i text) in
    ap (λ l. slice_set l i v)
    (b ∙ ap (λ l. front ++ l) (one_less (31 - i) (31 - (i + 1)) (omega (arith, inside, short))))
    ∙ at_seam front (zeros (31 - (i + 1))) i 0 v
    (length-map (take i text) to_ascii_uppercase ∙ length-take-le i text (omega (arith, inside)))
    ∙ ap (λ n. (front ++ n ∷ []) ++ zeros (31 - (i + 1))) is
    ∙ ap (λ l. l ++ zeros (31 - (i + 1))) (sym (taken_more text i inside))

-- a whole text in upper case, and zeros after it, are a name
pub padded_text : (text : List ℕ) (bytes : List ℕ) → length text ≤ 31
    → bytes ≡ map to_ascii_uppercase (take (length text) text) ++ replicate (31 - length text) 0
    → IsPadded (length text) bytes
padded_text text bytes short is =
    let whole : bytes ≡ map to_ascii_uppercase text ++ replicate (31 - length text) 0 = is
    ∙ ap (λ t. map to_ascii_uppercase t ++ replicate (31 - length text) 0) (take-length text) in
    let front : take (length text) bytes ≡ map to_ascii_uppercase text = ap (λ b. take (length text) b) whole
    ∙ ap (λ n. take n (map to_ascii_uppercase text ++ replicate (31 - length text) 0))
    (sym (length-map text to_ascii_uppercase))
    ∙ take-append_seam (map to_ascii_uppercase text) (replicate (31 - length text) 0) in
    record {
      short = short;
      whole = ap length whole ∙ length-append (map to_ascii_uppercase text) (replicate (31 - length text) 0)
          ∙ omega (arith, short, length-map text to_ascii_uppercase, length-replicate {A = ℕ} (31 - length text) 0);
      zeros = whole ∙ ap (λ b. b ++ replicate (31 - length text) 0) (sym front);
      upper = ap (λ b. map to_ascii_uppercase b) front ∙ upper_again text ∙ sym front;
    }
