-- How a name lies in its array.
use Rattle.std.specs.Prelude.{◌≡◌, ◌≤◌, ◌-◌, ℕ, List, ◌++◌, length, take, replicate}
use Rattle.std.proofs.Common.{sym, ap, subst, ◌∙◌, length-take-le}
use Rattle.m51_cells.specs.Name.{IsUpper}

-- the name is at the beginning of an array of 31 bytes, zeros follow it, and none of its bytes is a small letter
pub record IsPadded (len : ℕ) (bytes : List ℕ) : Type 0 where
  pub short : len ≤ 31
  pub whole : length bytes ≡ 31
  pub zeros : bytes ≡ take len bytes ++ replicate (31 - len) 0
  pub upper : IsUpper (take len bytes)

-- the array and the length come back from the name
pub padded_back : {A : Type 0} (make : List ℕ → ℕ → A) (len : ℕ) (bytes : List ℕ) → IsPadded len bytes
    → make (take len bytes ++ replicate (31 - length (take len bytes)) 0) (length (take len bytes)) ≡ make bytes len
padded_back make len bytes h =
    let front : length (take len bytes) ≡ len =
    length-take-le len bytes (subst (λ n. len ≤ n) (sym h.whole) h.short) in
    ap (λ (n : ℕ). make (take len bytes ++ replicate (31 - n) 0) n) front
    ∙ ap (λ (b : List ℕ). make b len) (sym h.zeros)
