-- Ranges of consecutive numbers, longer by one number at a time.
use Rattle.std.proofs.Common.{◌≡◌, ℕ, ◌+◌, Bool, true, false, cond, List, [], ◌∷◌, ◌++◌, map, ap, sym, ◌∙◌, arith}
use Rattle.std.specs.Prelude.{flat_map, count_by}
use Rattle.std.specs.List.{filter, range_with_len}
use Rattle.std.proofs.lemmas.List.{map-append, append-nil, flat_map_more}
use Rattle.std.proofs.lemmas.List.Elements.{filter-append}
use Rattle.std.proofs.lemmas.List.Sums.{sum_by-append}
use Rattle.m51_cells.proofs.Small.{range_more}

-- the texts of one more
pub texts_more : (f : ℕ → List ℕ) (n : ℕ) → flat_map f (range_with_len 0 (n + 1)) ≡ flat_map f (range_with_len 0 n)
    ++ f n
texts_more f n = ap (flat_map f) (range_more n) ∙ sym (flat_map_more f [] (range_with_len 0 n) n)

module _ (p : ℕ → Bool) (n : ℕ) where
  passing : filter p (range_with_len 0 (n + 1)) ≡ filter p (range_with_len 0 n) ++ cond (p n) (n ∷ []) []
  passing = ap (filter p) (range_more n) ∙ filter-append p (range_with_len 0 n) (n ∷ [])

  -- one more number passes
  pub named_yes : (f : ℕ → List ℕ) → p n ≡ true
      → map f (filter p (range_with_len 0 (n + 1))) ≡ map f (filter p (range_with_len 0 n)) ++ f n ∷ []
  named_yes f h =
      ap (map f) (passing ∙ ap (λ b. filter p (range_with_len 0 n) ++ cond b (n ∷ []) []) h)
      ∙ map-append f (filter p (range_with_len 0 n)) (n ∷ [])

  -- or does not
  pub named_no : (f : ℕ → List ℕ) → p n ≡ false
      → map f (filter p (range_with_len 0 (n + 1))) ≡ map f (filter p (range_with_len 0 n))
  named_no f h =
      ap (map f) (passing ∙ ap (λ b. filter p (range_with_len 0 n) ++ cond b (n ∷ []) []) h
      ∙ append-nil (filter p (range_with_len 0 n)))

  -- how many pass
  pub counted_more : count_by p (range_with_len 0 (n + 1)) ≡ count_by p (range_with_len 0 n) + cond (p n) 1 0
  counted_more =
      let last : 0 + cond (p n) 1 0 ≡ cond (p n) 1 0 = omega arith in
      ap (count_by p) (range_more n)
      ∙ sum_by-append (λ k. cond (p k) 1 0) (range_with_len 0 n) (n ∷ [])
      ∙ ap (λ k. count_by p (range_with_len 0 n) + k) last
