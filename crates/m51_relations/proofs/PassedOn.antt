-- Pairs joined by a pair of one set and then one of another, from one unit to the next.
use Rattle.std.proofs.Common.{◌≡◌, ℕ, ◌+◌, Bool, ◌||◌, ◌&&◌, refl, sym, ap, ◌∙◌, add-one}
use Rattle.m51_relations.specs.Rows.{passed_below}

pub passed_first : (tests others has : ℕ → ℕ → Bool) (u v : ℕ) → has u v ≡ passed_below tests others has 0 u v
unfolding passed_below
passed_first tests others has u v = refl

-- one more unit
pub passed_more : (tests others has : ℕ → ℕ → Bool) (k u v : ℕ) (now new : Bool) → new
    ≡ (now || (tests u k && others k v)) → now ≡ passed_below tests others has k u v
    → new ≡ passed_below tests others has (k + 1) u v
unfolding passed_below
passed_more tests others has k u v now new is before =
    is ∙ ap (λ b. b || (tests u k && others k v)) before
    ∙ ap (λ n. passed_below tests others has n u v) (sym (add-one k))
