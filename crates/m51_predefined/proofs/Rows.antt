-- A word that is no name of a table.
use Rattle.std.proofs.Common.{◌≡◌, ℕ, Bool, true, false, not, cond, List, [], ◌∷◌, Some, None, refl, subst}
use Rattle.std.specs.Prelude.{Option}
use Rattle.std.specs.List.{list_all}
use Rattle.std.specs.Str.{bytes_eq}
use Rattle.std.proofs.lemmas.Bool.{and_parts, both_ways, not-true}
use Rattle.std.proofs.lemmas.Slice.Eq.{bytes_eq-Decides}
use Rattle.m51_sfr.specs.Registers.{Row, address_in}

absent_step : (b : Bool) (address : ℕ) (rest : Option ℕ) → (b ≡ true → ⊥) → rest ≡ None
    → cond b (Some address) rest ≡ None
absent_step true address rest never e = absurd (never refl)
absent_step false address rest never e = e

-- a word that passes a test which no name of the table passes
pub absent : (test : List ℕ → Bool) (rows : List Row) (word : List ℕ)
    → list_all (λ (r : Row). not (test r.name)) rows ≡ true → test word ≡ true → address_in rows word ≡ None
absent test [] word h w = refl
absent test (r ∷ rows) word h w =
    let parts = and_parts (not (test r.name)) (list_all (λ (r : Row). not (test r.name)) rows) h in
    absent_step (bytes_eq r.name word) r.address (address_in rows word)
    (λ e. both_ways (test word)
    (subst (λ n. test n ≡ false) ((bytes_eq-Decides r.name word).0 e) (not-true (test r.name) parts.0)) w)
    (absent test rows word parts.1 w)
