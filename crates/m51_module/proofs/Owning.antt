-- The owners of a segment are the units of its pairs.
use Rattle.std.proofs.Common.{◌≡◌, inl, inr, ℕ, List, [], ◌∷◌, refl, arith}
use Rattle.std.specs.List.{Contains}
use Rattle.std.proofs.lemmas.Bool.Decides.{eqb_tells}
use Rattle.m51_cells.proofs.Small.{pair_is}
use Rattle.m51_module.specs.Plan.{owners_of}
pub use Rattle.m51_cells.proofs.Small.{none_in_empty, contains_after as contains_behind}
pub use Rattle.m51_cells.proofs.Small.{first_or_after as first_or_behind}

-- a list with nothing in it is empty
pub empty_of_none : {X : Type 0} (xs : List X) → ((x : X) → Contains xs x → ⊥) → xs ≡ []
empty_of_none [] none = refl
empty_of_none (x ∷ xs) none = absurd (none x (0, omega arith, refl))

-- an owner has its pair
pub pair_of_owner : (owners : List (ℕ × ℕ)) (s u : ℕ) → Contains (owners_of owners s) u → Contains owners (s, u)
pair_of_owner [] s u h = absurd (none_in_empty u h)
pair_of_owner (p ∷ ps) s u h = grind (arith, eqb_tells, owners_of, pair_is, contains_behind, pair_of_owner ps s u)

-- and a pair its owner
pub owner_of_pair : (owners : List (ℕ × ℕ)) (s u : ℕ) → Contains owners (s, u) → Contains (owners_of owners s) u
owner_of_pair [] s u h = grind arith
owner_of_pair (p ∷ ps) s u h = elim (first_or_behind p ps (s, u) h) [
  | inl first ↦ grind arith
  | inr behind ↦ grind (arith, eqb_tells p.0 s, contains_behind p.1 (owners_of ps s) u, owner_of_pair ps s u behind)
]
