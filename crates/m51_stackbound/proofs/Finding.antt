-- Units found by a test are those of the layout.
use Rattle.m51_stackbound.proofs.Common.{◌≡◌, ◌<◌, ℕ, Bool, true, false, Option, Some, None, length, get_or, refl}
use Rattle.m51_stackbound.proofs.Common.{arith, Contains, LayoutParts, IsUnitAt, IsRootAt, vectors, IsSound}
use Rattle.std.specs.Prelude.{IfSome, List, position, slice_get}
use Rattle.std.specs.Option.{option_map_or}
use Rattle.std.proofs.lemmas.List.Quantifiers.{position-Some}
use Rattle.std.proofs.lemmas.List.Sums.{fails_before_first}
use Rattle.std.proofs.lemmas.Option.{slice_get-get_or, slice_get_within, get_or_from_slice_get}
use Rattle.m51_module.specs.declared.placed.Placed.{Placed}
use Rattle.m51_module.specs.Plan.{IsUnit}
use Rattle.m51_stackbound.specs.Units.{has_address, begins_at, unit_where, unit_of, root_of}

-- no element before the end passes a test that has no position
position_none : {X : Type 0} (p : X → Bool) (xs : List X) (k : ℕ) (d : X) → position p xs ≡ None → k < length xs
    → p (get_or xs k d) ≡ false
position_none p xs k d e below = grind (arith, fails_before_first)

-- a unit whose extent passes the test
pub record Tested (test : Placed → Bool) (l : LayoutParts) (unit : ℕ) : Type 0 where
  pub extent : Placed
  pub is : IsUnit l unit extent
  pub passes : test extent ≡ true

pub unit_found : (test : Placed → Bool) (l : LayoutParts) (u : ℕ) → unit_where test l ≡ Some u → Tested test l u
unit_found test l u e =
    let at = position-Some (λ segment. option_map_or test (slice_get l.placed segment) false) l.units u 0 e in
    grind (arith, slice_get-get_or l.units u 0 at.0)

pub unit_missed : (test : Placed → Bool) (l : LayoutParts) (u : ℕ) (p : Placed) → unit_where test l ≡ None
    → IsUnit l u p → test p ≡ true → ⊥
unit_missed test l u p e h passes =
    let below = slice_get_within l.units u h.segment h.unit_is in
    cc (
      position_none (λ segment. option_map_or test (slice_get l.placed segment) false) l.units u 0 e below,
      get_or_from_slice_get l.units u h.segment 0 h.unit_is,
    )

-- what the test finds is so, and where it finds none there is none
record Tells (P : ℕ → Type 0) (o : Option ℕ) : Type 0 where
  pub found : (u : ℕ) → o ≡ Some u → P u
  pub missed : (u : ℕ) → o ≡ None → P u → ⊥

-- two answers that are right and whole are the same
same_answer : (P : ℕ → Type 0) (r o : Option ℕ) → IfSome r P → ((u : ℕ) → P u → r ≡ Some u) → Tells P o → r ≡ o
same_answer P r (Some v) some only t = only v (t.found v refl)
same_answer P r None some only t = grind (arith, t.missed)

module _ (l : LayoutParts) (sound : IsSound l) where
  unit_tells : (address : ℕ) → Tells (λ u. IsUnitAt l address u) (unit_of l address)
  unfolding unit_of
  unit_tells address = record {
    found = λ u e. let t = unit_found (has_address address) l u e in grind arith;
    missed = λ u e h. unit_missed (has_address address) l u h.is e h.unit_is (grind arith);
  }

  root_tells : (vector : ℕ) → Contains vectors vector → Tells (λ u. IsRootAt l vector u) (root_of l vector)
  unfolding root_of
  root_tells vector is = record {
    found = λ u e. let t = unit_found (begins_at vector) l u e in grind arith;
    missed = λ u e h. unit_missed (begins_at vector) l u h.is e h.unit_is (grind arith);
  }

  pub unit_is : (address : ℕ) (r : Option ℕ) → IfSome r (λ u. IsUnitAt l address u)
      → ((u : ℕ) → IsUnitAt l address u → r ≡ Some u) → r ≡ unit_of l address
  unit_is address r some only = same_answer _ r _ some only (unit_tells address)

  -- the unit that the test finds covers the address
  pub unit_found_at : (address u : ℕ) → unit_of l address ≡ Some u → IsUnitAt l address u
  unit_found_at address = (unit_tells address).found

  pub root_is : (vector : ℕ) (r : Option ℕ) → Contains vectors vector → IfSome r (λ u. IsRootAt l vector u)
      → ((u : ℕ) → IsRootAt l vector u → r ≡ Some u) → r ≡ root_of l vector
  root_is vector r is some only = same_answer _ r _ some only (root_tells vector is)

  -- the unit that the test finds is the root
  pub root_found : (vector u : ℕ) → Contains vectors vector → root_of l vector ≡ Some u → IsRootAt l vector u
  root_found vector u is = (root_tells vector is).found u
