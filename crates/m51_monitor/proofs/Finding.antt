-- The functions find the unit at an address and the root at a vector.
use Rattle.m51_monitor.proofs.Common.{◌≡◌, ℕ, zero, suc, ◌+◌, Bool, true, false, nat_eq, IfSome, Option}
use Rattle.m51_monitor.proofs.Common.{Some, None, List, [], ◌∷◌, refl, arith, slice_get}
use Rattle.m51_monitor.proofs.Common.{if◌then◌else◌, Contains, Source, Vector}
use Rattle.m51_monitor.proofs.Common.{LayoutParts, Placed}
use Rattle.m51_monitor.proofs.Common.{IsUnitAt, IsRootAt, IsFoundAt, IsRootFound}
use Rattle.m51_flat.specs.declared.state.Source.TheVariants.{Ie0, Tf0, Ie1, Tf1, Serial, Timer2}
use Rattle.m51_module.specs.Roots.{vectors}
use Rattle.m51_monitor.specs.Found.{begins_at, covers_address, extent_passes, first_unit}
use Rattle.m51_monitor.specs.Found.{root_found, unit_found}
use Rattle.m51_flat.specs.Vectors.{vector_of}

-- a unit whose extent passes the test
record Passing (placed : List Placed) (test : Placed → Bool) (units : List ℕ) (k : ℕ) : Type 0 where
  segment : ℕ
  is : Placed
  unit_is : slice_get units k ≡ Some segment
  placed_is : slice_get placed segment ≡ Some is
  passes_it : test is ≡ true

abbrev IsFirst : List Placed → (Placed → Bool) → List ℕ → ℕ → Option ℕ → Type 0
IsFirst placed test units n None = (k : ℕ) → Passing placed test units k → ⊥
IsFirst placed test units n (Some u) = (k : ℕ) × (u ≡ n + k) × Passing placed test units k

module _ (placed : List Placed) (test : Placed → Bool) where
  behind : (s : ℕ) (more : List ℕ) (k : ℕ) → Passing placed test more k → Passing placed test (s ∷ more) (suc k)
  behind s more k h = grind arith

  next_first : (s : ℕ) (more : List ℕ) (n : ℕ) (o : Option ℕ) → extent_passes placed test (Some s) ≡ false
      → IsFirst placed test more (n + 1) o → IsFirst placed test (s ∷ more) n o
  next_first s more n (Some u) e h =
      (suc h.0, (omega arith), behind s more h.0 h.2)
  next_first s more n None e h = by_place
    where
      by_place : (k : ℕ) → Passing placed test (s ∷ more) k → ⊥
      by_place zero p = cc
      by_place (suc k) p = h k
          (grind arith)

  first_is : (units : List ℕ) (n : ℕ) → IsFirst placed test units n (first_unit placed test units n)
  first_is [] n = λ k p. cc p.unit_is
  first_is (s ∷ more) n = by_test (extent_passes placed test (Some s)) refl (first_is more (n + 1))
    where
      by_test : (b : Bool) → extent_passes placed test (Some s) ≡ b
          → IsFirst placed test more (n + 1) (first_unit placed test more (n + 1))
          → IsFirst placed test (s ∷ more) n (if b then Some n else first_unit placed test more (n + 1))
      by_test true e h = grind arith
      by_test false e h = grind (arith, next_first)

pub unit_found_is : (l : LayoutParts) (address : ℕ) → IsFoundAt l address (unit_found l address)
unit_found_is l address = by_found (unit_found l address) (grind (arith, first_is))
  where
    by_found : (o : Option ℕ) → IsFirst l.placed (covers_address address) l.units 0 o → IsFoundAt l address o
    by_found (Some u) h = grind arith
    by_found None h = λ u at. h u
        (grind arith)

pub is_number : (a b : ℕ) → a ≡ b → nat_eq a b ≡ true
is_number a b e = grind arith

is_vector : (source : Source) → Contains vectors (vector_of source)
unfolding vector_of
is_vector Ie0 = (1, omega arith, refl)
is_vector Tf0 = (2, omega arith, refl)
is_vector Ie1 = (3, omega arith, refl)
is_vector Tf1 = (4, omega arith, refl)
is_vector Serial = (5, omega arith, refl)
is_vector Timer2 = (6, omega arith, refl)

root_at_is : (l : LayoutParts) (vector : ℕ) → Contains vectors vector
    → IsRootFound l vector (first_unit l.placed (begins_at vector) l.units 0)
root_at_is l vector is =
    by_found (first_unit l.placed (begins_at vector) l.units 0) (grind (arith, first_is))
  where
    by_found : (o : Option ℕ) → IsFirst l.placed (begins_at vector) l.units 0 o → IsRootFound l vector o
    by_found (Some u) h = grind arith
    by_found None h = λ u at. h u (grind arith)

-- what is found is the one answer
pub same_unit_found : (l : LayoutParts) (address : ℕ) (o : Option ℕ) → IfSome o (λ u. IsUnitAt l address u)
    → ((u : ℕ) → IsUnitAt l address u → o ≡ Some u) → o ≡ unit_found l address
same_unit_found l address o some only = by_found (unit_found l address) (unit_found_is l address) o some only
  where
    by_found : (f : Option ℕ) → IsFoundAt l address f → (o : Option ℕ) → IfSome o (λ u. IsUnitAt l address u)
        → ((u : ℕ) → IsUnitAt l address u → o ≡ Some u) → o ≡ f
    by_found (Some u) found o some only = only u found
    by_found None found o some only = grind arith

pub same_root_found : (l : LayoutParts) (source : Source) (o : Option ℕ)
    → IfSome o (λ u. IsRootAt l (vector_of source) u) → ((u : ℕ) → IsRootAt l (vector_of source) u → o ≡ Some u)
    → o ≡ root_found l (Vector source)
same_root_found l source o some only =
    by_found (root_found l (Vector source)) (root_at_is l (vector_of source) (is_vector source)) o some only
  where
    by_found : (f : Option ℕ) → IsRootFound l (vector_of source) f → (o : Option ℕ)
        → IfSome o (λ u. IsRootAt l (vector_of source) u) → ((u : ℕ) → IsRootAt l (vector_of source) u → o ≡ Some u)
        → o ≡ f
    by_found (Some u) found o some only = only u found
    by_found None found o some only = grind arith
