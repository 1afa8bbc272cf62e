-- Units of a sound layout: each is a segment of program memory, and no two are at one address or at one vector.
use Rattle.std.proofs.Common.{◌≡◌, ◌≢◌, ◌⊎◌, ℕ, ◌<◌, [], length, arith}
use Rattle.std.specs.Prelude.{slice_index, slice_index_or}
use Rattle.std.specs.List.{Contains}
use Rattle.std.proofs.lemmas.Option.{slice_get_within, slice_get-get_or}
use Rattle.m51_cells.specs.declared.kind.Kind.TheVariants.{Code}
use Rattle.m51_module.specs.declared.parts.LayoutParts.{LayoutParts}
use Rattle.m51_module.specs.declared.placed.Mark.TheVariants.{Absolute}
use Rattle.m51_module.specs.declared.placed.Placed.{Placed}
use Rattle.m51_module.specs.Roots.{vectors}
use Rattle.m51_module.specs.Plan.{IsUnit, IsOverlaid, IsUnitAt, IsRootAt, owners_of}
use Rattle.m51_module.specs.Sound.{IsSound}
use Rattle.m51_module.proofs.Owning.{empty_of_none}

-- two numbers are equal or not
pub same_or_not : (s t : ℕ) → (s ≡ t) ⊎ (s ≢ t)
same_or_not s t = grind arith

-- a unit is a number below their count
pub is_unit_below : (l : LayoutParts) (unit : ℕ) (p : Placed) → IsUnit l unit p → unit < length l.units
is_unit_below l unit p h = grind (arith, slice_get_within)

module _ (l : LayoutParts) (sound : IsSound l) where
  -- its index is that of an extent
  pub unit_place : (unit : ℕ) → unit < length l.units → slice_index l.units unit < length l.placed
  unit_place unit h = let k = sound.is_code unit (slice_index l.units unit) (slice_get-get_or l.units unit 0 h) in
      grind (arith, slice_get_within)

  pub one_unit : (address u v : ℕ) → IsUnitAt l address u → IsUnitAt l address v → u ≡ v
  one_unit address u v h k = grind arith

  -- so it is the unit that covers the vector
  pub root_at : (vector u : ℕ) → IsRootAt l vector u → IsUnitAt l vector u
  root_at vector u h = grind arith

  pub root_is : (vector u v : ℕ) → IsUnitAt l vector u → IsRootAt l vector v → u ≡ v
  root_is vector u v h k = grind arith

  pub one_root : (vector u v : ℕ) → IsRootAt l vector u → IsRootAt l vector v → u ≡ v
  one_root vector u v h = root_is vector u v (root_at vector u h)

pub unit_below : (l : LayoutParts) (address u : ℕ) → IsUnitAt l address u → u < length l.units
unit_below l address u h = is_unit_below l u h.is h.unit_is

pub root_below : (l : LayoutParts) (vector u : ℕ) → IsRootAt l vector u → u < length l.units
root_below l vector u h = is_unit_below l u h.is h.unit_is

-- a unit, by its index among the extents
pub unit_at_place : (l : LayoutParts) (unit : ℕ) (p : Placed) → unit < length l.units
    → slice_index l.units unit < length l.placed
    → slice_index_or l.placed (slice_index l.units unit) p ≡ p → IsUnit l unit p
unit_at_place l unit p h k e = grind (arith, slice_get-get_or)

-- a unit is a root where its extent is absolute and begins at the vector
pub root_from_parts : (l : LayoutParts) (vector unit : ℕ) (p : Placed) → IsUnit l unit p → p.kind ≡ Code
    → Contains vectors vector → p.mark ≡ Absolute → p.base ≡ vector → IsRootAt l vector unit
root_from_parts l vector unit p h code is absolute base = grind arith

-- what a root is
pub record Root (vector : ℕ) (p : Placed) : Type 0 where
  pub vector_is : Contains vectors vector
  pub absolute : p.mark ≡ Absolute
  pub base : p.base ≡ vector

pub parts_from_root : (l : LayoutParts) (vector unit : ℕ) (p : Placed) → IsUnit l unit p → IsRootAt l vector unit
    → Root vector p
parts_from_root l vector unit p h r = grind arith

-- what is not overlaid has no owners
pub plain_has_none : (l : LayoutParts) (segment : ℕ) → IsSound l → (IsOverlaid l segment → ⊥)
    → owners_of l.owners segment ≡ []
plain_has_none l segment sound plain =
    empty_of_none (owners_of l.owners segment) (λ unit owns. plain (sound.owned unit segment owns).1)
