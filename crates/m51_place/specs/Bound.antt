-- The bytes that overlaid DATA must have: the weight of a layout, and the bytes that it covers.
use Rattle.std.specs.Prelude.{◌≡◌, ◌↔◌, ℕ, zero, suc, ◌+◌, ◌≤◌, Bool, true, false, ◌&&◌, nat_le, nat_lt}
use Rattle.std.specs.Prelude.{if◌then◌else◌, List, [], ◌∷◌}
use Rattle.std.specs.List.{list_any, sum_by}
use Rattle.m51_cells.specs.declared.kind.Reloc.TheVariants.{Unit as UnitType}
use Rattle.m51_module.specs.declared.linked.Chain.{Chain}
use Rattle.m51_module.specs.declared.parts.LayoutParts.{LayoutParts}
use Rattle.m51_module.specs.declared.placed.Placed.{Placed}
use Rattle.m51_module.specs.Chains.{AreHeaviest, is_overlaid_data}
use Rattle.m51_module.specs.Plan.{owners_of, UnitLiesUnder}
use Rattle.m51_module.specs.Sound.{IsSound}

-- the extent is overlaid DATA of type UNIT, and has the byte of internal RAM
abbrev pub covers_byte : ℕ → Placed → Bool
covers_byte byte p = is_overlaid_data p.kind p.reloc p.mark && (nat_le p.base byte && nat_lt byte (p.base + p.size))

-- how many of the numbers below pass a test
unfoldable pub count_below : (ℕ → Bool) → ℕ → ℕ
count_below test zero = 0
count_below test (suc n) = (if test n then 1 else 0) + count_below test n

-- the bytes of internal RAM that overlaid DATA covers
abbrev pub covered_bytes : LayoutParts → ℕ
covered_bytes l = count_below (λ byte. list_any (covers_byte byte) l.placed) 256

-- the extent would be overlaid DATA of type UNIT if its type were that one, and has the byte of internal RAM
abbrev pub overlays_byte : ℕ → Placed → Bool
overlays_byte byte p = is_overlaid_data p.kind UnitType p.mark && (nat_le p.base byte && nat_lt byte (p.base + p.size))

-- the bytes of internal RAM that overlaid DATA of any type covers: the figure that a map has
abbrev pub overlaid_bytes : LayoutParts → ℕ
overlaid_bytes l = count_below (λ byte. list_any (overlays_byte byte) l.placed) 256

-- the first of the owners passes a test
abbrev pub own_passes : (ℕ → Bool) → List ℕ → Bool
own_passes test [] = false
own_passes test (own ∷ others) = test own

-- the bytes of overlaid DATA whose own unit passes a test, of extents of which the first has that number
abbrev pub bytes_passing : LayoutParts → (ℕ → Bool) → ℕ → List Placed → ℕ
bytes_passing l test number [] = 0
bytes_passing l test number (p ∷ more) =
    (if is_overlaid_data p.kind p.reloc p.mark && own_passes test (owners_of l.owners number) then p.size else 0)
    + bytes_passing l test (number + 1) more

-- The weight of a layout: the bytes of its heaviest chains, and those of overlaid DATA whose unit lies under no root.
pub record IsWeight (l : LayoutParts) (weight : ℕ) : Type 0 where
  pub chains : List Chain
  pub heaviest : AreHeaviest l chains
  pub free : ℕ → Bool
  pub tells : (unit : ℕ) → (free unit ≡ true) ↔ ((vector : ℕ) → UnitLiesUnder l vector unit → ⊥)
  pub is : weight ≡ sum_by (λ (c : Chain). c.bytes) chains + bytes_passing l free 0 l.placed

-- no sound layout covers fewer bytes by overlaid DATA than its weight
abbrev pub WeightIsLeast : Type 0
WeightIsLeast = (l : LayoutParts) (weight : ℕ) → IsSound l → IsWeight l weight → weight ≤ covered_bytes l
