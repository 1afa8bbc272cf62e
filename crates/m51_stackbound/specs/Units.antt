-- Units by address: which unit covers an address, which addresses control may go to, and where interrupts begin.
use Rattle.std.specs.Prelude.{ℕ, ◌+◌, suc, zero, Bool, true, false, ◌&&◌, ◌||◌, nat_eq, nat_lt, not, List, [], ◌∷◌}
use Rattle.std.specs.Prelude.{filter, slice_get, position, Option, Some, is_some, ◌%◌}
use Rattle.std.specs.Option.{option_map_or}
use Rattle.m51_module.specs.declared.parts.LayoutParts.{LayoutParts}
use Rattle.m51_module.specs.declared.placed.Mark.{Mark}
use Rattle.m51_module.specs.declared.placed.Mark.TheVariants.{Absolute}
use Rattle.m51_module.specs.declared.placed.Placed.{Placed}
use Rattle.m51_module.specs.Walks.{has_edge}

-- the extent has the address
abbrev pub has_address : ℕ → Placed → Bool
has_address address p = not (nat_lt address p.base) && nat_lt address (p.base + p.size)

abbrev pub is_marked_absolute : Mark → Bool
is_marked_absolute Absolute = true
is_marked_absolute _ = false

-- an absolute segment begins at the address
abbrev pub begins_at : ℕ → Placed → Bool
begins_at address p = is_marked_absolute p.mark && nat_eq p.base address

-- the first unit whose extent is so
abbrev pub unit_where : (Placed → Bool) → LayoutParts → Option ℕ
unit_where test l = position (λ segment. option_map_or test (slice_get l.placed segment) false) l.units

-- the unit that covers the address; of a sound layout it is the only one
unfoldable pub unit_of : LayoutParts → ℕ → Option ℕ
unit_of l address = unit_where (has_address address) l

abbrev pub same : Option ℕ → Option ℕ → Bool
same (Some one) (Some two) = nat_eq one two
same _ _ = false

abbrev pub same_or_edge : List (ℕ × ℕ) → Option ℕ → Option ℕ → Bool
same_or_edge edges (Some one) (Some two) = nat_eq one two || has_edge edges one two
same_or_edge edges _ _ = false

-- one unit covers both addresses
unfoldable pub in_one_unit : LayoutParts → ℕ → ℕ → Bool
in_one_unit l from to = same (unit_of l from) (unit_of l to)

-- a target counts: it lies in the same unit, or in one to which an edge leads
unfoldable pub counts : LayoutParts → ℕ → ℕ → Bool
counts l from to = same_or_edge l.edges (unit_of l from) (unit_of l to)

-- bytes from the address on, of this number, lie in the unit that covers it
abbrev pub lie_inside : LayoutParts → ℕ → ℕ → Bool
lie_inside l at zero = true
lie_inside l at (suc count) = lie_inside l at count && in_one_unit l at ((at + count) % 65536)

-- where the six interrupts begin
abbrev pub interrupts : List ℕ
interrupts = 0x03 ∷ 0x0B ∷ 0x13 ∷ 0x1B ∷ 0x23 ∷ 0x2B ∷ []

-- the unit that is the root at a vector
unfoldable pub root_of : LayoutParts → ℕ → Option ℕ
root_of l vector = unit_where (begins_at vector) l

-- the vectors of the interrupts at which a root begins, ascending
abbrev pub handlers : LayoutParts → List ℕ
handlers l = filter (λ vector. is_some (root_of l vector)) interrupts
