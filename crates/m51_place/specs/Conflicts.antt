-- Which joined segments must not share a cell, decided.
use Rattle.std.specs.Prelude.{ℕ, Bool, true, false, not, ◌&&◌, ◌||◌, nat_eq, if◌then◌else◌, List, [], ◌∷◌, length}
use Rattle.std.specs.Prelude.{filter, slice_get, Option, Some, None}
use Rattle.std.specs.List.{list_any, range_with_len}
use Rattle.std.specs.Option.{option_map_or}
use Rattle.m51_module.specs.Roots.{vectors}
use Rattle.m51_graph.specs.declared.parts.GraphParts.{GraphParts}
use Rattle.m51_graph.specs.Drawing.{edge_test}
use Rattle.m51_graph.specs.Graphs.{lies_under}
use Rattle.m51_graph.specs.Leading.{leads}
use Rattle.m51_place.specs.Order.{own_at}

-- the joined segment is an argument segment
abbrev pub is_argument_at : GraphParts → ℕ → Bool
is_argument_at g number = option_map_or (λ (argument : Bool). argument) (slice_get g.arguments number) false

-- the units with an edge to the unit, ascending
unfoldable pub callers_of : GraphParts → ℕ → List ℕ
callers_of g unit = filter (λ caller. edge_test g.edges caller unit) (range_with_len 0 (length g.units))

-- the owners of a segment with this own unit, if it is overlaid: that unit, and for an argument segment then those that
-- call it
abbrev pub owners_with : GraphParts → Bool → Option ℕ → List ℕ
owners_with g argument None = []
owners_with g argument (Some own) = own ∷ (if argument then callers_of g own else [])

-- the owners of the joined segment of that number: none, unless it is overlaid
abbrev pub owners_at : GraphParts → ℕ → List ℕ
owners_at g number = owners_with g (is_argument_at g number) (own_at g number)

-- the unit lies under a root at the vector
abbrev pub is_under : GraphParts → ℕ → ℕ → Bool
is_under g vector unit = lies_under (leads g.edges) g.roots vector unit

-- the unit lies under no root
unfoldable pub is_under_none : GraphParts → ℕ → Bool
is_under_none g unit = not (list_any (λ vector. is_under g vector unit) vectors)

-- the units lie under different roots
unfoldable pub are_under_two : GraphParts → ℕ → ℕ → Bool
are_under_two g one two =
    list_any (λ x. list_any (λ y. not (nat_eq x y) && (is_under g x one && is_under g y two)) vectors) vectors

-- one of the units reaches the other, or they are one
abbrev pub are_on_walk : GraphParts → ℕ → ℕ → Bool
are_on_walk g one two = nat_eq one two || (leads g.edges one two || leads g.edges two one)

-- one of the units lies under no root, or they lie under different ones
abbrev pub are_apart : GraphParts → ℕ → ℕ → Bool
are_apart g one two = is_under_none g one || (is_under_none g two || are_under_two g one two)

-- the two units may be active together
unfoldable pub are_related : GraphParts → ℕ → ℕ → Bool
are_related g one two = are_on_walk g one two || are_apart g one two

-- segments with these owners must not share a cell: one has none, or an owner of the one and an owner of the other may
-- be active together
abbrev pub are_owners_related : GraphParts → List ℕ → List ℕ → Bool
are_owners_related g [] twos = true
are_owners_related g (one ∷ ones) [] = true
are_owners_related g (one ∷ ones) (two ∷ twos) =
    list_any (λ x. list_any (are_related g x) (two ∷ twos)) (one ∷ ones)

-- Two joined segments are in conflict: they are different, and must not share a cell.
abbrev pub in_conflict : GraphParts → ℕ → ℕ → Bool
in_conflict g s t = not (nat_eq s t) && are_owners_related g (owners_at g s) (owners_at g t)
