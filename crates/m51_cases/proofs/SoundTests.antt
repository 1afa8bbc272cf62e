-- Tests that show a small layout to be sound: its first extents are its units in order, its edges lead from lower
-- numbers
-- to higher ones, each unit lies under at most one root, and segments that share cells are of units that the first unit
-- calls and that call none.
use Rattle.std.specs.Prelude.{ℕ, zero, suc, ◌+◌, ◌*◌, Bool, true, false, not, ◌&&◌, ◌||◌, nat_eq, nat_le, nat_lt}
use Rattle.std.specs.Prelude.{Option, Some, None, List, [], ◌∷◌, length, slice_get, slice_index}
use Rattle.m51_cells.specs.declared.extent.Extent.{Extent}
use Rattle.m51_cells.specs.declared.kind.Kind.{Kind}
use Rattle.m51_cells.specs.declared.kind.Kind.TheVariants.{Code, Direct, Bits}
use Rattle.m51_cells.specs.Kinds.{is_code}
use Rattle.m51_module.specs.declared.parts.LayoutParts.{LayoutParts}
use Rattle.m51_module.specs.declared.placed.Mark.{Mark}
use Rattle.m51_module.specs.declared.placed.Placed.{Placed}
use Rattle.m51_module.specs.Cells.{extent_at}
use Rattle.m51_module.specs.Plan.{owners_of}
use Rattle.m51_monitor.specs.Found.{is_absolute_mark, extent_meets}
use Rattle.m51_monitor.specs.Stores.{is_same_space, is_overlaid_at, is_overlaid_mark, is_segment}
use Rattle.m51_module.specs.Walks.{has_edge}

-- each number below this one passes
abbrev pub each_below : ℕ → (ℕ → Bool) → Bool
each_below zero test = true
each_below (suc n) test = test n && each_below n test

-- each element passes
abbrev pub each_of : {X : Type 0} → List X → (X → Bool) → Bool
each_of [] test = true
each_of (x ∷ xs) test = test x && each_of xs test

-- a segment of this kind ends inside its memory
abbrev pub ends_inside : Kind → ℕ → ℕ → Mark → Bool
ends_inside Code base size mark = nat_le (base + size) 65536 && not (is_overlaid_mark mark)
ends_inside Direct base size mark = nat_le (8 * base + 8 * size) 2048
ends_inside Bits base size mark = nat_le (256 + base + size) 2048
ends_inside other base size mark = false

abbrev pub fits : Placed → Bool
fits p = nat_lt 0 p.size && ends_inside p.kind p.base p.size p.mark

-- the extent of that number is the unit of that number
abbrev pub is_number : Option ℕ → ℕ → Bool
is_number None n = false
is_number (Some m) n = nat_eq m n

abbrev pub is_code_segment : Placed → Bool
is_code_segment p = is_code p.kind && is_segment p.mark

abbrev pub is_unit_in_order : LayoutParts → ℕ → Bool
is_unit_in_order l u = is_number (slice_get l.units u) u && extent_meets is_code_segment (slice_get l.placed u)

-- segments of program memory come first
abbrev pub is_no_late_code : LayoutParts → ℕ → Bool
is_no_late_code l s = nat_lt s (length l.units) || not (extent_meets is_code_segment (slice_get l.placed s))

-- a root begins at the vector of its unit
abbrev pub is_root_in_place : List ℕ → LayoutParts → ℕ → Bool
is_root_in_place vectors l s = not (extent_meets (λ p. is_absolute_mark p.mark) (slice_get l.placed s))
    || extent_meets (λ p. nat_eq p.base (slice_index vectors s)) (slice_get l.placed s)

abbrev pub leads_up : List ℕ → LayoutParts → ℕ × ℕ → Bool
leads_up vectors l edge =
    nat_lt edge.0 edge.1 &&
    (nat_lt edge.1 (length l.units) && nat_eq (slice_index vectors edge.0) (slice_index vectors edge.1))

abbrev pub is_owner : LayoutParts → ℕ × ℕ → Bool
is_owner l pair = nat_lt pair.1 (length l.units) && is_overlaid_at (slice_get l.placed pair.0)

-- one or two different owners
abbrev pub one_or_two : List ℕ → Bool
one_or_two [] = false
one_or_two (own ∷ []) = true
one_or_two (own ∷ other ∷ []) = not (nat_eq other own)
one_or_two (own ∷ other ∷ third ∷ more) = false

abbrev pub has_owners : LayoutParts → ℕ → Bool
has_owners l s = not (is_overlaid_at (slice_get l.placed s)) || one_or_two (owners_of l.owners s)

-- the extents share no cell
abbrev pub are_apart : Extent → Extent → Bool
are_apart one two = not (is_same_space one.space two.space)
    || (nat_le (one.first + one.len) two.first || nat_le (two.first + two.len) one.first)

-- the first unit calls it, and it calls none
abbrev pub is_leaf : LayoutParts → ℕ → Bool
is_leaf l u = has_edge l.edges 0 u && each_of l.edges (λ edge. not (nat_eq edge.0 u))

abbrev pub are_siblings : LayoutParts → ℕ → ℕ → Bool
are_siblings l u v = not (nat_eq u v) && (is_leaf l u && is_leaf l v)

abbrev pub may_share : LayoutParts → ℕ → ℕ → Bool
may_share l s t =
    (is_overlaid_at (slice_get l.placed s) && is_overlaid_at (slice_get l.placed t))
    && each_of (owners_of l.owners s) (λ u. each_of (owners_of l.owners t) (λ v. are_siblings l u v))

abbrev pub apart_at : Option Placed → Option Placed → Bool
apart_at (Some p) (Some q) = are_apart (extent_at p) (extent_at q)
apart_at (Some p) None = true
apart_at None other = true

abbrev pub may_stand : LayoutParts → ℕ → ℕ → Bool
may_stand l s t = nat_eq s t || (apart_at (slice_get l.placed s) (slice_get l.placed t) || may_share l s t)
