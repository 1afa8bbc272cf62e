-- Placing: the fixed extents, and then each relocatable segment in turn, at the least base that is free.
use Rattle.std.specs.Prelude.{ℕ, ◌+◌, Bool, true, false, nat_eq, List, [], ◌∷◌, ◌++◌, length, map, filter, position}
use Rattle.std.specs.Prelude.{find, unwrap_or, Option, Some, None, Result, Ok, Err}
use Rattle.std.specs.List.{range_with_len}
use Rattle.std.specs.Option.{option_map_or}
use Rattle.m51_control.specs.declared.control.Control.{Control}
use Rattle.m51_module.specs.declared.linked.Refusal.{Refusal}
use Rattle.m51_module.specs.declared.linked.Refusal.TheVariants.{L12}
use Rattle.m51_module.specs.declared.parts.LayoutParts.{LayoutParts}
use Rattle.m51_module.specs.declared.parts.ModuleParts.{ModuleParts}
use Rattle.m51_module.specs.declared.placed.Mark.{Mark}
use Rattle.m51_module.specs.declared.placed.Mark.TheVariants.{Plain, Overlaid}
use Rattle.m51_module.specs.declared.placed.Placed.{Placed}
use Rattle.m51_resolve.specs.Joining.{segments_of}
use Rattle.m51_graph.specs.declared.parts.GraphParts.{GraphParts}
use Rattle.m51_graph.specs.Graphs.{unless}
use Rattle.m51_place.specs.declared.numbered.Numbered.{Numbered}
use Rattle.m51_place.specs.declared.placing.Placing.{Placing}
use Rattle.m51_place.specs.declared.ranked.Ranked.{Ranked}
use Rattle.m51_place.specs.Bases.{least_base}
use Rattle.m51_place.specs.Fixed.{fixed_of, shared_extents}
use Rattle.m51_place.specs.Conflicts.{in_conflict, owners_at}
use Rattle.m51_place.specs.Order.{order_of}

-- the extent is in conflict with the joined segment: banks and reserves are with every one
abbrev pub in_conflict_with : GraphParts → ℕ → Numbered → Bool
in_conflict_with g number e = option_map_or (λ other. in_conflict g other number) e.number true

-- the extents that are in conflict with the joined segment
abbrev pub conflicting : GraphParts → ℕ → List Numbered → List Placed
conflicting g number earlier = map (λ (e : Numbered). e.placed) (filter (in_conflict_with g number) earlier)

-- the least base at which the segment fits and no earlier extent in conflict covers one of its cells
abbrev pub base_for : GraphParts → List Numbered → Ranked → Option ℕ
base_for g earlier t = least_base (conflicting g t.number earlier) t.segment.kind t.segment.reloc t.segment.size

abbrev pub mark_of : Option ℕ → Mark
mark_of None = Plain
mark_of (Some unit) = Overlaid

-- a segment at this base
abbrev pub located_at : Ranked → ℕ → Numbered
located_at t base = record {
  placed = record {
    title = t.segment.title;
    kind = t.segment.kind;
    reloc = t.segment.reloc;
    mark = mark_of t.own;
    base = base;
    size = t.segment.size;
  };
  number = Some t.number;
}

-- the segments in this order after the earlier extents, each at its least base; or L12 with the first for which there
-- is none
abbrev pub place_after : GraphParts → List Numbered → List Ranked → Result (List Numbered) Refusal
place_after g earlier [] = Ok earlier
place_after g earlier (t ∷ more) =
    option_map_or (λ base. place_after g (earlier ++ located_at t base ∷ []) more) (base_for g earlier t)
    (Err (L12 t.segment.title))

-- The extents of the parts of a layout.

-- the extent is the joined segment of that number
abbrev pub is_number : ℕ → Numbered → Bool
is_number number e = option_map_or (nat_eq number) e.number false

-- the index of the joined segment of that number
unfoldable pub joined_index : List Numbered → ℕ → ℕ
joined_index located number = unwrap_or (position (is_number number) located) 0

-- and its base
abbrev pub joined_base : List Numbered → ℕ → ℕ
joined_base located number = option_map_or (λ (e : Numbered). e.placed.base) (find (is_number number) located) 0

-- the owners of the extent, if it is overlaid
abbrev pub owners_of_extent : GraphParts → Numbered → List ℕ
owners_of_extent g e = option_map_or (owners_at g) e.number []

-- the extent of that index with each of these owners
abbrev pub pairs_with : ℕ → List ℕ → List (ℕ × ℕ)
pairs_with index owners = map (λ unit. (index, unit)) owners

-- each overlaid one of these extents, of which the first has that index, with its owners
abbrev pub owner_pairs : GraphParts → ℕ → List Numbered → List (ℕ × ℕ)
owner_pairs g index [] = []
owner_pairs g index (e ∷ more) = pairs_with index (owners_of_extent g e) ++ owner_pairs g (index + 1) more

-- the parts of a layout with these extents
abbrev pub parts_of_layout : GraphParts → List Numbered → LayoutParts
parts_of_layout g located = record {
  placed = map (λ (e : Numbered). e.placed) located;
  units = map (joined_index located) g.units;
  edges = g.edges;
  owners = owner_pairs g 0 located;
}

-- what is placed for chosen modules over their graph
abbrev pub located_of : List ModuleParts → List (ℕ × Control) → GraphParts → Result (List Numbered) Refusal
located_of modules controls g =
    let fixed : List Numbered = fixed_of modules controls (segments_of modules) in
    unless (shared_extents fixed) (place_after g fixed (order_of g controls (segments_of modules)))

-- the layout of these extents, and the base in it of each of `count` joined segments
abbrev pub placing_with : GraphParts → ℕ → List Numbered → Placing
placing_with g count located =
    record { layout = parts_of_layout g located; bases = map (joined_base located) (range_with_len 0 count) }

abbrev pub placing_from : GraphParts → ℕ → Result (List Numbered) Refusal → Result Placing Refusal
placing_from g count (Ok located) = Ok (placing_with g count located)
placing_from g count (Err refusal) = Err refusal

-- The placing of chosen modules over their graph: L9 where two fixed extents share a cell; L12 where there is no base
-- for a segment; else the fixed extents and the relocatable segments in their order, each at its least base.
abbrev pub placing_of : List ModuleParts → List (ℕ × Control) → GraphParts → Result Placing Refusal
placing_of modules controls g = placing_from g (length (segments_of modules)) (located_of modules controls g)

-- its layout
abbrev pub layout_from : Result Placing Refusal → Result LayoutParts Refusal
layout_from (Ok placing) = Ok placing.layout
layout_from (Err refusal) = Err refusal

abbrev pub layout_of : List ModuleParts → List (ℕ × Control) → GraphParts → Result LayoutParts Refusal
layout_of modules controls g = layout_from (placing_of modules controls g)
