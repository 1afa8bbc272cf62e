-- Of the code: the extents that are in the way of a segment.
use Rattle.std.specs.Prelude.{ℕ, if◌then◌else◌, ◌&&◌, List, [], ◌∷◌, map, filter}
use Rattle.m51_cells.specs.declared.cell.Space.{Space}
use Rattle.m51_cells.specs.declared.extent.Extent.{Extent}
use Rattle.m51_bases.specs.Raising.{same_space}
use Rattle.m51_module.specs.declared.placed.Placed.{Placed}
use Rattle.m51_module.specs.Cells.{extent_at}
use Rattle.m51_graph.specs.declared.parts.GraphParts.{GraphParts}
use Rattle.m51_place.specs.declared.numbered.Numbered.{Numbered}
use Rattle.m51_place.specs.Placement.{in_conflict_with}

-- the extents that lie in this memory
abbrev pub extents_in : Space → List Placed → List Extent
extents_in space conflicting = filter (λ (e : Extent). same_space e.space space) (map extent_at conflicting)

-- the cells of the extents of this memory that are in conflict with the joined segment
abbrev pub in_the_way : GraphParts → ℕ → Space → List Numbered → List Extent
in_the_way g number space [] = []
in_the_way g number space (e ∷ more) =
    if same_space (extent_at e.placed).space space && in_conflict_with g number e
    then extent_at e.placed ∷ in_the_way g number space more else in_the_way g number space more
