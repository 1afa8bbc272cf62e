-- Of the code: edges while they are drawn.
use Rattle.std.specs.Prelude.{ℕ, ◌<◌, Option}
use Rattle.std.specs.Option.{option_map_or}
use Rattle.m51_module.specs.Walks.{Edges}
use Rattle.m51_graph.specs.Drawing.{with_edge}

-- edges between `count` units
pub record DrawnEdges : Type 0 where
  pub count : ℕ
  pub list : Edges

-- with that edge, if one was found, unless it is present already
abbrev pub with_found : Edges → Option (ℕ × ℕ) → Edges
with_found edges found = option_map_or (with_edge edges) found edges

-- both units of an edge are below `count`
pub record IsEdgeWithin (count : ℕ) (edge : ℕ × ℕ) : Type 0 where
  pub from : edge.0 < count
  pub to : edge.1 < count
