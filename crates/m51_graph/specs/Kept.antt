-- Of the code: what a graph keeps besides its parts.
use Rattle.std.specs.Prelude.{◌≡◌, ℕ, length, map}
use Rattle.std.specs.List.{range_with_len}
use Rattle.m51_graph.specs.declared.parts.GraphParts.{GraphParts}
use Rattle.m51_graph.specs.declared.tables.Tables.{Tables}
use Rattle.m51_relations.specs.Rows.{pairs}
use Rattle.m51_graph.specs.Climbing.{AreSettled, AreWalked}
use Rattle.m51_graph.specs.Drawing.{edge_test}
use Rattle.m51_graph.specs.Graph.{IsGraph}
use Rattle.m51_graph.specs.Leading.{leads}
use Rattle.m51_relations.specs.OwnerPairs.{AreOwnerPairs}
use Rattle.m51_graph.specs.Relating.{root_byte}

-- the tables are those of the parts
pub record AreTables (g : GraphParts) (t : Tables) : Type 0 where
  pub edge_count : t.edges.count ≡ length g.units
  pub edges : pairs t.edges ≡ edge_test g.edges
  pub reach_count : t.reach.count ≡ length g.units
  pub reach : pairs t.reach ≡ leads g.edges
  pub under : t.under.items ≡ map (root_byte (leads g.edges) g.roots) (range_with_len 0 (length g.units))
  pub level_count : length t.levels.items ≡ length g.units
  pub walked : AreWalked g.edges t.levels.items
  pub settled : AreSettled g.edges t.levels.items
  pub owners : AreOwnerPairs (edge_test g.edges) (leads g.edges) t.under.items (length g.units) t.owners

-- the parts are those of a graph, and the tables are theirs
pub record IsKeptGraph (g : GraphParts) (t : Tables) : Type 0 where
  pub graph : IsGraph g
  pub tables : AreTables g t
