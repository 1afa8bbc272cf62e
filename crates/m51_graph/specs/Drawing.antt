-- The edges of a program: where a fixup placed in one unit refers to another, or a control line adds one, and no line
-- cuts it.
use Rattle.std.specs.Prelude.{ℕ, Bool, false, not, ◌&&◌, nat_eq, if◌then◌else◌, List, [], ◌∷◌, ◌++◌, filter, flat_map}
use Rattle.std.specs.Prelude.{length, slice_get, Option, Some, None}
use Rattle.std.specs.List.{list_any, filter_map, range_with_len}
use Rattle.std.specs.Option.{option_map_or}
use Rattle.m51_cells.specs.declared.kind.Base.TheVariants.{Segment as InSegment}
use Rattle.m51_control.specs.declared.control.Control.{Control}
use Rattle.m51_control.specs.declared.control.Control.TheVariants.{Add, Cut}
use Rattle.m51_module.specs.declared.content.Fixup.{Fixup}
use Rattle.m51_module.specs.declared.parts.ModuleParts.{ModuleParts}
use Rattle.m51_module.specs.Walks.{Edges}
use Rattle.m51_graph.specs.Units.{named, unit_of}

-- the edge from one unit to another: there is none from a unit to itself
abbrev pub edge_between : Option ℕ → Option ℕ → Option (ℕ × ℕ)
edge_between None to = None
edge_between (Some from) None = None
edge_between (Some from) (Some to) = if nat_eq from to then None else Some (from, to)

-- the edge that a fixup makes, whatever its form
abbrev pub fixup_edge : List ModuleParts → ℕ → Fixup → Option (ℕ × ℕ)
fixup_edge modules m f = edge_between (unit_of modules m (InSegment f.segment)) (unit_of modules m f.target)

-- the edge is one of these
abbrev pub same_edge : ℕ × ℕ → ℕ × ℕ → Bool
same_edge one two = nat_eq one.0 two.0 && nat_eq one.1 two.1

abbrev pub has_edge : Edges → ℕ × ℕ → Bool
has_edge edges edge = list_any (same_edge edge) edges

-- an edge leads from the one to the other
abbrev pub edge_test : Edges → ℕ → ℕ → Bool
edge_test edges from to = has_edge edges (from, to)

-- with one more edge, unless it is present already; with more, in their order
abbrev pub with_edge : Edges → ℕ × ℕ → Edges
with_edge edges edge = if has_edge edges edge then edges else edges ++ edge ∷ []

abbrev pub with_edges : Edges → Edges → Edges
with_edges edges [] = edges
with_edges edges (edge ∷ more) = with_edges (with_edge edges edge) more

-- the edges that the fixups of the module of that number make
abbrev pub module_edges : List ModuleParts → ℕ → Edges
module_edges modules m =
    option_map_or (λ (parts : ModuleParts). filter_map (fixup_edge modules m) parts.fixups) (slice_get modules m) []

-- the edges that fixups make, each once, in order of first sight
abbrev pub fixup_edges : List ModuleParts → Edges
fixup_edges modules = with_edges [] (flat_map (module_edges modules) (range_with_len 0 (length modules)))

-- the edge from the one named unit to the other
abbrev pub edge_named : List (List ℕ) → List ℕ → List ℕ → Option (ℕ × ℕ)
edge_named titles from to = edge_between (named titles from) (named titles to)

-- the edges that a control line adds
abbrev pub added_by : List (List ℕ) → Control → Edges
added_by titles (Add from names) = filter_map (edge_named titles from) names
added_by titles other = []

-- the edge is that one, if there is one
abbrev pub is_edge : ℕ × ℕ → Option (ℕ × ℕ) → Bool
is_edge edge found = option_map_or (same_edge edge) found false

-- a control line cuts the edge
abbrev pub cuts : List (List ℕ) → ℕ × ℕ → Control → Bool
cuts titles edge (Cut from names) = list_any (λ name. is_edge edge (edge_named titles from name)) names
cuts titles edge other = false

abbrev pub is_cut : List (List ℕ) → List (ℕ × Control) → ℕ × ℕ → Bool
is_cut titles controls edge = list_any (λ line. cuts titles edge line.1) controls

-- with the edges that lines add
abbrev pub with_added : List (List ℕ) → List (ℕ × Control) → Edges → Edges
with_added titles controls made = with_edges made (flat_map (λ line. added_by titles line.1) controls)

-- The edges that fixups make or lines add, without those that a line cuts: a cut wins, whatever the order of the lines.
abbrev pub edges_of : List (List ℕ) → List (ℕ × Control) → Edges → Edges
edges_of titles controls made = filter (λ edge. not (is_cut titles controls edge)) (with_added titles controls made)
