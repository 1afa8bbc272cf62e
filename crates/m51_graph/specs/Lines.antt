-- Which control lines fit a program.
use Rattle.std.specs.Prelude.{ℕ, Bool, true, false, not, ◌&&◌, List, [], ◌∷◌, find, is_none, is_some, Option, Some}
use Rattle.std.specs.Prelude.{None, option_map}
use Rattle.std.specs.List.{list_any, list_all}
use Rattle.std.specs.Option.{option_map_or}
use Rattle.std.specs.Str.{bytes_eq}
use Rattle.m51_control.specs.Classes.{class_of, same_class}
use Rattle.m51_control.specs.declared.control.Class.{Class}
use Rattle.m51_control.specs.declared.control.Control.{Control}
use Rattle.m51_control.specs.declared.control.Control.TheVariants.{Add, Cut, NoOverlay, Reserve, Order}
use Rattle.m51_module.specs.Walks.{Edges}
use Rattle.m51_resolve.specs.declared.segment.JoinedSegment.{JoinedSegment}
use Rattle.m51_graph.specs.Units.{named}
use Rattle.m51_graph.specs.Locals.{overlaid_by}
use Rattle.m51_graph.specs.Drawing.{edge_named, has_edge}

abbrev pub is_of_class : Class → JoinedSegment → Bool
is_of_class class j = option_map_or (same_class class) (class_of j.kind j.reloc) false

-- the segment has that name, is relocatable and of that class, and is not overlaid
abbrev pub may_stand : List (List ℕ) → List (ℕ × Control) → Class → List ℕ → JoinedSegment → Bool
may_stand titles controls class name j =
    bytes_eq j.title name && (is_of_class class j && is_none (overlaid_by titles controls j))

-- the edge exists, and fixups make it
abbrev pub is_made : Edges → Option (ℕ × ℕ) → Bool
is_made made None = false
is_made made (Some edge) = has_edge made edge

-- a segment that has the name is allowed in an order of the class
abbrev pub stands : List (List ℕ) → List JoinedSegment → List (ℕ × Control) → Class → List ℕ → Bool
stands titles segments controls class name = list_any (may_stand titles controls class name) segments

-- A line names units that exist; it adds edges between different units, and cuts edges that fixups make; it orders
-- segments that are allowed in an order of its class.
abbrev pub fits_by : (Class → List ℕ → Bool) → List (List ℕ) → Edges → Control → Bool
fits_by may titles made (Add from names) =
    is_some (named titles from) && list_all (λ name. is_some (edge_named titles from name)) names
fits_by may titles made (Cut from names) =
    is_some (named titles from) && list_all (λ name. is_made made (edge_named titles from name)) names
fits_by may titles made (NoOverlay name) = is_some (named titles name)
fits_by may titles made (Reserve space low high) = true
fits_by may titles made (Order class names) = list_all (may class) names

-- the number of the first line that does not fit
abbrev pub bad_line_by : (Class → List ℕ → Bool) → List (List ℕ) → List (ℕ × Control) → Edges → Option ℕ
bad_line_by may titles controls made =
    option_map (λ line. line.0) (find (λ line. not (fits_by may titles made line.1)) controls)

-- L7: the number of the first line that does not fit these segments
abbrev pub bad_line : List (List ℕ) → List JoinedSegment → List (ℕ × Control) → Edges → Option ℕ
bad_line titles segments controls made = bad_line_by (stands titles segments controls) titles controls made
