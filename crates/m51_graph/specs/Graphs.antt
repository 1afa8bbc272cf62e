-- The graph of joined modules and control lines, or the refusal of the first rule that fails.
use Rattle.std.specs.Prelude.{ℕ, false, ◌+◌, Bool, ◌&&◌, ◌||◌, nat_eq, if◌then◌else◌, List, [], ◌∷◌, map, filter}
use Rattle.std.specs.Prelude.{Option, Some, None, option_map, Result, Ok, Err}
use Rattle.std.specs.List.{list_any}
use Rattle.std.specs.Option.{option_or, option_map_or}
use Rattle.m51_cells.specs.Name.{title_at}
use Rattle.m51_control.specs.declared.control.Control.{Control}
use Rattle.m51_module.specs.declared.linked.Refusal.{Refusal}
use Rattle.m51_module.specs.declared.linked.Refusal.TheVariants.{L6, L7, L8, L10, L11}
use Rattle.m51_module.specs.declared.parts.ModuleParts.{ModuleParts}
use Rattle.m51_module.specs.Roots.{vectors}
use Rattle.m51_module.specs.Walks.{Edges}
use Rattle.m51_resolve.specs.declared.segment.JoinedSegment.{JoinedSegment}
use Rattle.m51_resolve.specs.Joining.{segments_of}
use Rattle.m51_graph.specs.declared.parts.GraphParts.{GraphParts}
use Rattle.m51_graph.specs.Units.{units_of, unit_titles, roots_of}
use Rattle.m51_graph.specs.Locals.{lost_segment, own_units}
use Rattle.m51_graph.specs.Drawing.{fixup_edges, edges_of}
use Rattle.m51_graph.specs.Lines.{bad_line}
use Rattle.m51_graph.specs.Leading.{leads}

-- Below, reach says which unit reaches which.
-- the unit is the root at the vector, or that root reaches it
abbrev pub lies_under : (ℕ → ℕ → Bool) → List (ℕ × ℕ) → ℕ → ℕ → Bool
lies_under reach roots vector unit =
    list_any (λ root. nat_eq root.0 vector && (nat_eq root.1 unit || reach root.1 unit)) roots

-- the vectors of the roots above a unit, ascending
abbrev pub roots_above : (ℕ → ℕ → Bool) → List (ℕ × ℕ) → ℕ → List ℕ
roots_above reach roots unit = filter (λ vector. lies_under reach roots vector unit) vectors

-- the unit has an overlaid local or an overlaid argument segment
abbrev pub has_overlaid : List (Option ℕ) → ℕ → Bool
has_overlaid own unit = list_any (λ found. option_map_or (nat_eq unit) found false) own

-- L8: there is no root at 0000H
abbrev pub lacks_reset : List (ℕ × ℕ) → Option Refusal
lacks_reset roots = if list_any (λ root. nat_eq root.0 0) roots then None else Some L8

-- L10: the titles of those that reach themselves of these units, the first of which has that number
abbrev pub cyclic_from : (ℕ → ℕ → Bool) → ℕ → List (List ℕ) → List (List ℕ)
cyclic_from reach unit [] = []
cyclic_from reach unit (title ∷ more) =
    if reach unit unit then title ∷ cyclic_from reach (unit + 1) more else cyclic_from reach (unit + 1) more

abbrev pub on_cycles : List (List ℕ) → Option Refusal
on_cycles [] = None
on_cycles (title ∷ more) = Some (L10 (title ∷ more))

-- L11: the first of these units, of which the first has that number, that has an overlaid local or argument segment and
-- lies under two roots
abbrev pub under_two : List ℕ → List ℕ → Option Refusal
under_two title [] = None
under_two title (one ∷ []) = None
under_two title (one ∷ two ∷ more) = Some (L11 title (title_at one) (title_at two))

abbrev pub unit_under_two : (ℕ → ℕ → Bool) → List (ℕ × ℕ) → List (Option ℕ) → ℕ → List ℕ → Option Refusal
unit_under_two reach roots own unit title =
    if has_overlaid own unit then under_two title (roots_above reach roots unit) else None

abbrev pub first_under_two : (ℕ → ℕ → Bool) → List (ℕ × ℕ) → List (Option ℕ) → ℕ → List (List ℕ) → Option Refusal
first_under_two reach roots own unit [] = None
first_under_two reach roots own unit (title ∷ more) =
    option_or (unit_under_two reach roots own unit title) (first_under_two reach roots own (unit + 1) more)

-- what follows, unless a rule fails
abbrev pub unless : {V : Type 0} → Option Refusal → Result V Refusal → Result V Refusal
unless None next = next
unless (Some refusal) next = Err refusal

-- nothing, unless the rule fails
abbrev pub passed : Option Refusal → Result (Unit {0}) Refusal
passed rule = unless rule (Ok tt)

-- the parts of the graph of joined segments with these edges
abbrev pub parts_of : List JoinedSegment → List (ℕ × Control) → Edges → GraphParts
parts_of segments controls edges = record {
  units = units_of segments;
  edges = edges;
  roots = roots_of segments;
  own = own_units (unit_titles segments) controls segments;
  arguments = map (λ j. j.argument) segments;
}

-- the rules on edges and roots, L8, L10 and L11
abbrev pub judged_by : (ℕ → ℕ → Bool) → List (List ℕ) → GraphParts → Result GraphParts Refusal
judged_by reach titles g =
    unless (lacks_reset g.roots) (
    unless (on_cycles (cyclic_from reach 0 titles)) (
    unless (first_under_two reach g.roots g.own 0 titles) (
    Ok g)))

abbrev pub judged : List (List ℕ) → GraphParts → Result GraphParts Refusal
judged titles g = judged_by (leads g.edges) titles g

-- the graph of segments and control lines over the edges that fixups make
abbrev pub graph_over : List JoinedSegment → List (ℕ × Control) → Edges → Result GraphParts Refusal
graph_over segments controls made =
    let titles = unit_titles segments in
    unless (option_map L6 (lost_segment titles segments)) (
    unless (option_map L7 (bad_line titles segments controls made)) (
    judged titles (parts_of segments controls (edges_of titles controls made))))

-- The graph of chosen modules and control lines.
abbrev pub graph_of : List ModuleParts → List (ℕ × Control) → Result GraphParts Refusal
graph_of modules controls = graph_over (segments_of modules) controls (fixup_edges modules)
