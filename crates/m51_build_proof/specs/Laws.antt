-- The figure that a map prints of overlaid bytes is the weight of the heaviest chains.
use Rattle.std.specs.Prelude.{◌≡◌, ℕ, ◌++◌, codes, List, Ok}
use Rattle.std.specs.List.{All}
use Rattle.std.specs.Fmt.{decimal}
use Rattle.m51_control.specs.declared.control.Control.{Control}
use Rattle.m51_control.specs.Controls.{AreKept}
use Rattle.m51_module.specs.declared.parts.ModuleParts.{ModuleParts}
use Rattle.m51_module.specs.Validity.{IsValid}
use Rattle.m51_resolve.specs.Joining.{segments_of}
use Rattle.m51_resolve.specs.Rules.{AreResolved}
use Rattle.m51_graph.specs.declared.parts.GraphParts.{GraphParts}
use Rattle.m51_graph.specs.Graph.{IsGraph}
use Rattle.m51_graph.specs.Graphs.{graph_of}
use Rattle.m51_place.specs.declared.placing.Placing.{Placing}
use Rattle.m51_place.specs.Bound.{IsWeight}
use Rattle.m51_place.specs.Fixed.{fixed_of}
use Rattle.m51_place.specs.Order.{order_of}
use Rattle.m51_place.specs.Overlay.{FindsRun, OverlaysData}
use Rattle.m51_place.specs.Placement.{placing_of}
use Rattle.m51_print.specs.Map.{overlaid_line}

-- Where overlaid segments are of DATA of type UNIT only, none an argument segment, and find one run of open bytes, the
-- map of the layout that placing gives has this line with the weight.
abbrev pub PrintedFigureIsWeight : Type 0
PrintedFigureIsWeight = (modules : List ModuleParts) (controls : List (ℕ × Control)) (g : GraphParts) (p : Placing)
    (low high weight : ℕ) → All IsValid modules → AreResolved modules → AreKept controls → IsGraph g
    → graph_of modules controls ≡ Ok g → placing_of modules controls g ≡ Ok p → OverlaysData (segments_of modules) g
    → FindsRun g (fixed_of modules controls (segments_of modules)) (order_of g controls (segments_of modules)) low high
    → IsWeight p.layout weight
    → overlaid_line p.layout.placed ≡ codes "OVERLAID " ++ decimal weight ++ codes " BYTES\n"
