-- What build writes of the overlay: the figure and the chains of its map, and L12 where the overlaid segments have no
-- room.
use Rattle.std.specs.Prelude.{◌≡◌, ◌↔◌, ◌++◌, ℕ, codes, flat_map, length, slice_get, List, Some, Ok}
use Rattle.std.specs.Fmt.{decimal}
use Rattle.m51_control.specs.declared.control.Control.{Control}
use Rattle.m51_module.specs.declared.linked.Chain.{Chain}
use Rattle.m51_module.specs.declared.linked.Refusal.TheVariants.{L12}
use Rattle.m51_module.specs.declared.parts.LayoutParts.{LayoutParts}
use Rattle.m51_module.specs.declared.parts.ModuleParts.{ModuleParts}
use Rattle.m51_module.specs.Chains.{AreHeaviest}
use Rattle.m51_resolve.specs.declared.segment.JoinedSegment.{JoinedSegment}
use Rattle.m51_resolve.specs.Joining.{segments_of}
use Rattle.m51_resolve.specs.Rules.{resolved_of}
use Rattle.m51_graph.specs.declared.parts.GraphParts.{GraphParts}
use Rattle.m51_graph.specs.Graph.{IsOwn}
use Rattle.m51_graph.specs.Graphs.{graph_of}
use Rattle.m51_place.specs.declared.placing.Placing.{Placing}
use Rattle.m51_place.specs.Fixed.{fixed_of}
use Rattle.m51_place.specs.Order.{order_of}
use Rattle.m51_place.specs.Overlay.{ExceedsRun, IsWeightOf, LeavesRun, OverlaysData}
use Rattle.m51_place.specs.Placement.{placing_of}
use Rattle.m51_print.specs.Map.{line_of_chain, segment_line, unit_lines}
use Rattle.m51_print.specs.Refusals.{refusal_text}
use Rattle.m51_inputs.specs.Inputs.{InputsTree}
use Rattle.m51_jobs.specs.declared.job.BuildJob.{BuildJob}
use Rattle.m51_jobs.specs.declared.job.Job.TheVariants.{Build}
use Rattle.m51_chain.specs.declared.status.Status.TheVariants.{Link}
use Rattle.m51_chain.specs.Builds.{build_files}
use Rattle.m51_chain.specs.Outcome.{Outcome}
use Rattle.m51_chain.specs.ProgramFiles.{AreAnswered}
use Rattle.m51_chain.specs.Verbs.{IsOutcome}
use Rattle.m51_build_proof.specs.Builds.{AreOfBytes, IsRun}
use Rattle.m51_build_proof.specs.Layouts.{CoversLeast}

-- The build comes as far as placing: its files, which are of bytes, are accepted, and no rule of the link before L9
-- fails. These modules are chosen, with these control lines, and this is their graph; L9, L12 and L13 are left.
pub record ReachesPlacing (job : BuildJob) (contents : List (List ℕ)) (modules : List ModuleParts)
    (controls : List (ℕ × Control)) (g : GraphParts) : Type 0 where
  pub bytes : AreOfBytes contents
  pub inputs : InputsTree
  pub read : AreAnswered (build_files job) contents (Ok inputs)
  pub lines : inputs.controls ≡ controls
  pub chosen : resolved_of inputs.modules inputs.libraries ≡ Ok modules
  pub graph : graph_of modules controls ≡ Ok g

-- The premise. Each overlaid segment is DATA of type UNIT, and none is an argument segment. When all segments before
-- the overlaid ones have their bases, the bytes below 80H of which no bit is covered are one run, from the low one on
-- and before the high one. The weight is that of the graph: the bytes of the heaviest walk from each root, and of
-- overlaid segments whose unit lies under no root.
pub record IsPremise (modules : List ModuleParts) (controls : List (ℕ × Control)) (g : GraphParts)
    (low high weight : ℕ) : Type 0 where
  pub overlaid : OverlaysData (segments_of modules) g
  pub run : LeavesRun g (fixed_of modules controls (segments_of modules)) (order_of g controls (segments_of modules))
      low high
  pub weight_is : IsWeightOf (segments_of modules) g weight

-- The text begins with the map of a layout: its segments and units, a line CHAIN for the heaviest walk from each root,
-- and the line OVERLAID with the weight.
pub record PrintsWeight (l : LayoutParts) (weight : ℕ) (text : List ℕ) : Type 0 where
  pub roots : List ℕ
  pub chains : List Chain
  pub heaviest : AreHeaviest l chains
  pub after : List ℕ
  pub is : text ≡ codes "SEGMENTS\n" ++ flat_map segment_line l.placed
      ++ codes "UNITS\n" ++ unit_lines l roots (length l.units)
      ++ flat_map (line_of_chain l) chains
      ++ (codes "OVERLAID " ++ decimal weight ++ codes " BYTES\n")
      ++ after

-- The map is that of the layout that placing gives, which covers that many bytes by overlaid segments, and no sound
-- layout of the same segments covers fewer.
pub record PrintsLeast (modules : List ModuleParts) (controls : List (ℕ × Control)) (g : GraphParts) (weight : ℕ)
    (text : List ℕ) : Type 0 where
  pub placing : Placing
  pub placed : placing_of modules controls g ≡ Ok placing
  pub prints : PrintsWeight placing.layout weight text
  pub least : CoversLeast placing.layout weight

-- Under the premise a build that is linked prints the heaviest walks and the weight. Its overlaid segments cover that
-- many bytes, and those of no sound layout of the same segments fewer.
abbrev pub BuildPrintsLeast : Type 0
BuildPrintsLeast = (job : BuildJob) (contents : List (List ℕ)) (outcome : Outcome) (modules : List ModuleParts)
    (controls : List (ℕ × Control)) (g : GraphParts) (low high weight : ℕ)
    → IsOutcome (Build job) contents outcome → IsRun outcome → ReachesPlacing job contents modules controls g
    → IsPremise modules controls g low high weight → PrintsLeast modules controls g weight outcome.text

-- the build is refused: status 4, and the line of L12 with the name of an overlaid segment
pub record RefusesOverlay (modules : List ModuleParts) (g : GraphParts) (outcome : Outcome) : Type 0 where
  pub number : ℕ
  pub unit : ℕ
  pub segment : JoinedSegment
  pub is : slice_get (segments_of modules) number ≡ Some segment
  pub overlaid : IsOwn g unit number
  pub status : outcome.status ≡ Link
  pub text : outcome.text ≡ refusal_text (L12 segment.title)

-- Under the premise a build is refused so exactly if the weight exceeds the length of the run, and neither L9 comes nor
-- L12 for a segment before the overlaid ones.
abbrev pub BuildRefusesOverlay : Type 0
BuildRefusesOverlay = (job : BuildJob) (contents : List (List ℕ)) (outcome : Outcome) (modules : List ModuleParts)
    (controls : List (ℕ × Control)) (g : GraphParts) (low high weight : ℕ)
    → IsOutcome (Build job) contents outcome → ReachesPlacing job contents modules controls g
    → IsPremise modules controls g low high weight
    → RefusesOverlay modules g outcome
    ↔ ExceedsRun g (fixed_of modules controls (segments_of modules)) (order_of g controls (segments_of modules))
    low high weight

-- the build comes as far as placing, with some modules, control lines and graph
pub record ComesToPlacing (job : BuildJob) (contents : List (List ℕ)) : Type 0 where
  pub modules : List ModuleParts
  pub controls : List (ℕ × Control)
  pub g : GraphParts
  pub reaches : ReachesPlacing job contents modules controls g

-- The line of L12 comes only there: no file is refused, and no rule fails before.
abbrev pub L12OnlyAtPlacing : Type 0
L12OnlyAtPlacing = (job : BuildJob) (contents : List (List ℕ)) (outcome : Outcome) (name : List ℕ)
    → AreOfBytes contents → IsOutcome (Build job) contents outcome → outcome.status ≡ Link
    → outcome.text ≡ refusal_text (L12 name) → ComesToPlacing job contents

-- the graph has a weight
pub record HasWeight (segments : List JoinedSegment) (g : GraphParts) : Type 0 where
  pub weight : ℕ
  pub is : IsWeightOf segments g weight

-- Each build that comes as far as placing has a weight.
abbrev pub BuildHasWeight : Type 0
BuildHasWeight = (job : BuildJob) (contents : List (List ℕ)) (modules : List ModuleParts)
    (controls : List (ℕ × Control)) (g : GraphParts)
    → ReachesPlacing job contents modules controls g → HasWeight (segments_of modules) g
