-- The result of linking: the first rule that fails, or the layout, the image, its runs and the roots of the units.
use Rattle.std.specs.Prelude.{◌≡◌, ℕ, ◌+◌, ◌<◌, ◌≤◌, List, length, slice_index, Result, Ok, Err}
use Rattle.std.specs.List.{All, AllPairs}
use Rattle.m51_cells.specs.Outcome.{and_then, RefusesWith}
use Rattle.m51_control.specs.declared.control.Control.{Control}
use Rattle.m51_module.specs.declared.linked.Refusal.{Refusal}
use Rattle.m51_module.specs.declared.linked.Run.{Run}
use Rattle.m51_module.specs.declared.parts.ModuleParts.{ModuleParts}
use Rattle.m51_module.specs.Plan.{IsRootAt}
use Rattle.m51_resolve.specs.Rules.{but_memory, resolved_of}
use Rattle.m51_graph.specs.declared.parts.GraphParts.{GraphParts}
use Rattle.m51_graph.specs.Graph.{AreRootBits}
use Rattle.m51_graph.specs.Graphs.{graph_of, unless}
use Rattle.m51_place.specs.declared.placing.Placing.{Placing}
use Rattle.m51_place.specs.Placement.{placing_of}
use Rattle.m51_linker.specs.declared.linked.Linked.{Linked}
use Rattle.m51_linker.specs.Broken.{broken_rule}
use Rattle.m51_linker.specs.Image.{IsFilled, IsImage}
use Rattle.m51_linker.specs.Runs.{AreRuns}

-- a program that no rule refuses: the chosen modules, their graph, and where they are placed
pub record Program : Type 0 where
  pub modules : List ModuleParts
  pub graph : GraphParts
  pub placing : Placing

-- L13, which comes last
abbrev pub checked_of : List ModuleParts → GraphParts → Placing → Result Program Refusal
checked_of modules g placing =
    unless (broken_rule modules placing) (Ok (record { modules = modules; graph = g; placing = placing }))

-- L9 and L12 before it
abbrev pub placed_of : List ModuleParts → List (ℕ × Control) → GraphParts → Result Program Refusal
placed_of modules controls g = and_then (placing_of modules controls g) (λ (p : Placing). checked_of modules g p)

-- L6, L7, L8, L10 and L11 before these
abbrev pub joined_of : List (ℕ × Control) → List ModuleParts → Result Program Refusal
joined_of controls modules = and_then (graph_of modules controls) (λ (g : GraphParts). placed_of modules controls g)

-- The program of given modules, libraries and control lines, or the first rule that fails: Limit of modules, L1 to L4,
-- Limit of segments and of units and L5, and then the others.
abbrev pub program_of : List ModuleParts → List (List ModuleParts) → List (ℕ × Control) → Result Program Refusal
program_of given libraries controls = and_then (resolved_of given libraries) (joined_of controls)

-- for each unit a byte of the roots that it lies under: bit 0 for the reset, bits 1 to 6 for the interrupts
pub record AreRoots (g : GraphParts) (roots : List ℕ) : Type 0 where
  pub len : length roots ≡ length g.units
  pub each : (unit : ℕ) → unit < length g.units → AreRootBits g unit (slice_index roots unit)

-- the program is linked
pub record IsLinked (p : Program) (linked : Linked) : Type 0 where
  pub layout : linked.layout ≡ p.placing.layout
  pub image : IsImage p.modules p.placing linked.image
  pub written : AreRuns (IsFilled p.modules p.placing) linked.written
  pub roots : AreRoots p.graph linked.roots

-- The result of linking, where `program` is the program or the rule that fails: the program linked, or that refusal.
-- Out of memory says nothing.
abbrev pub IsLinkResult : Result Program Refusal → Result Linked Refusal → Type 0
IsLinkResult program (Ok linked) = (p : Program) × (program ≡ Ok p) × IsLinked p linked
IsLinkResult program (Err error) = RefusesWith (but_memory error) program

-- a run has bytes, all in program memory
pub record IsRunInMemory (run : Run) : Type 0 where
  pub some : 0 < run.len
  pub inside : run.first + run.len ≤ 65536

-- What a board, the map and Intel HEX ask for: a root at 0000H; a byte of roots for each unit; runs that have bytes,
-- lie in program memory, and begin each above the end of the one before.
pub record IsReady (linked : Linked) : Type 0 where
  pub reset : (unit : ℕ) × IsRootAt linked.layout 0 unit
  pub roots : length linked.roots ≡ length linked.layout.units
  pub runs : All IsRunInMemory linked.written
  pub ascending : AllPairs (λ one two. one.first + one.len < two.first) linked.written
