-- The stack bound of a program, and why it has none. Units are printed by title.
use Rattle.std.specs.Prelude.{ℕ, ◌<◌, List, [], ◌++◌, codes, All, map, flat_map, length}
use Rattle.std.specs.Fmt.{decimal}
use Rattle.m51_cells.specs.Hex.{hex2, hex4}
use Rattle.m51_module.specs.declared.linked.Quantity.TheVariants.{Points}
use Rattle.m51_module.specs.declared.parts.LayoutParts.{LayoutParts}
use Rattle.m51_module.specs.declared.stack_bound.Proc.{Proc}
use Rattle.m51_module.specs.declared.stack_bound.RootDepth.{RootDepth}
use Rattle.m51_module.specs.declared.stack_bound.StackBound.{StackBound}
use Rattle.m51_module.specs.declared.stack_bound.StackError.{StackError}
use Rattle.m51_module.specs.declared.stack_bound.StackError.TheVariants.{K1, K2, K3, K4, K5, K6, Limit, Memory}
use Rattle.m51_module.specs.declared.start.Start.{Start}
use Rattle.m51_module.specs.declared.start.Start.TheVariants.{Reset, At}
use Rattle.m51_print.specs.Map.{listed, unit_title}
use Rattle.m51_print.specs.Refusals.{limit_text}

-- a start: the reset, or an address
abbrev pub start_text : Start → List ℕ
start_text Reset = codes "RESET"
start_text (At address) = hex4 address

-- the line of a procedure: its address, its unit and its depth
unfoldable pub proc_line : ℕ → List ℕ → ℕ → List ℕ
proc_line at unit depth =
    codes "PROC " ++ hex4 at ++ codes " " ++ unit ++ codes " " ++ decimal depth ++ codes "\n"

abbrev pub line_of_proc : LayoutParts → Proc → List ℕ
line_of_proc l proc = proc_line proc.at (unit_title l proc.unit) proc.depth

-- the line of a root: its unit, its depth and the starts of its path
unfoldable pub root_line : List ℕ → ℕ → List Start → List ℕ
root_line root depth path =
    codes "STACK " ++ root ++ codes " " ++ decimal depth ++ codes " " ++ listed (map start_text path) ++ codes "\n"

abbrev pub line_of_root : LayoutParts → RootDepth → List ℕ
line_of_root l root = root_line (unit_title l root.root) root.depth root.path

-- the line of the bound on SP
abbrev pub bound_line : ℕ → List ℕ
bound_line total = codes "BOUND " ++ hex2 total ++ codes "\n"

-- a stack bound: each procedure, each root, and the bound on SP
unfoldable pub stack_of : LayoutParts → StackBound → List ℕ
stack_of l bound =
    flat_map (line_of_proc l) bound.procs ++ flat_map (line_of_root l) bound.roots ++ bound_line bound.total

-- the units and roots that a bound names are units of the layout
pub record IsBoundOf (l : LayoutParts) (bound : StackBound) : Type 0 where
  pub procs : All (λ proc. proc.unit < length l.units) bound.procs
  pub roots : All (λ root. root.root < length l.units) bound.roots

-- a start and an address
abbrev pub placed_at : Start → ℕ → List ℕ
placed_at start at = start_text start ++ codes " AT " ++ hex4 at

-- why there is no bound; never used for out of memory, which has no text
abbrev pub stack_words : StackError → List ℕ
stack_words (K1 start at) = codes "STACK K1 " ++ placed_at start at
stack_words (K2 start at) = codes "STACK K2 " ++ placed_at start at
stack_words (K3 start at) = codes "STACK K3 " ++ placed_at start at
stack_words (K4 start) = codes "STACK K4 " ++ start_text start
stack_words (K5 start at) = codes "STACK K5 " ++ placed_at start at
stack_words K6 = codes "STACK K6"
stack_words Limit = codes "LIMIT " ++ limit_text Points
stack_words Memory = []

-- the line of it
abbrev pub stack_refusal : StackError → List ℕ
stack_refusal error = stack_words error ++ codes "\n"
