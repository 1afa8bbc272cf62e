-- The points of a program: from which starts, at which addresses and with how much on the stack control may be.
use Rattle.std.specs.Prelude.{ℕ, ◌+◌, ◌-◌, Bool, true, false, not, ◌&&◌, ◌||◌, nat_eq, if◌then◌else◌, List, [], ◌∷◌}
use Rattle.std.specs.Prelude.{◌++◌, map, Option, Some, None, is_some}
use Rattle.std.specs.List.{Contains}
use Rattle.std.specs.Option.{unwrap_or}
use Rattle.m51_isa.specs.declared.instr.Instr.{Instr}
use Rattle.m51_isa.specs.Table.{length_of}
use Rattle.m51_module.specs.declared.parts.LayoutParts.{LayoutParts}
use Rattle.m51_stackbound.specs.declared.point.Point.{Point}
use Rattle.m51_module.specs.declared.start.Start.{Start}
use Rattle.m51_module.specs.declared.start.Start.TheVariants.{Reset, At}
use Rattle.m51_stackbound.specs.Instructions.{instr_at, next_of, writes_sp, sets_sp, is_push, is_pop, is_call}
use Rattle.m51_stackbound.specs.Instructions.{is_return, is_computed, is_jump, target_of}
use Rattle.m51_stackbound.specs.Units.{counts, handlers, in_one_unit, lie_inside}

abbrev pub point_at : Start → ℕ → ℕ → Point
point_at start address height = record { start = start; address = address; height = height }

-- the first points: the reset with SP 07H, and each interrupt that has a handler
abbrev pub entry_at : ℕ → Point
entry_at address = point_at (At address) address 0

abbrev pub first_points : LayoutParts → List Point
first_points l = point_at Reset 0 7 ∷ map entry_at (handlers l)

-- the instruction at an address, where its bytes lie in the unit that covers the address
abbrev pub if_inside : LayoutParts → ℕ → Option Instr → Option Instr
if_inside l at None = None
if_inside l at (Some instr) = if lie_inside l at (length_of instr) then Some instr else None

unfoldable pub instruction : LayoutParts → List ℕ → ℕ → Option Instr
instruction l image at = if_inside l at (instr_at image at)

-- K1: it writes SP by an operand, and is not `MOV SP,#data` under the reset
abbrev pub is_reset : Start → Bool
is_reset Reset = true
is_reset (At address) = false

unfoldable pub sets_stack : Point → Instr → Bool
sets_stack p instr = writes_sp instr && not (is_reset p.start && is_some (sets_sp instr))

-- K3: POP at height 0
unfoldable pub pops_below : Point → Instr → Bool
pops_below p instr = is_pop instr && nat_eq p.height 0

-- PUSH at height 255
unfoldable pub pushes_above : Point → Instr → Bool
pushes_above p instr = is_push instr && nat_eq p.height 255

-- the point has no successor: a return, a condition of K1, K2 or K3, or PUSH at height 255
unfoldable pub ends_at : Point → Instr → Bool
ends_at p instr =
    is_return instr || sets_stack p instr || is_computed instr || pops_below p instr || pushes_above p instr

-- the height after an instruction that is no call
unfoldable pub height_after : ℕ → Instr → ℕ
height_after height instr =
    if is_push instr then height + 1 else if is_pop instr then height - 1 else unwrap_or (sets_sp instr) height

-- control continues at the next address, in the same unit
unfoldable pub at_next : LayoutParts → Point → ℕ → ℕ → List Point
at_next l p next height = if in_one_unit l p.address next then point_at p.start next height ∷ [] else []

-- control goes to a target that counts
unfoldable pub at_target : LayoutParts → Point → Option ℕ → ℕ → List Point
at_target l p None height = []
at_target l p (Some target) height = if counts l p.address target then point_at p.start target height ∷ [] else []

-- the target of a call, where it counts
unfoldable pub called : LayoutParts → Point → Option ℕ → Option ℕ
called l p None = None
called l p (Some target) = if counts l p.address target then Some target else None

-- a call begins its target as a start of its own, and control comes back to the next address
abbrev pub after_call : LayoutParts → Point → ℕ → Option ℕ → List Point
after_call l p next None = []
after_call l p next (Some target) = entry_at target ∷ at_next l p next p.height

abbrev pub after_instr : LayoutParts → Point → Instr → ℕ → List Point
after_instr l p instr next =
    if is_jump instr then at_target l p (target_of instr next) p.height
    else at_next l p next (height_after p.height instr)
    ++ at_target l p (target_of instr next) (height_after p.height instr)

-- the successors of a point whose instruction does not end it, at its next address
abbrev pub follow : LayoutParts → Point → Instr → ℕ → List Point
follow l p instr next =
    if is_call instr then after_call l p next (called l p (target_of instr next)) else after_instr l p instr next

unfoldable pub follow_by : LayoutParts → Point → Option Instr → List Point
follow_by l p None = []
follow_by l p (Some instr) = if ends_at p instr then [] else follow l p instr (next_of instr p.address)

-- the successors of a point
abbrev pub successors : LayoutParts → List ℕ → Point → List Point
successors l image p = follow_by l p (instruction l image p.address)

-- the start that a point calls
unfoldable pub call_by : LayoutParts → Point → Option Instr → Option ℕ
call_by l p None = None
call_by l p (Some instr) = if is_call instr then called l p (target_of instr (next_of instr p.address)) else None

abbrev pub call_of : LayoutParts → List ℕ → Point → Option ℕ
call_of l image p = call_by l p (instruction l image p.address)

-- the least set that has these first points and with each point its successors
pub data IsReached (l : LayoutParts) (image : List ℕ) (firsts : List Point) : Point → Type 0 where
  First : (p : Point) → Contains firsts p → IsReached l image firsts p
  After : (p q : Point) → IsReached l image firsts p → Contains (successors l image p) q → IsReached l image firsts q

-- the points of the program
abbrev pub IsPoint : LayoutParts → List ℕ → Point → Type 0
IsPoint l image = IsReached l image (first_points l)
