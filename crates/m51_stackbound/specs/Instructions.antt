-- What an instruction does with SP and with control, and which addresses it may lead to.
use Rattle.std.specs.Prelude.{ℕ, ◌+◌, ◌%◌, Bool, true, false, nat_eq, if◌then◌else◌, List, [], ◌∷◌}
use Rattle.std.specs.Prelude.{slice_index, Option, Some, None}
use Rattle.m51_isa.specs.declared.instr.Instr.{Instr}
use Rattle.m51_isa.specs.declared.instr.Instr.TheVariants.{JmpAtADptr, MovDirectData}
use Rattle.m51_isa.specs.declared.instr.Stack.{Stack}
use Rattle.m51_isa.specs.declared.instr.Stack.TheVariants.{Push, Pop, Call, Return}
use Rattle.m51_isa.specs.declared.instr.Written.{Written}
use Rattle.m51_isa.specs.declared.instr.Written.TheVariants.{Direct}
pub use Rattle.m51_isa.specs.Changes.{is_jump}
use Rattle.m51_isa.specs.Changes.{stack_of, written_of}
use Rattle.m51_isa.specs.Table.{decoded}
pub use Rattle.m51_isa.specs.Targets.{next_of, target_of}
use Rattle.m51_sfr.specs.declared.addresses.TheConstants.{SP}

-- the instruction that begins at an address; after FFFFH the addresses of its bytes continue with 0
unfoldable pub instr_at : List ℕ → ℕ → Option Instr
instr_at image at =
    decoded (slice_index image at ∷ slice_index image ((at + 1) % 65536) ∷ slice_index image ((at + 2) % 65536) ∷ [])

-- it writes SP by an operand
abbrev pub is_at_sp : Written → Bool
is_at_sp (Direct direct) = nat_eq direct SP
is_at_sp _ = false

abbrev pub writes_sp : Instr → Bool
writes_sp instr = is_at_sp (written_of instr)

-- the value that `MOV SP,#data` gives SP
abbrev pub sets_sp : Instr → Option ℕ
sets_sp (MovDirectData direct value) = if nat_eq direct SP then Some value else None
sets_sp _ = None

abbrev pub pushes : Stack → Bool
pushes Push = true
pushes _ = false

abbrev pub is_push : Instr → Bool
is_push instr = pushes (stack_of instr)

abbrev pub pops : Stack → Bool
pops Pop = true
pops _ = false

abbrev pub is_pop : Instr → Bool
is_pop instr = pops (stack_of instr)

abbrev pub calls : Stack → Bool
calls Call = true
calls _ = false

abbrev pub is_call : Instr → Bool
is_call instr = calls (stack_of instr)

-- RET or RETI
abbrev pub returns : Stack → Bool
returns Return = true
returns _ = false

abbrev pub is_return : Instr → Bool
is_return instr = returns (stack_of instr)

-- `JMP @A+DPTR`
abbrev pub is_computed : Instr → Bool
is_computed JmpAtADptr = true
is_computed _ = false
