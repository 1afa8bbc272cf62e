-- The line of a state: what holds after a number of steps, and what the next step is.
use Rattle.std.specs.Prelude.{ℕ, Bool, nat_lt, min, if◌then◌else◌, List, [], ◌∷◌, ◌++◌, codes, length, take}
use Rattle.std.specs.Prelude.{slice_index}
use Rattle.std.specs.Fmt.{decimal}
use Rattle.m51_cells.specs.Hex.{hex2, hex4}
use Rattle.m51_flat.specs.declared.state.Cpu.{Cpu}
use Rattle.m51_flat.specs.Sfr.{latch, acc, breg, psw, sp, dph, dpl}
use Rattle.m51_flat.specs.Vectors.{vector_of}
use Rattle.m51_isa.specs.declared.instr.Instr.{Instr}
use Rattle.m51_isa.specs.Spelling.{text_of}
use Rattle.m51_isa.specs.Table.{encoded, length_of, padded}
use Rattle.m51_module.specs.declared.parts.LayoutParts.{LayoutParts}
use Rattle.m51_monitor.specs.Records.{current}
use Rattle.m51_print.specs.Map.{unit_title}
use Rattle.m51_sim.specs.declared.attempt.Attempt.{Attempt}
use Rattle.m51_sim.specs.declared.attempt.Attempt.TheVariants.{Vectoring, Idling, Executing, Refusing}
use Rattle.m51_sim.specs.Effects.{attempt_of}
use Rattle.m51_sim.specs.Runs.{State}
use Rattle.m51_sim.specs.SeparateMachine.{Separate}

abbrev pub tab : List ℕ
tab = 9 ∷ []

-- a byte, if it is one of the instruction
abbrev pub byte_if : Bool → ℕ → List ℕ
byte_if is byte = if is then hex2 byte else []

-- the first bytes of three
abbrev pub bytes_text : List ℕ → ℕ → List ℕ
bytes_text bytes len =
    hex2 (slice_index bytes 0) ++ byte_if (nat_lt 1 len) (slice_index bytes 1)
    ++ byte_if (nat_lt 2 len) (slice_index bytes 2)

-- the mnemonic, of which no more than eight letters are written; none has more than five
abbrev pub short_name : List ℕ → List ℕ
short_name name = take (min (length name) 8) name

-- a mnemonic, and the bytes of the instruction
unfoldable pub instr_text : Instr → List ℕ
instr_text instr =
    short_name (text_of instr).mnemonic ++ codes " " ++ bytes_text (padded (encoded instr)) (length_of instr)

-- what the next step is: an instruction, a vectoring, an idle cycle, or the reserved opcode
abbrev pub attempt_text : Attempt → List ℕ
attempt_text (Vectoring source) = codes "VECTOR " ++ hex4 (vector_of source)
attempt_text Idling = codes "IDLE"
attempt_text (Executing instr) = instr_text instr
attempt_text Refusing = codes "RESERVED A5"

-- the number of steps, the cycle and PC
abbrev pub front_text : ℕ → ℕ → ℕ → List ℕ
front_text steps cycle pc = decimal steps ++ tab ++ decimal cycle ++ tab ++ hex4 pc ++ tab

-- a tab and a byte
unfoldable pub field_text : ℕ → List ℕ
field_text byte = tab ++ hex2 byte

-- A, B, PSW and SP; and DPTR, with a tab after it
unfoldable pub bytes_of_cpu : Cpu → List ℕ
bytes_of_cpu cpu =
    field_text (latch cpu acc) ++ field_text (latch cpu breg) ++ field_text (latch cpu psw) ++ field_text (latch cpu sp)

unfoldable pub pointer_text : Cpu → List ℕ
pointer_text cpu = field_text (latch cpu dph) ++ hex2 (latch cpu dpl) ++ tab

abbrev pub registers_text : Cpu → List ℕ
registers_text cpu = bytes_of_cpu cpu ++ pointer_text cpu

-- the line of a state without its end, and with it
unfoldable pub state_text : LayoutParts → List ℕ → ℕ → State Separate → List ℕ
state_text l image steps s =
    front_text steps s.cycle s.cpu.pc ++ attempt_text (attempt_of image s.cpu) ++ registers_text s.cpu
    ++ unit_title l (current s.memory.records)

abbrev pub state_line : LayoutParts → List ℕ → ℕ → State Separate → List ℕ
state_line l image steps s = state_text l image steps s ++ codes "\n"
