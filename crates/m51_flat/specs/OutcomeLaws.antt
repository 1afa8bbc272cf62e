-- What is known where the outcome of an instruction is an effect, or power-down.
use Rattle.std.specs.Prelude.{◌≡◌, ℕ, Bool, true, false, None, List}
use Rattle.m51_cells.specs.declared.cell.Cell.{Cell}
use Rattle.m51_isa.specs.declared.instr.Instr.{Instr}
use Rattle.m51_flat.specs.declared.state.Cpu.{Cpu}
use Rattle.m51_flat.specs.declared.state.Pins.{Pins}
use Rattle.m51_flat.specs.declared.state.Effect.{Effect}
use Rattle.m51_flat.specs.Outcome.{Done, PowerDown}
use Rattle.m51_flat.specs.States.{States, shut_of}
use Rattle.m51_flat.specs.Reads.{Agrees, CellMap, result_over}
use Rattle.m51_flat.specs.Sfr.{flag, pcon}
use Rattle.m51_flat.specs.Meaning.{instruction_outcome, plan_of}

-- both puts may be written, it does not power down, and over each map that agrees with the store it is the same
pub record IsDone
    (barred : Cell → Bool) (cells : States) (cpu : Cpu) (instr : Instr) (image : List ℕ) (ext : Pins) (e : Effect)
    : Type 0 where
  pub first : shut_of barred e.first ≡ None
  pub second : shut_of barred e.second ≡ None
  pub powered : flag e.cpu pcon 1 ≡ false
  pub over_map : (m : CellMap) → Agrees cells m → result_over m (plan_of cpu instr image ext) ≡ e

abbrev pub EffectsAreDone : Type 0
EffectsAreDone =
    (cpu : Cpu) (cells : States) (barred : Cell → Bool) (instr : Instr) (image : List ℕ) (ext : Pins) (e : Effect)
    → instruction_outcome cpu cells barred instr image ext ≡ Done e → IsDone barred cells cpu instr image ext e

-- an instruction whose outcome is power-down sets bit 1 of PCON, over each map that agrees with the store
abbrev pub PowerGoesDown : Type 0
PowerGoesDown =
    (cpu : Cpu) (cells : States) (barred : Cell → Bool) (instr : Instr) (image : List ℕ) (ext : Pins) (m : CellMap)
    → instruction_outcome cpu cells barred instr image ext ≡ PowerDown → Agrees cells m
    → flag (result_over m (plan_of cpu instr image ext)).cpu pcon 1 ≡ true
