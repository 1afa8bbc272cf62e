-- What holds of every choice of an interrupt.
use Rattle.std.specs.Prelude.{◌≡◌, ◌↔◌, ◌-◌, ℕ, Bool, true, if◌then◌else◌, List, [], ◌∷◌, ◌++◌, length, take}
use Rattle.std.specs.Prelude.{Some, None}
use Rattle.m51_isa.specs.declared.instr.Flow.TheVariants.{Reti as FlowReti}
use Rattle.m51_isa.specs.declared.instr.Instr.{Instr}
use Rattle.m51_isa.specs.Table.{flow_of}
use Rattle.m51_flat.specs.declared.state.Cpu.{Cpu}
use Rattle.m51_flat.specs.declared.state.Effect.{Effect}
use Rattle.m51_flat.specs.declared.state.Pins.{Pins}
use Rattle.m51_flat.specs.declared.state.Source.{Source}
use Rattle.m51_flat.specs.Laws.{Always}
use Rattle.m51_flat.specs.LevelLaws.{writes_ie_or_ip}
use Rattle.m51_flat.specs.Meaning.{plan_of}
use Rattle.m51_flat.specs.Transfers.{level_ended}
use Rattle.m51_flat.specs.declared.state.Level.{Level}
use Rattle.m51_flat.specs.declared.state.Level.TheVariants.{Low, High}
use Rattle.m51_irq.specs.Sources.{level_of}
use Rattle.m51_irq.specs.Choice.{IsTaken, chosen}
use Rattle.m51_irq.specs.Vectoring.{acknowledged}

-- the levels in progress, the bottom one first: at most a low one, and at most a high one above it
abbrev pub levels : Bool → Bool → List Level
levels low high = (if low then Low ∷ [] else []) ++ (if high then High ∷ [] else [])

abbrev pub levels_of : Cpu → List Level
levels_of cpu = levels cpu.low cpu.high

-- none is taken over the high level
abbrev pub NoneOverHigh : Type 0
NoneOverHigh = (cpu : Cpu) → cpu.high ≡ true → chosen cpu ≡ None

-- no interrupt is taken after this effect
abbrev pub TakesNone : Effect → Type 0
TakesNone e = chosen e.cpu ≡ None

-- none is taken directly after RETI, nor directly after an instruction that writes IE, IP or a bit of them, whatever
-- it reads
pub record NoneIsTakenAtOnce : Type 0 where
  pub held : (cpu : Cpu) → cpu.held ≡ true → chosen cpu ≡ None
  pub reti : (cpu : Cpu) (instr : Instr) (image : List ℕ) (ext : Pins) → flow_of instr ≡ FlowReti
      → Always TakesNone (plan_of cpu instr image ext)
  pub written : (cpu : Cpu) (instr : Instr) (image : List ℕ) (ext : Pins) → writes_ie_or_ip cpu instr ≡ true
      → Always TakesNone (plan_of cpu instr image ext)

-- a source is chosen exactly if it is the one that is taken by the manual
abbrev pub FirstIsChosen : Type 0
FirstIsChosen = (cpu : Cpu) (s : Source) → (chosen cpu ≡ Some s) ↔ IsTaken cpu s

-- the level of the chosen source comes on top of the levels in progress
abbrev pub LevelsAreNested : Type 0
LevelsAreNested = (cpu : Cpu) (s : Source) → chosen cpu ≡ Some s
    → levels_of (acknowledged s cpu) ≡ levels_of cpu ++ level_of cpu s ∷ []

-- RETI takes the top level away
abbrev pub TopLevelEnds : Type 0
TopLevelEnds =
    (cpu : Cpu) → levels_of (level_ended cpu) ≡ take (length (levels_of cpu) - 1) (levels_of cpu)
