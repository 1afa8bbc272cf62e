-- The levels in progress, after an interrupt is taken and after a return.
use Rattle.std.proofs.Common.{◌≡◌, ◌-◌, Bool, true, false, not, ◌&&◌, [], ◌∷◌, ◌++◌, length, take, sym, ◌∙◌, arith}
use Rattle.m51_flat.specs.declared.state.Cpu.{Cpu}
use Rattle.m51_flat.specs.Flags.{idl}
use Rattle.m51_flat.specs.Sfr.{pcon, with_flag}
use Rattle.m51_flat.specs.declared.state.Level.{Level}
use Rattle.m51_flat.specs.declared.state.Level.TheVariants.{Low, High}
use Rattle.m51_irq.specs.Sources.{level_of}
use Rattle.m51_irq.specs.Choice.{is_allowed}
use Rattle.m51_irq.specs.Vectoring.{cleared, entered}
use Rattle.m51_irq.specs.Laws.{LevelsAreNested, TopLevelEnds, levels, levels_of}
use Rattle.m51_irq.proofs.ChoiceLaws.{is_taken}
use Rattle.m51_irq.proofs.Kept.{shape_before}

-- the levels in progress allow a level, as values
abbrev pub allowed_over : Bool → Bool → Level → Bool
allowed_over low high Low = not low && not high
allowed_over low high High = not high

pub same_allowed : (cpu : Cpu) (l : Level) → is_allowed cpu l ≡ allowed_over cpu.low cpu.high l
same_allowed cpu l = grind arith

one_more : (l : Level) (low high : Bool) (cpu : Cpu) → cpu.low ≡ low → cpu.high ≡ high → allowed_over low high l ≡ true
    → levels_of (entered l cpu) ≡ levels low high ++ l ∷ []
one_more l low high cpu p q h = grind (arith, p, q, h)

pub levels_nested : LevelsAreNested
levels_nested = λ cpu s h.
    let w = is_taken cpu s h in
    let k = shape_before s cpu in
    one_more (level_of cpu s) cpu.low cpu.high (with_flag (cleared s cpu) pcon idl false) k.low k.high
    (sym (same_allowed cpu (level_of cpu s)) ∙ w.ready.allowed)

top_ends : (low high : Bool) → levels (high && low) false ≡ take (length (levels low high) - 1) (levels low high)
top_ends low high = grind arith

pub top_level_ends : TopLevelEnds
top_level_ends = λ cpu. top_ends cpu.low cpu.high
