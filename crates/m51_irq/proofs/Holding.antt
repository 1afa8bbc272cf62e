-- What holds interrupts off for a step.
use Rattle.std.proofs.Common.{◌≡◌, ℕ, Bool, true, List, None, refl, ◌∙◌, subst}
use Rattle.m51_isa.specs.declared.instr.Flow.{Flow}
use Rattle.m51_isa.specs.declared.instr.Flow.TheVariants.{Reti as FlowReti}
use Rattle.m51_isa.specs.declared.instr.Instr.{Instr}
use Rattle.m51_isa.specs.Table.{flow_of}
use Rattle.m51_flat.specs.declared.state.Cpu.{Cpu}
use Rattle.m51_flat.specs.declared.state.Effect.{Effect}
use Rattle.m51_flat.specs.declared.state.Pins.{Pins}
use Rattle.m51_flat.specs.Laws.{Always}
use Rattle.m51_flat.specs.LevelLaws.{LevelsFollow, writes_ie_or_ip}
use Rattle.m51_flat.specs.Meaning.{plan_of}
use Rattle.m51_flat.specs.Reads.{Reads, Ends, Read}
use Rattle.m51_flat.proofs.Levels.{levels_are_kept}
use Rattle.m51_irq.specs.Choice.{chosen}
use Rattle.m51_irq.specs.Laws.{NoneIsTakenAtOnce, TakesNone}

held_none : (cpu : Cpu) → cpu.held ≡ true → chosen cpu ≡ None
unfolding chosen
held_none cpu h = rw h refl

-- what follows from a fact of every effect
always_so : (P Q : Effect → Type 0) (r : Reads Effect) → ((e : Effect) → P e → Q e) → Always P r → Always Q r
always_so P Q (Ends e) so h = so e h
always_so P Q (Read x more) so h = λ v. always_so P Q (more v) so (h v)

module _ (cpu : Cpu) (instr : Instr) (image : List ℕ) (ext : Pins) where
  -- none is taken after an instruction whose effects all hold interrupts off
  after : ((e : Effect) → LevelsFollow (flow_of instr) (writes_ie_or_ip cpu instr) cpu e → e.cpu.held ≡ true)
      → Always TakesNone (plan_of cpu instr image ext)
  after so =
      always_so (λ e. LevelsFollow (flow_of instr) (writes_ie_or_ip cpu instr) cpu e) TakesNone
      (plan_of cpu instr image ext)
      (λ e h. held_none e.cpu (so e h)) (levels_are_kept cpu instr image ext)

held_by_reti : (flow : Flow) (writes : Bool) (cpu : Cpu) (e : Effect) → flow ≡ FlowReti
    → LevelsFollow flow writes cpu e → e.cpu.held ≡ true
held_by_reti flow writes cpu e is h =
    let ends : LevelsFollow FlowReti writes cpu e = subst (λ f. LevelsFollow f writes cpu e) is h in ends.held

held_by_write : (flow : Flow) (writes : Bool) (cpu : Cpu) (e : Effect) → writes ≡ true
    → LevelsFollow flow writes cpu e → e.cpu.held ≡ true
held_by_write FlowReti writes cpu e is h = h.held
held_by_write other writes cpu e is h = h.held ∙ is

pub none_at_once : NoneIsTakenAtOnce
none_at_once = record {
  held = held_none;
  reti = λ cpu instr image ext is. after cpu instr image ext (λ e h. held_by_reti _ _ cpu e is h);
  written = λ cpu instr image ext is.
      after cpu instr image ext (λ e h. held_by_write (flow_of instr) _ cpu e is h);
}
