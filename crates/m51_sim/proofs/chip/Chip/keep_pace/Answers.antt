use Rattle.m51_sim.proofs.Common.{refl, ap, ◌∙◌, Effect}
use Rattle.m51_sim.proofs.Quiet.{paced_after}
use Rattle.m51_sim.proofs.chip.Chip.keep_pace.Goals as goal

pub invariant_of-self : goal.invariant_of-self
invariant_of-self c =
    paced_after c.args.pace _ c.requires.0 c.args.draft.now.effect _ (rw (← c.self.view_is) at c.requires.1)
    (c.copy_cpu.ensures ∙ ap (λ (e : Effect). e.cpu) c.pass_on.ensures) refl
