use Rattle.std.proofs.Common.{◌≡◌, ℕ, sym, subst}
use Rattle.m51_module.specs.declared.parts.LayoutParts.{LayoutParts}
use Rattle.m51_module.specs.Plan.{IsRootAt}
use Rattle.m51_module.specs.Sound.{IsSound}
use Rattle.m51_cases.specs.Layouts.{three_roots}
use Rattle.m51_cases.proofs.ThreeRoots.{three_roots_root, three_roots_sound}
use Rattle.m51_cases.proofs.monitor_layout.monitor.Goals as goal

pub make-requires : goal.make-requires
make-requires c = subst IsSound (sym c.in_ok-parts.ensures) three_roots_sound

pub start-requires : goal.start-requires
start-requires c =
    let Root : LayoutParts → Type 0 = λ l. (u : ℕ) × IsRootAt l 0 u in
    subst Root (sym (rw c.in_ok-parts.ensures at c.in_ok-layout.ensures)) (0, three_roots_root)
