-- The layout with three roots is sound, and has a root at the reset's vector.
use Rattle.std.proofs.Common.{◌≡◌, ℕ, refl, arith}
use Rattle.m51_module.specs.Plan.{IsRootAt}
use Rattle.m51_module.specs.Sound.{IsSound}
use Rattle.m51_cases.specs.Layouts.{root, three_roots, vectors_of_units}
use Rattle.m51_cases.proofs.Sound.{reset_root, sound_by_tests}

pub three_roots_root : IsRootAt three_roots 0 0
three_roots_root = reset_root three_roots (root 0) refl refl refl refl refl

pub three_roots_sound : IsSound three_roots
three_roots_sound = sound_by_tests three_roots vectors_of_units three_roots_root (omega arith) (omega arith) refl refl
    refl refl refl refl refl refl
