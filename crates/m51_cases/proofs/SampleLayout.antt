-- The sample layout is sound under any title of its root, and has a root at the reset's vector.
use Rattle.std.proofs.Common.{◌≡◌, ℕ, List, [], ◌∷◌, refl, sym, subst, arith}
use Rattle.m51_module.specs.declared.parts.LayoutParts.{LayoutParts}
use Rattle.m51_module.specs.Plan.{IsRootAt}
use Rattle.m51_module.specs.Sound.{IsSound}
use Rattle.m51_cells.specs.declared.kind.Reloc.TheVariants.{Abs}
use Rattle.m51_module.specs.declared.placed.Mark.TheVariants.{Absolute}
use Rattle.m51_cases.specs.Sample.{code, sample_layout}
use Rattle.m51_cases.proofs.Sound.{reset_root, sound_by_tests}

sample_root : (title : List ℕ) → IsRootAt (sample_layout title) 0 0
sample_root title = reset_root (sample_layout title) (code title Abs Absolute 0) refl refl refl refl refl

pub sample_is_sound : (l : LayoutParts) (title : List ℕ) → l ≡ sample_layout title → IsSound l
sample_is_sound l title is = subst IsSound (sym is)
    (sound_by_tests (sample_layout title) (0 ∷ 0 ∷ 0 ∷ []) (sample_root title) (omega arith) (omega arith) refl refl
    refl refl refl refl refl refl)
