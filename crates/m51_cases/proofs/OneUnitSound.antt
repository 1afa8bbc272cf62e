-- The layout of one unit and one segment of data memory is sound, and has a root at 0000H.
use Rattle.std.proofs.Common.{◌≡◌, ℕ, ◌<◌, true, List, [], ◌∷◌, refl, sym, ap, subst, arith}
use Rattle.std.proofs.lemmas.Bool.Decides.{nat_tests}
use Rattle.std.specs.Prelude.{slice_get}
use Rattle.m51_module.specs.declared.parts.LayoutParts.{LayoutParts}
use Rattle.m51_module.specs.Plan.{IsRootAt}
use Rattle.m51_module.specs.Sound.{IsSound}
use Rattle.m51_monitor.specs.Found.{extent_meets}
use Rattle.m51_cases.specs.OneUnit.{one_unit, unit_at_reset}
use Rattle.m51_cases.proofs.Sound.{reset_root, sound_by_tests}
use Rattle.m51_cases.proofs.SoundTests.{each_below, fits}

module _ (unit byte : List ℕ) (size : ℕ) where
  root : IsRootAt (one_unit unit byte size) 0 0
  root = reset_root (one_unit unit byte size) (unit_at_reset unit size) refl refl refl refl refl

  fitting : 0 < size → size < 65536
      → each_below 2 (λ s. extent_meets fits (slice_get (one_unit unit byte size).placed s)) ≡ true
  fitting some small = grind (arith, nat_tests, some, small)

  pub sample_is_sound : (l : LayoutParts) → 0 < size → size < 65536 → l ≡ one_unit unit byte size → IsSound l
  sample_is_sound l some small is = subst IsSound (sym is)
      (sound_by_tests (one_unit unit byte size) (0 ∷ []) root (omega arith) (omega arith) (fitting some small) refl refl
      refl refl refl refl refl)

  pub sample_has_root : (l : LayoutParts) → l ≡ one_unit unit byte size → (u : ℕ) × IsRootAt l 0 u
  sample_has_root l is = subst (λ (k : LayoutParts). (u : ℕ) × IsRootAt k 0 u) (sym is) (0, root)
