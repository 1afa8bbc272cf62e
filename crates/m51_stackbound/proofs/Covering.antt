-- Which unit covers a start, which root a handler is, and in which order the handlers are.
use Rattle.m51_stackbound.proofs.Common.{◌≡◌, ◌<◌, ℕ, true, List, refl, arith, inl, inr, Option, Some, is_some}
use Rattle.m51_stackbound.proofs.Common.{Contains, LayoutParts, At, IsRootAt, IsUnitAt, Rises, IsSound, Point, entry_at}
use Rattle.m51_stackbound.proofs.Common.{IsPoint, First, After, handlers, interrupts}
use Rattle.std.proofs.lemmas.List.Kept.{AllPairs-filter, AllPairs-from_increasing}
use Rattle.m51_cells.proofs.Members.{contains_in, in_contains, in_filter}
use Rattle.m51_stackbound.specs.Bounds.{IsStart}
use Rattle.m51_stackbound.specs.Units.{root_of, unit_of}
use Rattle.m51_stackbound.proofs.Finding.{root_found, unit_found_at}
use Rattle.m51_stackbound.proofs.Inside.{interrupt_is_vector}
use Rattle.m51_stackbound.proofs.Rooted.{first_cases, under, steps_to}

-- the handlers are in ascending order
pub handlers_rise : (l : LayoutParts) → Rises (handlers l)
handlers_rise l = AllPairs-filter (λ (a b : ℕ). a < b) (λ vector. is_some (root_of l vector)) interrupts
    (AllPairs-from_increasing interrupts (λ k h. grind arith))

-- the value of an option that has one
with_value : (o : Option ℕ) → is_some o ≡ true → (u : ℕ) × (o ≡ Some u)
with_value o h = grind arith

module _ (l : LayoutParts) (sound : IsSound l) where
  -- a handler is a root
  pub handler_root : (v : ℕ) → Contains (handlers l) v → (unit : ℕ) × IsRootAt l v unit
  handler_root v h =
      let f = in_filter (λ vector. is_some (root_of l vector)) interrupts v (in_contains (handlers l) v h) in
      let at = contains_in interrupts v f.0 in
      let u = with_value (root_of l v) f.1 in
      (u.0, root_found l sound v u.0 (rw at.2 at (interrupt_is_vector at.0 v at.1)) u.1)

  -- a root covers its vector
  pub root_covers : (v unit : ℕ) → IsRootAt l v unit → IsUnitAt l v unit
  root_covers v unit r = grind arith

  covered : (address : ℕ) → is_some (unit_of l address) ≡ true → (unit : ℕ) × IsUnitAt l address unit
  covered address h = let u = with_value (unit_of l address) h in (u.0, unit_found_at l sound address u.0 u.1)

  -- a unit covers the entry of each start
  entry_covered : (image : List ℕ) (a : ℕ) (p : Point) → p ≡ entry_at a → IsPoint l image p
      → (unit : ℕ) × IsUnitAt l a unit
  entry_covered image a _ e (First p first) = elim (first_cases l image p first) [
    | inl reset ↦ absurd (grind arith)
    | inr h ↦
        let root = handler_root h.vector h.listed in
        grind (arith, root_covers h.vector root.0 root.1)
  ]
  entry_covered image a _ e (After p q is after) = elim (steps_to l image p q after) [
    | inl within ↦ covered a (rw e at within.covered)
    | inr entry ↦ let same : entry.to ≡ a = grind arith in covered a (rw same at entry.covered)
  ]

  -- a unit covers each start
  pub start_covered : (image : List ℕ) (a : ℕ) → IsStart l image (At a) → (unit : ℕ) × IsUnitAt l a unit
  start_covered image a (height, h) =
      entry_covered image a (entry_at a) refl (under l image a h.point h.is_point h.start_is).entered
