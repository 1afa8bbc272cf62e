-- Where the successors of a point are, which start each point is of, and which root leads to it.
use Rattle.m51_stackbound.proofs.Common.{◌≡◌, ℕ, Bool, true, List, [], ◌∷◌, ◌⊎◌, inl, inr, Option, Some, None, is_some}
use Rattle.m51_stackbound.proofs.Common.{Contains, Instr, LayoutParts, Point, call_of, entry_at, successors}
use Rattle.m51_stackbound.proofs.Common.{none_in_empty, ◌≤◌, ◌+◌, map, refl, arith, Start, Reset, At, Nothing, One}
use Rattle.m51_stackbound.proofs.Common.{ComesTo, CallsAt, HasHeight, Takes, Own, first_points, point_at, IsPoint}
use Rattle.m51_stackbound.proofs.Common.{IsReached, First, After, handlers, contains_after, first_or_after}
use Rattle.m51_stackbound.proofs.Common.{common_steps, cases_Bool, sym, ◌∙◌}
use Rattle.std.proofs.lemmas.List.Elements.{Contains-append_cases}
use Rattle.m51_stackbound.specs.Instructions.{is_call, is_jump, next_of, target_of}
use Rattle.m51_stackbound.specs.Points.{ends_at, after_call, after_instr, at_next, at_target, call_by, called}
use Rattle.m51_stackbound.specs.Points.{follow_by, height_after, instruction}
use Rattle.m51_stackbound.specs.Units.{counts, in_one_unit, unit_of}
use Rattle.m51_cells.proofs.Members.{contains_in, in_contains, in_map}
use Rattle.m51_stackbound.specs.Depths.{Call}

-- a unit covers the address
abbrev pub is_covered : LayoutParts → ℕ → Bool
is_covered l address = is_some (unit_of l address)

-- the point is of the same start
pub record IsWithin (l : LayoutParts) (p q : Point) : Type 0 where
  pub start_is : q.start ≡ p.start
  pub covered : is_covered l q.address ≡ true

-- the point is the entry of a start that is called
pub record IsEntry (l : LayoutParts) (call : Option ℕ) (q : Point) : Type 0 where
  pub to : ℕ
  pub calls : call ≡ Some to
  pub is : q ≡ entry_at to
  pub covered : is_covered l to ≡ true

abbrev pub StepsTo : LayoutParts → Point → Option ℕ → Point → Type 0
StepsTo l p call q = IsWithin l p q ⊎ IsEntry l call q

module _ (l : LayoutParts) (p : Point) where
  next_covered : (next : ℕ) → in_one_unit l p.address next ≡ true → is_covered l next ≡ true
  unfolding in_one_unit
  next_covered next h = grind arith

  target_covered : (target : ℕ) → counts l p.address target ≡ true → is_covered l target ≡ true
  unfolding counts
  target_covered target h = grind arith

  next_within : (next height : ℕ) (q : Point) → Contains (at_next l p next height) q → IsWithin l p q
  unfolding at_next
  next_within next height q h =
      grind (arith, next_covered next)

  target_within : (target : Option ℕ) (height : ℕ) (q : Point) → Contains (at_target l p target height) q
      → IsWithin l p q
  unfolding at_target
  target_within target height q h = grind (arith, target_covered)

  called_covered : (target : Option ℕ) (to : ℕ) → called l p target ≡ Some to → is_covered l to ≡ true
  unfolding called
  called_covered target to h = grind (arith, target_covered)

  call_steps : (next : ℕ) (call : Option ℕ) (q : Point) → ((to : ℕ) → call ≡ Some to → is_covered l to ≡ true)
      → Contains (after_call l p next call) q → StepsTo l p call q
  call_steps next None q covers h = absurd (none_in_empty q h)
  call_steps next (Some to) q covers h = grind (arith, next_within next p.height q)

  instr_within : (instr : Instr) (next : ℕ) (q : Point) → Contains (after_instr l p instr next) q → IsWithin l p q
  instr_within instr next q h = elim (cases_Bool (is_jump instr)) [
    | inl jumps ↦ target_within (target_of instr next) p.height q (rw jumps at h)
    | inr goes ↦ elim (Contains-append_cases (at_next l p next (height_after p.height instr))
        (at_target l p (target_of instr next) (height_after p.height instr)) q (rw goes at h)) [
          | inl one ↦ next_within next (height_after p.height instr) q one
          | inr two ↦ target_within (target_of instr next) (height_after p.height instr) q two
        ]
  ]

  steps_by : (o : Option Instr) (q : Point) → Contains (follow_by l p o) q → StepsTo l p (call_by l p o) q
  unfolding follow_by call_by
  steps_by None q h = absurd (none_in_empty q h)
  steps_by (Some instr) q h = elim (cases_Bool (ends_at p instr)) [
    | inl ends ↦ absurd (none_in_empty q (rw ends at h))
    | inr goes ↦ elim (cases_Bool (is_call instr)) [
      | inl call ↦
          let at = target_of instr (next_of instr p.address) in
          rw call
          (call_steps (next_of instr p.address) (called l p at) q (called_covered at) (rw (goes, call) at h))
      | inr other ↦ inl (instr_within instr (next_of instr p.address) q (rw (goes, other) at h))
    ]
  ]

-- each successor is of the same start, or the entry of a start that the point calls
pub steps_to : (l : LayoutParts) (image : List ℕ) (p q : Point) → Contains (successors l image p) q
    → StepsTo l p (call_of l image p) q
steps_to l image p q h = steps_by l p (instruction l image p.address) q h

-- an element of a list of entries is the entry of an element
pub record IsEntryOf (vs : List ℕ) (p : Point) : Type 0 where
  pub vector : ℕ
  pub listed : Contains vs vector
  pub is : p ≡ entry_at vector

entry_of : (vs : List ℕ) (p : Point) → Contains (map entry_at vs) p → IsEntryOf vs p
entry_of vs p h =
    let r = in_map entry_at vs p (in_contains (map entry_at vs) p h) in
    grind (arith, contains_in)

-- starts at one address
pub same_address : (a b : ℕ) → At a ≡ At b → a ≡ b
same_address a b e = cc e

module _ (l : LayoutParts) (image : List ℕ) where
  -- the first points are the reset's, and the entries of the interrupts that have handlers
  pub first_cases : (p : Point) → Contains (first_points l) p → (p ≡ point_at Reset 0 7) ⊎ IsEntryOf (handlers l) p
  first_cases p h =
      grind (arith, first_or_after (point_at Reset 0 7) (map entry_at (handlers l)) p h, entry_of (handlers l) p)

  pub reset_first : IsPoint l image (point_at Reset 0 7)
  reset_first = First (point_at Reset 0 7) (0, omega arith, refl)

  pub handler_first : (v : ℕ) → Contains (handlers l) v → IsPoint l image (entry_at v)
  handler_first v h = First (entry_at v)
      (contains_after (point_at Reset 0 7) (map entry_at (handlers l)) (entry_at v) (grind (arith, common_steps)))

  -- heights where roots begin
  pub reset_height : HasHeight l image Reset 7
  reset_height = grind (arith, reset_first)

  pub handler_height : (v : ℕ) → Contains (handlers l) v → HasHeight l image (At v) 0
  handler_height v h = grind (arith, handler_first v h)

  -- a point of the start at an address
  pub record IsUnder (a : ℕ) (p : Point) : Type 0 where
    pub entered : IsPoint l image (entry_at a)
    pub reached : IsReached l image (entry_at a ∷ []) p

  -- each point of a start is reached from the start's entry
  pub under : (a : ℕ) (p : Point) → IsPoint l image p → p.start ≡ At a → IsUnder a p
  under a _ (First p first) s = grind (arith, first_cases p first, First)
  under a _ (After p q is after) s = elim (steps_to l image p q after) [
    | inl within ↦
        let before = under a p is (sym within.start_is ∙ s) in
        grind (arith, After)
    | inr entry ↦ let here = After p q is after in grind (arith, here, First)
  ]

  -- a value that SP may get and that is at least this number
  pub record ComesAbove (bytes : ℕ) : Type 0 where
    pub value : ℕ
    pub comes : ComesTo l image value
    pub high : bytes ≤ value

  -- what a start takes adds to what a root takes
  pub rooted : (p : Point) → IsPoint l image p → (path : List Start) (bytes : ℕ) → Takes l image p.start path bytes
      → ComesAbove bytes
  rooted _ (First p first) path bytes t = elim (first_cases p first) [
    | inl e ↦
        let k = rw e at t in
        record { value = bytes + 0; comes = grind (arith, Nothing); high = omega arith }
    | inr h ↦
        let k = rw h.is at t in
        record { value = 7 + (2 + bytes); comes = grind (arith, Own Reset 7 reset_height, One); high = omega arith }
  ]
  rooted _ (After p q is after) path bytes t = elim (steps_to l image p q after) [
    | inl within ↦ rooted p is path bytes (rw within.start_is at t)
    | inr entry ↦
        let call : CallsAt l image p.start p.height entry.to = grind arith in
        grind (
          arith,
          rooted p is (At entry.to ∷ path) (p.height + 2 + bytes) (Call _ _ _ path bytes call (rw entry.is at t)),
        )
  ]

  -- a start that takes bytes has a point
  pub of_taken : (start : Start) (path : List Start) (bytes : ℕ) → Takes l image start path bytes
      → (height : ℕ) × HasHeight l image start height
  of_taken start _ bytes (Own _ _ h) = (bytes, h)
  of_taken start _ _ (Call _ height to more bytes c rest) = (height, grind arith)

  pub taken_above : (start : Start) (path : List Start) (bytes : ℕ) → Takes l image start path bytes → ComesAbove bytes
  taken_above start path bytes t =
      let h = (of_taken start path bytes t).1 in
      rooted h.point h.is_point path bytes (rw h.start_is t)
