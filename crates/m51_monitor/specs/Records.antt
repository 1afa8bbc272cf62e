-- Which units are active: the record of the reset and the return records.
use Rattle.std.specs.Prelude.{ℕ, ◌+◌, Bool, true, false, nat_eq, List, [], ◌∷◌, ◌++◌}
use Rattle.std.specs.List.{Contains, list_any}
use Rattle.m51_module.specs.declared.parts.LayoutParts.{LayoutParts}
use Rattle.m51_module.specs.Plan.{IsRootAt}
use Rattle.m51_module.specs.Walks.{Edges, HasEdge}
use Rattle.m51_monitor.specs.declared.cause.Cause.{Cause}
use Rattle.m51_monitor.specs.declared.cause.Cause.TheVariants.{Call, Interrupt}
use Rattle.m51_flat.specs.Vectors.{vector_of}

-- A return record: its cause, the return address, SP after the push, and the units that it names, the last first.
pub record ReturnRecord : Type 0 where
  pub cause : Cause
  pub return_address : ℕ
  pub sp : ℕ
  pub units : List ℕ

-- The units that the record of the reset names, the last first, and the return records, the topmost first.
pub record Records : Type 0 where
  pub reset : List ℕ
  pub returns : List ReturnRecord

-- the units that are named, the last first
abbrev pub named_over : List ℕ → List ReturnRecord → List ℕ
named_over reset [] = reset
named_over reset (r ∷ rs) = r.units ++ named_over reset rs

abbrev pub units_named : Records → List ℕ
units_named a = named_over a.reset a.returns

-- the first of these, or that one
abbrev pub first_or : List ℕ → ℕ → ℕ
first_or [] u = u
first_or (v ∷ vs) u = v

-- the current unit: the last one of the topmost record that has one
abbrev pub current : Records → ℕ
current a = first_or (units_named a) 0

-- one of these
abbrev pub is_unit_among : List ℕ → ℕ → Bool
is_unit_among units u = list_any (nat_eq u) units

-- the number of records that name a unit: one more where this one does
abbrev pub one_more_where : Bool → ℕ → ℕ
one_more_where true n = n + 1
one_more_where false n = n

abbrev pub naming_over : List ℕ → List ReturnRecord → ℕ → ℕ
naming_over reset [] u = one_more_where (is_unit_among reset u) 0
naming_over reset (r ∷ rs) u = one_more_where (is_unit_among r.units u) (naming_over reset rs u)

abbrev pub naming : Records → ℕ → ℕ
naming a u = naming_over a.reset a.returns u

-- the vectors of the roots that run, the topmost first and the reset's last
abbrev pub runs_also : Cause → List ℕ → List ℕ
runs_also Call vectors = vectors
runs_also (Interrupt source) vectors = vector_of source ∷ vectors

abbrev pub running : List ReturnRecord → List ℕ
running [] = 0 ∷ []
running (r ∷ rs) = runs_also r.cause (running rs)

-- Units, the last first, that are a walk from the root at the vector.
abbrev pub BeginsAt : LayoutParts → ℕ → List ℕ → Type 0
BeginsAt l vector [] = ⊥
BeginsAt l vector (u ∷ []) = IsRootAt l vector u
BeginsAt l vector (v ∷ u ∷ us) = HasEdge l.edges u v × BeginsAt l vector (u ∷ us)

-- Units, the last first, that continue a walk from a unit along edges.
abbrev pub WalksOn : Edges → ℕ → List ℕ → Type 0
WalksOn edges u [] = Unit {0}
WalksOn edges u (v ∷ vs) = HasEdge edges (first_or vs u) v × WalksOn edges u vs

-- The units of a call's record continue the walk from the unit that was current; those of an interrupt's begin at its
-- root, which was not running.
abbrev pub IsWalkAbove : LayoutParts → List ℕ → List ℕ → Cause → List ℕ → Type 0
IsWalkAbove l below busy Call units = WalksOn l.edges (first_or below 0) units
IsWalkAbove l below busy (Interrupt source) units =
    BeginsAt l (vector_of source) units × (Contains busy (vector_of source) → ⊥)

abbrev pub AreWalksOver : LayoutParts → List ℕ → List ReturnRecord → Type 0
AreWalksOver l reset [] = BeginsAt l 0 reset
AreWalksOver l reset (r ∷ rs) =
    IsWalkAbove l (named_over reset rs) (running rs) r.cause r.units × AreWalksOver l reset rs

-- The units named from a reset or interrupt record up to the next interrupt record form a walk that begins with that
-- record's root, and no root has two of these records.
pub record AreWalks (l : LayoutParts) (a : Records) : Type 0 where
  pub over : AreWalksOver l a.reset a.returns
