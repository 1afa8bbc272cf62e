-- An instruction over a store that holds a value in each cell, and of which no cell is barred.
use Rattle.m51_flat.proofs.Common.{◌≡◌, ℕ, zero, suc, ◌+◌, ◌*◌, ◌<◌, ◌≤◌, Bool, false, List, ◌∷◌}
use Rattle.m51_flat.proofs.Common.{None, refl, ◌∙◌, Cell, and_then, Instr}
use Rattle.m51_flat.proofs.Common.{Cpu, Pins, Effect, Put, Nothing, Byte, Bit, Xbyte, CellState, Holds, Absent}
use Rattle.m51_flat.proofs.Common.{States, ram_cell, xram_cell, Access, Agrees, CellMap, access_seen}
use Rattle.m51_flat.proofs.Common.{accesses_over, first_missing, result_over, value_or_missing, concluded, plan_of}
use Rattle.m51_flat.proofs.Common.{Seen, Value}
use Rattle.std.proofs.Common.{inl, inr, []}
use Rattle.std.proofs.lemmas.Bool.{cases_lt}
use Rattle.m51_cells.specs.declared.cell.Space.{Space}
use Rattle.m51_cells.specs.declared.cell.Space.TheVariants.{Ram, Xram, Code}
use Rattle.m51_cells.specs.Cells.{IsDataCell}
use Rattle.m51_flat.specs.declared.state.Seen.TheVariants.{Outside as SeenOutside, Unset as SeenUnset}
use Rattle.m51_flat.specs.Outcome.{Outside, Unset}
use Rattle.m51_flat.specs.States.{AreCells, first_barred, shut_of}
use Rattle.m51_flat.specs.Meaning.{allowed, instruction_outcome, outcome_over}
use Rattle.m51_flat.specs.Causes.{IsCause, IsWhole, state_at, unless_down}
use Rattle.m51_flat.proofs.Outcomes.{outcomes_agree}

first_open : (barred : Cell → Bool) → ((c : Cell) → barred c ≡ false) → (k n : ℕ) → first_barred barred k n ≡ None
first_open barred h zero n = refl
first_open barred h (suc k) n = rw (h (ram_cell n), first_open barred h k (n + 1)) refl

-- where no cell is barred, each put may be written
pub shut_open : (barred : Cell → Bool) → ((c : Cell) → barred c ≡ false) → (put : Put) → shut_of barred put ≡ None
unfolding shut_of
shut_open barred h Nothing = refl
shut_open barred h (Byte address value) = first_open barred h 8 (8 * address)
shut_open barred h (Bit address value) = first_open barred h 1 (256 + address)
shut_open barred h (Xbyte address value) = rw (h (xram_cell address)) refl

allowed_open : (barred : Cell → Bool) → ((c : Cell) → barred c ≡ false) → (e : Effect)
    → allowed barred e ≡ unless_down e
allowed_open barred h e = rw (shut_open barred h e.first, shut_open barred h e.second) refl

module _ (s : States) (barred : Cell → Bool) (m : CellMap) (w : IsWhole s barred m) where
  -- the map agrees with the store
  whole_agrees : AreCells s → Agrees s m
  whole_agrees cells = record {
    ram = λ n v e. agree (s.ram n) 2048 n (m.ram n) v e (w.ram n) (cells.ram_end n);
    xram = λ n v e. agree (s.xram n) 65536 n (m.xram n) v e (w.xram n) (cells.xram_end n);
  } where
    agree : (c : CellState) (end n x v : ℕ) → c ≡ Holds v → (n < end → c ≡ Holds x) → (end ≤ n → c ≡ Absent) → x ≡ v
    agree c end n x v e inside beyond =
        elim (cases_lt n end) [ inl h ↦ cc (e, inside h) | inr h ↦ absurd (cc (e, beyond h)) ]

  -- each cell that exists holds a value
  always_held : (space : Space) (at : ℕ) → IsDataCell (record { space = space; at = at })
      → (v : ℕ) × (state_at s space at ≡ Holds v)
  always_held Ram at h = (m.ram at, w.ram at h.1)
  always_held Xram at h = (m.xram at, w.xram at h.1)
  always_held Code at h = absurd h.0

  -- so no outcome names a cell
  no_cause : (c : Cell) → IsCause s barred (Outside c) → ⊥
  no_cause c (inl h) = cc (h.1, (always_held c.space c.at h.0).1)
  no_cause c (inr h) = cc (h.1, w.open_ c)

  no_unset : (c : Cell) → IsCause s barred (Unset c) → ⊥
  no_unset c h = cc (h.1, (always_held c.space c.at h.0).1)

  -- each read has a value, and the outcome is the result
  concluded_whole : (xs : List Access) (e : Effect) → IsCause s barred (concluded barred (first_missing s xs e))
      → concluded barred (first_missing s xs e) ≡ unless_down e
  concluded_whole [] e h = allowed_open barred w.open_ e
  concluded_whole (x ∷ xs) e h = by_seen (access_seen s x) (concluded_whole xs e) h where
    by_seen : (r : Seen)
        → (IsCause s barred (concluded barred (first_missing s xs e))
        → concluded barred (first_missing s xs e) ≡ unless_down e)
        → IsCause s barred (concluded barred (and_then (value_or_missing r) (λ v. first_missing s xs e)))
        → concluded barred (and_then (value_or_missing r) (λ v. first_missing s xs e)) ≡ unless_down e
    by_seen (Value v) others h = others h
    by_seen (SeenOutside c) others h = absurd (no_cause c h)
    by_seen (SeenUnset c) others h = absurd (no_unset c h)

-- the outcome of an instruction over such a store
pub whole_outcome : (m : CellMap) (cpu : Cpu) (s : States) (barred : Cell → Bool) (instr : Instr) (image : List ℕ)
    (ext : Pins) → AreCells s → IsWhole s barred m
    → IsCause s barred (instruction_outcome cpu s barred instr image ext)
    → instruction_outcome cpu s barred instr image ext ≡ unless_down (result_over m (plan_of cpu instr image ext))
unfolding outcome_over
whole_outcome m cpu s barred instr image ext cells w h =
    let over = outcomes_agree m cpu s barred instr image ext (whole_agrees s barred m w cells) in
    let reads = plan_of cpu instr image ext in
    over ∙ concluded_whole s barred m w (accesses_over m reads) (result_over m reads) (rw over at h)
