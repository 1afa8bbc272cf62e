-- What a monitor answers: the stores that are read off it, the segment of a cell, and whether bytes lie in a unit.
use Rattle.m51_sim.proofs.Common.{◌≡◌, ℕ, Bool, true, false, ◌&&◌, Option, Some, None, refl, sym, ap, subst, ◌∙◌}
use Rattle.m51_sim.proofs.Common.{if◌then◌else◌, Cell, IsSound, Monitored, AreActivations, live_in, stores_read, ◌<◌}
use Rattle.m51_sim.proofs.Common.{length, segment_over, zero, suc, ◌+◌, ◌%◌, arith, LayoutParts, unit_found, is_at}
use Rattle.m51_sim.proofs.Common.{lie_inside}
use Rattle.std.proofs.Common.{inl, inr, IfSome}
use Rattle.std.proofs.lemmas.Bool.{and_parts, and_right, ne_eqb}
use Rattle.m51_cells.specs.Cells.{IsDataCell}
use Rattle.m51_monitor.specs.Monitored.{MonitorStandsFor, AnswersAt}
use Rattle.m51_monitor.specs.Records.{units_named}
use Rattle.m51_monitor.specs.Related.{OneLive}
use Rattle.m51_monitor.specs.Shared.{cell_state}
use Rattle.m51_monitor.specs.Stores.{Stores, InSegment, InCommon, Resolves, held, has_cell, is_common, is_data}
use Rattle.m51_monitor.proofs.Liveness.{one_live}
use Rattle.m51_monitor.proofs.Resolving.{common_or_over, data_cell_is, has_cell_data, has_cell_is, one_answer}
use Rattle.m51_monitor.proofs.Standing.{all_related}
use Rattle.m51_sim.specs.Boards.{held_value}
use Rattle.std.proofs.lemmas.Option.{slice_get_within}
use Rattle.m51_monitor.proofs.Resolved.{NoOne, One, Segments, segments_over}
use Rattle.std.specs.Prelude.{Bool, Option, None}
use Rattle.std.proofs.lemmas.Bool.Decides.{eqb_tells}
use Rattle.m51_module.proofs.Units.{one_unit}
use Rattle.m51_module.specs.Plan.{IsUnitAt}
use Rattle.m51_module.specs.Sound.{IsSound}
use Rattle.m51_monitor.proofs.Finding.{is_number, same_unit_found, unit_found_is}
use Rattle.m51_monitor.specs.Frames.{IsPast}
use Rattle.m51_monitor.specs.Transfers.{IsFoundAt}

held_back : (o : Option ℕ) → held_value (held o) ≡ o
held_back None = refl
held_back (Some v) = refl

-- at most one live segment covers a cell
pub one_covers : (m : Monitored) → IsSound m.layout → AreActivations m.layout m.records
    → OneLive m.layout (live_in m.layout m.records)
one_covers m sound may = one_live m.layout (units_named m.records) sound (all_related m.layout m.records may.stand)

module _ (m : Monitored) (sound : IsSound m.layout) (may : AreActivations m.layout m.records) (s : Stores)
    (h : MonitorStandsFor m s) where
  answers : (c : Cell) (o : Option ℕ) → IsDataCell c
      → Resolves m.layout (live_in m.layout m.records) s c (held o) → held_value (cell_state m.store c) ≡ o
  answers c o is r =
      ap held_value (one_answer m.layout (live_in m.layout m.records) s c (cell_state m.store c) (held o)
      (one_covers m sound may) (h.cells c is) r) ∙ held_back o

  in_segment : (t : ℕ) (c : Cell) (alive has : Bool) → live_in m.layout m.records t ≡ alive
      → has_cell m.layout t c ≡ has
      → (if alive && has then held_value (cell_state m.store c) else None) ≡ s.segment t c
  in_segment t c true true e f =
      answers c _ (has_cell_data m.layout t c f) (InSegment t (has_cell_is m.layout t c f) e refl)
  in_segment t c true false e f = sym (h.stores.of_segment t c f)
  in_segment t c false has e f = sym (h.stores.dead t c e)

  in_common : (c : Cell) (common : Bool) → is_common m.layout c ≡ common
      → (if common then held_value (cell_state m.store c) else None) ≡ s.common c
  in_common c true e =
      let is = data_cell_is c (and_parts (is_data c) _ e).0 in
      elim (common_or_over m.layout c is) [
        | inl f ↦ answers c _ is (InCommon f.1 refl)
        | inr f ↦ cc (e, f.0)
      ]
  in_common c false e = sym (h.stores.of_common c e)

  pub read_same : stores_read m ≡ s
  read_same i = record {
    segment = λ t c. in_segment t c (live_in m.layout m.records t) (has_cell m.layout t c) refl refl i;
    common = λ c. in_common c (is_common m.layout c) refl i;
  }

-- so it represents these
pub read_stands : (m : Monitored) → IsSound m.layout → AreActivations m.layout m.records
    → (s : Stores) × MonitorStandsFor m s → MonitorStandsFor m (stores_read m)
read_stands m sound may (s, h) = subst (MonitorStandsFor m) (sym (read_same m sound may s h)) h

-- it is the one that is found
pub segment_is : (m : Monitored) (c : Cell) (o : Option ℕ) → IsDataCell c → IfSome o (λ t. AnswersAt m c t)
    → ((t : ℕ) → AnswersAt m c t → o ≡ Some t) → o ≡ segment_over m.layout (live_in m.layout m.records) c
segment_is m c o is some only = by_segment _ (segments_over m.layout (live_in m.layout m.records) c) o some only
  where
    by_segment : (found : Option ℕ) → Segments m.layout (live_in m.layout m.records) c found → (o : Option ℕ)
        → IfSome o (λ t. AnswersAt m c t) → ((t : ℕ) → AnswersAt m c t → o ≡ Some t) → o ≡ found
    by_segment _ (One t over alive e) o some only = only t (record { of_data = is; over = over; live = alive }) ∙ sym e
    by_segment _ (NoOne none e) (Some t) some only = absurd (none t some.over some.live)
    by_segment _ (NoOne none e) None some only = sym e

pub segment_below : (m : Monitored) (c : Cell) (t : ℕ) → AnswersAt m c t → t < length m.layout.placed
segment_below m c t h = slice_get_within m.layout.placed t h.over.is h.over.placed

-- one byte outside is enough
one_outside : (l : LayoutParts) (unit pc index count : ℕ) → index < count
    → is_at (unit_found l ((pc + index) % 65536)) unit ≡ false → lie_inside l unit pc count ≡ false
one_outside l unit pc index zero h e = absurd (omega (arith, h))
one_outside l unit pc index (suc count) h e = elim (eqb_tells index count) [
  | inl t ↦
      and_right (lie_inside l unit pc count) (is_at (unit_found l ((pc + count) % 65536)) unit) (rw (← t.1) e)
  | inr t ↦ rw (one_outside l unit pc index count (omega (arith, h, t.1)) e) refl
]

-- a byte that another unit covers, or none
found_other : (l : LayoutParts) (unit at : ℕ) (o : Option ℕ) → IsFoundAt l at o → (IsUnitAt l at unit → ⊥)
    → is_at o unit ≡ false
found_other l unit at None found other = refl
found_other l unit at (Some v) found other = ne_eqb v unit (λ e. other (rw e at found))

found_here : (l : LayoutParts) (unit at : ℕ) → IsSound l → IsUnitAt l at unit → is_at (unit_found l at) unit ≡ true
found_here l unit at sound here =
    let same : Some unit ≡ unit_found l at = same_unit_found l at (Some unit) here
    (λ u k. ap Some (one_unit l sound at unit u here k)) in
    rw (← same) (is_number unit unit refl)

all_inside : (l : LayoutParts) (unit pc count : ℕ) → IsSound l
    → ((n : ℕ) → n < count → IsUnitAt l ((pc + n) % 65536) unit) → lie_inside l unit pc count ≡ true
all_inside l unit pc zero sound all = refl
all_inside l unit pc (suc count) sound all =
    rw (all_inside l unit pc count sound (λ n h. all n (omega (arith, h))))
    (found_here l unit ((pc + count) % 65536) sound (all count (omega arith)))

-- what is known of each byte, or of one
pub lies : (l : LayoutParts) (unit pc count : ℕ) (b : Bool) → IsSound l
    → (b ≡ true → (n : ℕ) → n < count → IsUnitAt l ((pc + n) % 65536) unit)
    → (b ≡ false → IsPast l pc count unit) → b ≡ lie_inside l unit pc count
lies l unit pc count true sound inside outside = sym (all_inside l unit pc count sound (inside refl))
lies l unit pc count false sound inside outside =
    let p = outside refl in
    let at = (pc + p.index) % 65536 in
    sym (one_outside l unit pc p.index count p.below
    (found_other l unit at (unit_found l at) (unit_found_is l at) p.outside))
