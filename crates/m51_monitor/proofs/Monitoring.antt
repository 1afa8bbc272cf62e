-- A monitor is frames and the activity of units.
use Rattle.m51_monitor.proofs.Common.{◌≡◌, true, false, IfSome, Option, Some, None, ℕ, ◌<◌, List, [], ◌∷◌, ◌++◌}
use Rattle.m51_monitor.proofs.Common.{length, refl, ap, ◌∙◌, arith, slice_get_within}
use Rattle.m51_monitor.proofs.Common.{and_parts, IsDataCell, Cell, LayoutParts, IsRootAt, IsSound, Effect, Put, Cause}
use Rattle.m51_monitor.proofs.Common.{ReturnFrame, AreTimes, KeepsStores, answers_in, records_of, Monitored}
use Rattle.m51_monitor.proofs.Common.{AreActivations, units_named, shared_cells, IsOver, Stores, StandsFor}
use Rattle.m51_monitor.proofs.Common.{filled_stores, has_cell, live_by, put_into, jumped, return_pushed}
use Rattle.std.proofs.Common.{IfNone}
use Rattle.m51_monitor.specs.Activity.{Activity, MayEnter}
use Rattle.m51_monitor.specs.Frames.{AreFrames}
use Rattle.m51_monitor.specs.Monitored.{AnswersAt, AreNumbers, IsStart, StandsAfter}
use Rattle.m51_monitor.specs.Monitored.{MonitorStandsFor, live_in, stores_after, stores_changed}
use Rattle.m51_monitor.specs.Resolved.{resolved_cells}
use Rattle.m51_monitor.proofs.Changing.{same_stands}
use Rattle.m51_monitor.proofs.Entering.{plain_lives}
use Rattle.m51_monitor.proofs.Framing.{units_are, jumped_is, call_is}
use Rattle.m51_monitor.proofs.Framing.{room_above}
use Rattle.m51_monitor.proofs.Liveness.{one_live}
use Rattle.m51_monitor.proofs.Resolved.{cells_resolved}
use Rattle.m51_monitor.proofs.Resolving.{has_cell_data, has_cell_is, is_has_cell}
use Rattle.m51_monitor.proofs.Standing.{all_related, may_enter, named_rare, naming_times}
use Rattle.m51_monitor.proofs.Starting.{filled_unset}

abbrev pub monitored : List ReturnFrame → Activity → Monitored
monitored frames a = record { layout = a.layout; records = records_of frames a.units; store = a.store }

-- what is kept for the units is kept for the records
pub kept : (frames frames' : List ReturnFrame) (old new : Activity) → KeepsStores old new
    → StandsAfter (stores_changed new.layout (records_of frames' new.units)) (monitored frames old)
    (monitored frames' new)
kept frames frames' old new keeps s h =
    rw (units_are frames' new.units) (keeps s (rw (units_are frames old.units) at h))

-- the same units under other frames
pub kept_same : (frames frames' : List ReturnFrame) (a : Activity)
    → StandsAfter (stores_changed a.layout (records_of frames' a.units)) (monitored frames a) (monitored frames' a)
kept_same frames frames' a =
    kept frames frames' a a
    (λ s h. same_stands a.layout (live_by a.layout a.units) (live_by a.layout a.units) s a.store
    (plain_lives a.layout a.units) (λ t. refl) h)

-- a put
pub kept_put : (frames : List ReturnFrame) (old new : Activity) (put : Put) → new.layout ≡ old.layout
    → new.units ≡ old.units
    → ((s : Stores) → StandsFor old.layout (live_by old.layout old.units) old.store s
    → StandsFor old.layout (live_by old.layout old.units) new.store
    (put_into old.layout (live_by old.layout old.units) put s))
    → StandsAfter (put_into old.layout (live_in old.layout (records_of frames old.units)) put) (monitored frames old)
    (monitored frames new)
kept_put frames old new put layout units keeps s h =
    rw (layout, units, units_are frames old.units) (keeps s (rw (units_are frames old.units) at h))

pub jump_enters : (l : LayoutParts) (frames : List ReturnFrame) (us : List ℕ) (u : ℕ) → IsSound l → AreFrames frames us
    → AreActivations l (jumped (records_of frames us).reset (records_of frames us).returns u) → MayEnter l us u
jump_enters l frames us u sound are may =
    may_enter l sound (records_of frames (u ∷ us)) u us (units_are frames (u ∷ us)) (rw (jumped_is frames us u are) may)

pub call_enters : (l : LayoutParts) (frames : List ReturnFrame) (us : List ℕ) (f : ReturnFrame) (u : ℕ) → IsSound l
    → f.start ≡ length us
    → AreActivations l (return_pushed (records_of frames us) f.cause f.return_address f.sp (u ∷ []))
    → MayEnter l us u
call_enters l frames us f u sound e may =
    may_enter l sound (records_of (frames ++ f ∷ []) (u ∷ us)) u us (units_are (frames ++ f ∷ []) (u ∷ us))
    (rw (call_is frames us f u e) may)

pub push_room : (l : LayoutParts) (frames : List ReturnFrame) (us : List ℕ) (cause : Cause) (return_address top : ℕ)
    (units : List ℕ) → AreActivations l (return_pushed (records_of frames us) cause return_address top units)
    → length frames < 128
push_room l frames us cause return_address top units may =
    room_above l frames us (return_pushed (records_of frames us) cause return_address top units)
    (record { cause = cause; return_address = return_address; sp = top; units = units }) refl may

-- both puts, and a change of the records
pub commit_keeps : (m0 m1 m2 m3 : Monitored) (e : Effect) → m1.layout ≡ m0.layout → m1.records ≡ m0.records
    → m3.layout ≡ m0.layout
    → StandsAfter (put_into m0.layout (live_in m0.layout m0.records) e.first) m0 m1
    → StandsAfter (put_into m1.layout (live_in m1.layout m1.records) e.second) m1 m2
    → StandsAfter (stores_changed m3.layout m3.records) m2 m3
    → StandsAfter (stores_after m0.layout m0.records m3.records e) m0 m3
commit_keeps m0 m1 m2 m3 e layout records last first second change s h =
    rw (← last) (change _ (rw (layout, records, ← last) at (second _ (first s h))))

-- the segment that answers in a cell
answers_are : (l : LayoutParts) (us : List ℕ) (c : Cell) (t : ℕ) → answers_in l us c t ≡ true
    → IsDataCell c × IsOver l t c × (live_by l us t ≡ true)
answers_are l us c t e = let k = and_parts (live_by l us t) (has_cell l t c) e in
    (has_cell_data l t c k.1, has_cell_is l t c k.1, k.0)

are_answers : (l : LayoutParts) (us : List ℕ) (c : Cell) (t : ℕ) → IsDataCell c → IsOver l t c → live_by l us t ≡ true
    → answers_in l us c t ≡ true
are_answers l us c t is over live = rw live (is_has_cell l t c is over)

pub segment_some : (frames : List ReturnFrame) (a : Activity) (c : Cell) (o : Option ℕ)
    → IfSome o (λ t. answers_in a.layout a.units c t ≡ true) → IfSome o (λ t. AnswersAt (monitored frames a) c t)
segment_some frames a c None h = h
segment_some frames a c (Some t) h =
    let k = answers_are a.layout a.units c t h in
    record {
      of_data = k.0;
      over = k.1;
      live = rw (units_are frames a.units) k.2;
    }

pub segment_only : (frames : List ReturnFrame) (a : Activity) (c : Cell) (o : Option ℕ) → IsSound a.layout
    → AreActivations a.layout (records_of frames a.units)
    → IfSome o (λ t. answers_in a.layout a.units c t ≡ true)
    → IfNone o ((t : ℕ) → t < length a.layout.placed → answers_in a.layout a.units c t ≡ false)
    → (t : ℕ) → AnswersAt (monitored frames a) c t → o ≡ Some t
segment_only frames a c None sound may some none t h =
    let live = rw (units_are frames a.units) at h.live in
    cc (
      none t (slice_get_within a.layout.placed t h.over.is h.over.placed),
      are_answers a.layout a.units c t h.of_data h.over live,
    )
segment_only frames a c (Some u) sound may some none t h =
    let k = segment_some frames a c (Some u) some in
    let named = units_named (records_of frames a.units) in
    let same : u ≡ t = one_live a.layout named sound (all_related a.layout (records_of frames a.units) may.stand) c u t
    k.over h.over k.live h.live in
    ap Some same

-- the numbers of records
pub numbers_are : (frames : List ReturnFrame) (a : Activity) (numbers : List ℕ) → IsSound a.layout
    → AreActivations a.layout (records_of frames a.units) → AreTimes a.layout a.units numbers
    → AreNumbers (monitored frames a) numbers
numbers_are frames a numbers sound may are = record {
  len = are.len;
  number = λ u h. rw (naming_times a.layout sound _ u may.stand, units_are frames a.units) (are.number u h);
  most = λ u h. omega (arith, rw (units_are frames a.units) at (named_rare a.layout sound _ u may), are.number u h);
}

-- the start
pub is_start : (l : LayoutParts) (fill root : ℕ) (old new : Activity) → IsRootAt l 0 root → old.layout ≡ l
    → old.units ≡ [] → StandsFor l (live_by l []) old.store (filled_stores l fill)
    → new.layout ≡ old.layout → new.units ≡ root ∷ old.units → KeepsStores old new → IsStart l fill (monitored [] new)
is_start l fill root old new h layout units stands same entered keeps = record {
  layout = same ∙ layout;
  root = root;
  is_root = h;
  records = rw (entered, units) refl;
  stores = rw (same, layout) (rw (same, layout, filled_unset l new.units fill) at
      (keeps (filled_stores l fill) (rw (layout, units) stands)));
}

-- the memory represents some stores, and answers as they do
pub stands_for : (frames : List ReturnFrame) (a : Activity)
    → (s : Stores) × StandsFor a.layout (live_by a.layout a.units) a.store s
    → (s : Stores) × MonitorStandsFor (monitored frames a) s
stands_for frames a h =
    (h.0, rw (units_are frames a.units) h.1)

pub answers_by : (frames : List ReturnFrame) (a : Activity) → IsSound a.layout
    → AreActivations a.layout (records_of frames a.units) → (s : Stores) → MonitorStandsFor (monitored frames a) s
    → shared_cells a.store ≡ resolved_cells a.layout (live_in a.layout (records_of frames a.units)) s
answers_by frames a sound may s h =
    let b = records_of frames a.units in
    cells_resolved a.layout (live_in a.layout b) a.store s
    (one_live a.layout (units_named b) sound (all_related a.layout b may.stand)) h
