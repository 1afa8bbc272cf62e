-- What the separate machine performs, the flat machine performs.
use Rattle.m51_sim.proofs.Common.{◌≡◌, ℕ, zero, suc, Bool, true, false, List, Option, Some, None, Result, Ok, Err}
use Rattle.m51_sim.proofs.Common.{refl, ap, if◌then◌else◌, Cell, Event, Instr, LayoutParts, IsSound, Cpu, Effect, Pins}
use Rattle.m51_sim.proofs.Common.{CellMap, live_in, Allowed, Inputs, flat_machine, map_after, reset_with, State}
use Rattle.m51_sim.proofs.Common.{Record, no_step, Separate, separate_machine, separate_start}
use Rattle.m51_flat.specs.declared.state.Outcome.{Outcome}
use Rattle.m51_flat.specs.declared.state.Outcome.TheVariants as outcome
use Rattle.m51_flat.specs.Meaning.{unless_shut}
use Rattle.m51_flat.specs.Reads.{Agrees}
use Rattle.m51_flat.proofs.Done.{effects_are_done, power_goes_down}
use Rattle.m51_monitor.specs.Records.{units_named}
use Rattle.m51_monitor.specs.Resolved.{outside_of}
use Rattle.m51_monitor.specs.Stores.{AreStores}
use Rattle.m51_monitor.specs.Transfers.{moved}
use Rattle.m51_monitor.proofs.Changing.{put_stores, unset_stores}
use Rattle.m51_monitor.proofs.Entering.{plain_lives}
use Rattle.m51_monitor.proofs.Starting.{filled_are_stores}
use Rattle.m51_sim.specs.declared.attempt.Attempt.{Attempt}
use Rattle.m51_sim.specs.declared.attempt.Attempt.TheVariants.{Executing}
use Rattle.m51_sim.specs.Effects.{attempt_of, performed}
use Rattle.m51_sim.specs.FlatMachine.{flat_effect, instr_effect}
use Rattle.m51_sim.specs.Laws.{FlatRunsAgree, HasFill, IsSameRun, IsSharedEvent}
use Rattle.m51_sim.specs.Runs.{record_from, record_of}
use Rattle.m51_sim.specs.SeparateMachine.{cells_of, instr_outcome, memory_after, separate_effect, separate_performs}
use Rattle.m51_sim.proofs.Agreeing.{AgreesWith, agrees_cells, put_agrees, start_agrees, unset_agrees}
use Rattle.m51_sim.proofs.Preparing.{Holds, HoldsIn, HoldsOf, attempted}

-- the bytes of the instruction lie inside
pub inside_ok : {X : Type 0} (b : Bool) (rest : Result X Event) (event : Event) (x : X)
    → (if b then rest else Err event) ≡ Ok x → (b ≡ true) × (rest ≡ Ok x)
inside_ok true rest event x h = (refl, h)
inside_ok false rest event x h = absurd (cc h)

-- a vectoring is its effect
pub vectored_done : (one two : Option Cell) (e f : Effect)
    → unless_shut one (unless_shut two (outcome.Done e)) ≡ outcome.Done f → e ≡ f
vectored_done None None e f h = cc h
vectored_done None (Some c) e f h = cc h
vectored_done (Some c) two e f h = cc h

-- the stores are stores, and the map has their values
pub record Kept (l : LayoutParts) (s : Separate) (m : CellMap) : Type 0 where
  pub stores : AreStores l (live_in l s.records) s.stores
  pub agrees : AgreesWith l s.stores m

module _ (l : LayoutParts) (image : List ℕ) (cpu : Cpu) (s : Separate) (pins : Pins) (m : CellMap) (kept : Kept l s m)
  where
    -- an effect of the flat machine is this one, or its event
    abbrev IsOk : Attempt → Effect → Type 0
    IsOk t e = flat_effect image cpu m pins t ≡ Ok e

    abbrev IsErr : Attempt → Event → Type 0
    IsErr t event = flat_effect image cpu m pins t ≡ Err event

    agrees : Agrees (cells_of l s) m
    agrees = agrees_cells l (live_in l s.records) s.stores m kept.agrees

    instr_same : (instr : Instr) (o : Outcome) → instr_outcome l s cpu instr image pins ≡ o
        → HoldsOf (IsOk (Executing instr)) (IsErr (Executing instr)) cpu o
    unfolding flat_effect instr_effect
    instr_same instr (outcome.Done e) h =
        let d = effects_are_done cpu (cells_of l s) (outside_of (cells_of l s)) instr image pins e h in
        rw (d.over_map m agrees, d.powered) refl
    instr_same instr outcome.PowerDown h =
        rw (power_goes_down cpu (cells_of l s) (outside_of (cells_of l s)) instr image pins m h agrees) refl
    instr_same instr _ h = tt

    same_in : (t : Attempt) → HoldsIn (IsOk t) (IsErr t) l cpu s image pins t
    unfolding flat_effect
    same_in (Executing instr) = instr_same instr _ refl
    same_in _ = refl

    effect_same : (t : Attempt) → Holds (IsOk t) (IsErr t) (separate_effect l image cpu s pins t)
    effect_same t = attempted (IsOk t) (IsErr t) l cpu s image pins t (same_in t)

    -- the map after the puts
    abbrev map_now : Effect → CellMap
    map_now e = map_after e.second (map_after e.first m)

    kept_after : (a : Allowed) → Kept l (memory_after l s a) (map_now a.effect)
    kept_after a =
        let e = a.effect in
        let live = live_in l s.records in
        let one_are = put_stores l live e.first s.stores kept.stores in
        record {
          stores = unset_stores l live _ _ (plain_lives l (units_named (moved s.records e a.step)))
              (put_stores l live e.second _ one_are);
          agrees = unset_agrees l (live_in l (moved s.records e a.step)) _ _
              (put_agrees l live e.second _ _ one_are (put_agrees l live e.first _ _ kept.stores kept.agrees));
        }

-- the flat machine's state beside a separate one
abbrev pub beside : State Separate → CellMap → State CellMap
beside s m = record { cpu = s.cpu; periph = s.periph; cycle = s.cycle; memory = m }

-- an event that both machines have
abbrev IsStop : Option Event → Option Event → Type 0
IsStop None flat = Unit {0}
IsStop (Some event) flat = IsSharedEvent event → flat ≡ Some event

module _ (l : LayoutParts) (image : List ℕ) (inputs : Inputs) where
  -- a run, and the one of the flat machine
  record AreAlike (s : State Separate) (m : CellMap) (run : Record Separate) : Type 0 where
    same : IsSameRun run (record_of (flat_machine image inputs) run.steps (beside s m))
    stops : IsStop run.event (record_of (flat_machine image inputs) (suc run.steps) (beside s m)).event

  none_alike : (s : State Separate) (m : CellMap) (event : Option Event)
      → IsStop event (record_of (flat_machine image inputs) 1 (beside s m)).event → AreAlike s m (no_step event s)
  unfolding record_of
  none_alike s m event h = record {
    same = record { entries = refl; event = refl; steps = refl; cpu = refl; periph = refl; cycle = refl };
    stops = h;
  }

  alike_from : (rest : State Separate → Record Separate) (s : State Separate) (m : CellMap)
      (r : Result Allowed Event) → Kept l s.memory m
      → (let t = attempt_of image s.cpu in let pins = inputs.pins s.cycle in
      Holds (λ e. flat_effect image s.cpu m pins t ≡ Ok e) (λ event. flat_effect image s.cpu m pins t ≡ Err event) r)
      → ((s' : State Separate) (m' : CellMap) → Kept l s'.memory m' → AreAlike s' m' (rest s'))
      → AreAlike s m (record_from s rest (separate_performs l inputs s r))
  unfolding record_of
  alike_from rest s m (Err event) kept h more = none_alike s m (Some event) (λ shared. rw (h shared) refl)
  alike_from rest s m (Ok a) kept h more =
      let pins = inputs.pins s.cycle in
      let next = more (performed inputs s a.effect (memory_after l s.memory a)).state
      (map_now l image s.cpu s.memory pins m kept a.effect)
      (kept_after l image s.cpu s.memory pins m kept a) in
      let same = next.same in
      record {
        same = rw h (record {
          entries = rw same.entries refl;
          event = same.event;
          steps = ap suc same.steps;
          cpu = same.cpu;
          periph = same.periph;
          cycle = same.cycle;
        });
        stops = rw h next.stops;
      }

  alike : (n : ℕ) (s : State Separate) (m : CellMap) → Kept l s.memory m
      → AreAlike s m (record_of (separate_machine l image inputs) n s)
  unfolding record_of
  alike zero s m kept = none_alike s m None tt
  alike (suc n) s m kept =
      alike_from (record_of (separate_machine l image inputs) n) s m _ kept
      (effect_same l image s.cpu s.memory (inputs.pins s.cycle) m kept (attempt_of image s.cpu))
      (λ s' m' k. alike n s' m' k)

  started_alike : (fill : ℕ) (m : CellMap) (n : ℕ) → IsSound l → HasFill l fill m
      → (let first = reset_with inputs (separate_start l fill) in
      AreAlike first m (record_of (separate_machine l image inputs) n first))
  started_alike fill m n sound has = alike n (reset_with inputs (separate_start l fill)) m (record {
    stores = filled_are_stores l (units_named (separate_start l fill).records) fill;
    agrees = start_agrees l fill m sound has;
  })

pub flat_runs_agree : FlatRunsAgree
flat_runs_agree = record {
  steps = λ l image inputs fill m n sound has. (started_alike l image inputs fill m n sound has).same;
  stops = λ l image inputs fill m n event sound has h.
      rw h at (started_alike l image inputs fill m n sound has).stops;
}
