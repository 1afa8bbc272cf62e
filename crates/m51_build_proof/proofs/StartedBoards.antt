-- At most one live segment covers a cell, at each step; and each layout with a root at 0000H has a board.
use Rattle.m51_build_proof.proofs
use proofs.Common.{Linked, LayoutParts, Script, BuildJob, Instr, AreOfBytes, IsBuilt, separate_run, cond_both, lt-ltb}
use proofs.Common.{range_with_len, if◌then◌else◌, nat_lt, Event, IsSound, one_root, Inputs, inputs_of, inside_ok}
use proofs.Common.{IsDataCell, BoardState, IsStarted}
use proofs.Known.{IsStartable, layout_startable}
use Rattle.std.proofs.Common.{◌≡◌, ℕ, zero, suc, List, Option, Some, None, Result, Ok, Err, refl, sym, ap, subst, ◌<◌}
use Rattle.std.proofs.Common.{◌%◌, ◌∙◌, Bool, true, false, arith, map, ◌/◌, get_or, not}
use Rattle.m51_flat.specs.declared.state.Cpu.{Cpu}
use Rattle.m51_flat.specs.declared.state.Effect.{Effect}
use Rattle.m51_flat.specs.declared.state.Outcome.{Outcome as StepOutcome}
use Rattle.m51_flat.specs.declared.state.Pins.{Pins}
use Rattle.m51_flat.specs.declared.state.Source.{Source}
use Rattle.m51_flat.specs.declared.state.Transfer.{Transfer}
use Rattle.m51_flat.specs.declared.state.Transfer.TheVariants.{Vector}
use Rattle.m51_flat.specs.Flags.{idl}
use Rattle.m51_flat.specs.Sfr.{flag, latch, pcon, sp}
use Rattle.m51_flat.specs.Vectors.{vector_of}
use Rattle.m51_irq.specs.Choice.{chosen}
use Rattle.m51_irq.specs.Vectoring.{vectored}
use Rattle.m51_monitor.specs.declared.step.Move.{Move}
use Rattle.m51_monitor.specs.declared.step.Move.TheVariants.{Stay}
use Rattle.m51_monitor.specs.Found.{root_found, unit_found}
use Rattle.m51_monitor.specs.Monitored.{live_in, Monitored, IsStart, started}
use Rattle.m51_monitor.specs.Records.{AreWalks, Records, units_named}
use Rattle.m51_monitor.specs.Related.{OneLive}
use Rattle.m51_monitor.specs.Resolved.{outside_of, is_absent, resolved}
use Rattle.m51_monitor.specs.Transfers.{IsRootWanted, judged, moved}
use Rattle.m51_monitor.proofs.Finding.{same_root_found}
use Rattle.m51_monitor.proofs.Liveness.{one_live}
use Rattle.m51_monitor.proofs.Moving.{allowed, allowed_stands}
use Rattle.m51_monitor.proofs.Standing.{all_related}
use Rattle.m51_sim.specs.Effects.{attempt_by, attempt_of, executing, idle_effect, instr_at}
use Rattle.m51_sim.specs.Runs.{Performed, State, record_from, record_of}
use Rattle.m51_sim.specs.SeparateMachine.{Separate, cells_of, concludes, separate_effect, separate_machine}
use Rattle.m51_sim.specs.SeparateMachine.{separate_performs, separate_start}
use Rattle.m51_stack_proof.proofs.Bounded.{Held, judged_of}
use Rattle.m51_stack_proof.proofs.Meeting.{root_at}
use Rattle.std.proofs.lemmas.List.FromFn.{get_or-map-range_with_len}
use Rattle.std.specs.Int.{bit_at}
use Rattle.m51_monitor.specs.Stores.{Resolves, Stores, fill_in, filled_stores}
use Rattle.m51_monitor.proofs.Resolved.{resolves}
use Rattle.m51_monitor.proofs.Starting.{filled_are_stores}
use Rattle.m51_flat.specs.States.{CellState, Absent, Holds}
use Rattle.m51_sim.proofs.Beginning.{is_started, chip_at_reset}
use Rattle.m51_cells.specs.declared.cell.Cell.{Cell}
use Rattle.m51_cells.specs.declared.cell.Space.{Space}
use Rattle.m51_cells.specs.declared.cell.Space.TheVariants.{Code, Ram, Xram}
use Rattle.m51_monitor.specs.Masks.{IsCellAt}
use Rattle.m51_monitor.specs.Shared.{Shared, cell_state, masked}

-- a list of flags or bytes, by their numbers
pub read_at : {X : Type 0} (f : ℕ → X) (count n : ℕ) (d : X) → n < count
    → get_or (map f (range_with_len 0 count)) n d ≡ f n
read_at f count n d below = get_or-map-range_with_len f 0 count n n d below (omega arith)

-- what masks make of a cell
cell_as : (live written low a b : Bool) (v w : ℕ) → live ≡ a → written ≡ b → low ≡ true → v ≡ w
    → masked live written (if low then Holds v else Absent) ≡ masked a b (Holds w)
cell_as live written low a b v w e f g h = rw (e, f, g, h)

abbrev is_set : CellState → Bool
is_set (Holds v) = true
is_set other = false

module _ (l : LayoutParts) (ok : IsStartable l) (image : List ℕ) (script : Script) (rams bytes xrams : ℕ)
    (is_rams : rams ≡ 2048) (is_bytes : bytes ≡ 256) (is_xrams : xrams ≡ 65536) where
  abbrev records : Records
  records = started ok.root.0

  abbrev stores : Stores
  stores = filled_stores l script.fill

  -- what the stores answer in a cell: the fill, or it is unset, or outside
  abbrev state : Cell → CellState
  state c = resolved l (live_in l records) stores c

  state_is : (c : Cell)
      → masked (not (is_absent (state c))) (is_set (state c)) (Holds (fill_in script.fill c.space c.at)) ≡ state c
  state_is c = grind arith

  abbrev fill_byte : ℕ → ℕ
  fill_byte n = script.fill

  abbrev is_live : Space → ℕ → Bool
  is_live s n = not (is_absent (state (record { space = s; at = n })))

  abbrev is_written : Space → ℕ → Bool
  is_written s n = is_set (state (record { space = s; at = n }))

  pub store : Shared
  store = record {
    memory = record { ram = map fill_byte (range_with_len 0 bytes); xram = map fill_byte (range_with_len 0 xrams) };
    live = record {
      ram = map (is_live Ram) (range_with_len 0 rams);
      xram = map (is_live Xram) (range_with_len 0 xrams);
    };
    written = record {
      ram = map (is_written Ram) (range_with_len 0 rams);
      xram = map (is_written Xram) (range_with_len 0 xrams);
    };
  }

  holds : (c : Cell) → IsDataCell c → cell_state store c ≡ state c
  unfolding store
  holds c h = by_space c.space c.at h ∙ state_is c
    where
      by_space : (s : Space) (n : ℕ) → IsCellAt s n → cell_state store (record { space = s; at = n })
          ≡ masked (is_live s n) (is_written s n) (Holds (fill_in script.fill s n))
      by_space Ram n h =
          let byte : n / 8 < bytes = omega (arith, h.1, is_bytes) in
          let inside : n < rams = omega (arith, h.1, is_rams) in
          cell_as _ _ (nat_lt n 2048) (is_live Ram n) (is_written Ram n) _ _ (read_at (is_live Ram) rams n false inside)
          (read_at (is_written Ram) rams n false inside) (lt-ltb n 2048 h.1)
          (ap (λ b. bit_at b (n % 8)) (read_at fill_byte bytes (n / 8) 0 byte))
      by_space Xram n h =
          let inside : n < xrams = omega (arith, h.1, is_xrams) in
          cell_as _ _ (nat_lt n 65536) (is_live Xram n) (is_written Xram n) _ _
          (read_at (is_live Xram) xrams n false inside) (read_at (is_written Xram) xrams n false inside)
          (lt-ltb n 65536 h.1) (read_at fill_byte xrams n 0 inside)
      by_space Code n h = absurd h.0

  abbrev monitor : Monitored
  monitor = record { layout = l; records = records; store = store }

  start : IsStart l script.fill monitor
  start = record {
    layout = refl;
    root = ok.root.0;
    is_root = ok.root.1;
    records = refl;
    stores = record {
      stores = filled_are_stores l (units_named records) script.fill;
      cells = λ c is. subst (Resolves l (live_in l records) stores c) (sym (holds c is))
          (resolves l (live_in l records) stores c is);
    };
  }

  abbrev pub board : BoardState
  board = record { chip = chip_at_reset image script; monitor = monitor }

  walks : AreWalks l records
  walks = record { over = ok.root.1 }

  pub is_board : IsStarted l image script board
  is_board = is_started l script.fill monitor ok.sound
      (record { stand = walks; heights = tt; levels = omega arith }) start image script
      (chip_at_reset image script) refl refl

  pub start_walks : AreWalks l (separate_start l script.fill).records
  start_walks = subst (AreWalks l) (ap (λ (s : State Separate). s.memory.records) is_board.state) walks

-- a board after a reset
pub started_board : (l : LayoutParts) → IsStartable l → (image : List ℕ) (script : Script)
    → (board : BoardState) × IsStarted l image script board
started_board l ok image script = (_, is_board l ok image script 2048 256 65536 refl refl refl)

-- ---- at most one live segment covers a cell, at each step

module _ (l : LayoutParts) (sound : IsSound l) (image : List ℕ) where
  -- the root that the machine finds is the required one
  wanted_by : (source : Source) (o : Option ℕ) → root_found l (Vector source) ≡ o → IsRootWanted l (Vector source) o
  wanted_by source (Some u) is = root_at l sound source u is
  wanted_by source None is =
      λ u h. absurd (cc (
        is,
        same_root_found l source (Some u) h (λ w k. ap Some (one_root l sound (vector_of source) u w h k)),
      ))

  wanted : (t : Transfer) → IsRootWanted l t (root_found l t)
  wanted t = grind (arith, wanted_by)

  walks_after : (a : Records) (cpu : Cpu) (e : Effect) (step : Move)
      → Ok step ≡ judged l a cpu e (unit_found l e.cpu.pc) (root_found l e.transfer) → AreWalks l a
      → AreWalks l (moved a e step)
  walks_after a cpu e step is h =
      allowed_stands l a e (latch cpu sp) e.cpu.pc (unit_found l e.cpu.pc) (root_found l e.transfer) step h
      (allowed l a (latch cpu sp) (latch e.cpu sp) e.cpu.pc e.transfer (unit_found l e.cpu.pc) (root_found l e.transfer)
      step (wanted e.transfer) is)

  -- after each effect that is allowed
  module _ (m : Separate) (cpu : Cpu) (pins : Pins) (x : Held l m) (h : AreWalks l m.records) where
    abbrev Then : Type 0
    Then = AreWalks l (moved m.records x.effect x.step)

    by_outcome : (o : StepOutcome) → concludes l m cpu o ≡ Ok x → Then
    by_outcome o done = walks_after m.records cpu x.effect x.step (judged_of l m cpu o x done).judged_is h

    by_instr : (i : Option Instr) → separate_effect l image cpu m pins (executing i) ≡ Ok x → Then
    unfolding separate_effect
    by_instr i done = grind (arith, by_outcome, inside_ok)

    by_idle : separate_effect l image cpu m pins (attempt_by image cpu None) ≡ Ok x → Then
    unfolding separate_effect
    by_idle = cond_both (flag cpu pcon idl) _ _ (λ t. separate_effect l image cpu m pins t ≡ Ok x → Then)
        (λ yes done.
        let same : x ≡ record { effect = idle_effect cpu; step = Stay } = cc done in rw same h)
        (λ no. by_instr (instr_at image cpu.pc))

    by_chosen : (o : Option Source) → separate_effect l image cpu m pins (attempt_by image cpu o) ≡ Ok x → Then
    unfolding separate_effect
    by_chosen (Some source) done = by_outcome (vectored cpu (outside_of (cells_of l m)) source) done
    by_chosen None done = by_idle done

    effect_walks : separate_effect l image cpu m pins (attempt_of image cpu) ≡ Ok x → Then
    unfolding attempt_of
    effect_walks done = by_chosen (chosen cpu) done

  module _ (inputs : Inputs) where
    -- after a step that is performed
    abbrev IfDone : Result (Performed Separate) Event → Type 0
    IfDone (Ok done) = AreWalks l done.state.memory.records
    IfDone (Err event) = Unit {0}

    step_walks : (s : State Separate) (r : Result (Held l s.memory) Event)
        → separate_effect l image s.cpu s.memory (inputs.pins s.cycle) (attempt_of image s.cpu) ≡ r
        → AreWalks l s.memory.records → IfDone (separate_performs l inputs s r)
    step_walks s r is h = grind (arith, effect_walks s.memory s.cpu (inputs.pins s.cycle))

    abbrev Ends : ℕ → State Separate → Type 0
    Ends n s = AreWalks l (record_of (separate_machine l image inputs) n s).last.memory.records

    run_by : (n : ℕ) (s : State Separate) (r : Result (Performed Separate) Event) → IfDone r
        → AreWalks l s.memory.records → ((t : State Separate) → AreWalks l t.memory.records → Ends n t)
        → AreWalks l (record_from s (record_of (separate_machine l image inputs) n) r).last.memory.records
    run_by n s r is h rest = grind arith

    run_walks : (n : ℕ) (s : State Separate) → AreWalks l s.memory.records → Ends n s
    unfolding record_of
    run_walks zero s h = h
    run_walks (suc n) s h =
        run_by n s (separate_machine l image inputs s)
        (step_walks s (separate_effect l image s.cpu s.memory (inputs.pins s.cycle) (attempt_of image s.cpu)) refl h) h
        (λ t k. run_walks n t k)

pub one_live_segment : (job : BuildJob) (contents : List (List ℕ)) (script : Script) (linked : Linked)
    → IsBuilt job contents script linked → AreOfBytes contents → (n : ℕ)
    → OneLive linked.layout (live_in linked.layout (separate_run linked script n).last.memory.records)
one_live_segment job contents script linked b bytes n =
    let l = linked.layout in
    let ok = layout_startable job contents script linked b bytes in
    let a : Records = (separate_run linked script n).last.memory.records in
    one_live l (units_named a) ok.sound
    (all_related l a (run_walks l ok.sound linked.image (inputs_of script) n _
    (start_walks l ok linked.image script 2048 256 65536 refl refl refl)))
