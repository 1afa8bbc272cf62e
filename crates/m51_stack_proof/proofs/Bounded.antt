-- Each step of the separate machine keeps what records and processor represent, and the count of interrupts; so do runs
-- from the reset on, and the law follows.
use Rattle.m51_cells.specs.declared.cell.Cell.{Cell}
use Rattle.m51_cells.specs.declared.event.Event.{Event}
use Rattle.m51_flat.proofs.Devices.{pc_is_stacked}
use Rattle.m51_flat.proofs.Flows.{flow_is_kept}
use Rattle.m51_flat.proofs.Levels.{levels_are_kept}
use Rattle.m51_flat.proofs.Outcomes.{parity_of_right, right_of}
use Rattle.m51_flat.proofs.Parity.{IsRight, plan_right}
use Rattle.m51_flat.specs.Actions.{action_of}
use Rattle.m51_flat.specs.Flags.{idl}
use Rattle.m51_flat.specs.Laws.{Always, Follows, HasParity, next_address}
use Rattle.m51_flat.specs.LevelLaws.{LevelsFollow, writes_ie_or_ip}
use Rattle.m51_flat.specs.Meaning.{plan_of, started}
use Rattle.m51_flat.specs.Reset.{reset_cpu}
use Rattle.m51_flat.specs.Sfr.{acc, flag, has_register, latch, pcon, psw, sp, with_flag}
use Rattle.m51_flat.specs.States.{shut_of}
use Rattle.m51_flat.specs.Vectors.{vector_of}
use Rattle.m51_flat.specs.declared.state.Cpu.{Cpu}
use Rattle.m51_flat.specs.declared.state.Effect.{Effect}
use Rattle.m51_flat.specs.declared.state.Level.{Level}
use Rattle.m51_flat.specs.declared.state.Outcome.{Outcome}
use Rattle.m51_flat.specs.declared.state.Pins.{Pins}
use Rattle.m51_flat.specs.declared.state.Source.{Source}
use Rattle.m51_flat.specs.declared.state.Transfer.{Transfer}
use Rattle.m51_flat.specs.declared.state.Transfer.TheVariants.{Vector}
use Rattle.m51_irq.proofs.ChoiceLaws.{is_taken}
use Rattle.m51_irq.proofs.Kept.{acknowledged_kept, shape_before}
use Rattle.m51_irq.proofs.Taken.{vector_control, vector_parity}
use Rattle.m51_irq.specs.Choice.{chosen, is_allowed}
use Rattle.m51_irq.specs.Sources.{level_of}
use Rattle.m51_irq.specs.Vectoring.{IsVectoring, cleared, entered, interrupted, vectored, vectoring}
use Rattle.m51_isa.specs.Table.{flow_of, length_of}
use Rattle.m51_isa.specs.declared.instr.Flow.{Flow}
use Rattle.m51_isa.specs.declared.instr.Instr.{Instr}
use Rattle.m51_module.proofs.Units.{one_root}
use Rattle.m51_module.specs.Plan.{IsRootAt, IsUnitAt}
use Rattle.m51_module.specs.declared.parts.LayoutParts.{LayoutParts}
use Rattle.m51_module.specs.declared.stack_bound.StackBound.{StackBound}
use Rattle.m51_module.specs.declared.start.Start.TheVariants.{Reset}
use Rattle.m51_monitor.proofs.CurrentUnit.{covers_is_kept, jumped_current, root_covers}
use Rattle.m51_monitor.proofs.Finding.{same_root_found, unit_found_is}
use Rattle.m51_monitor.proofs.Levels.{interrupts_are_counted}
use Rattle.m51_monitor.proofs.Moving.{Calls as CallsAlong, Continues, Ends, Jumps, Nears, Returns as ReturnsBy, Stays}
use Rattle.m51_monitor.proofs.Moving.{Taken, Vectors, judged_taken}
use Rattle.m51_monitor.specs.Found.{root_found, unit_found}
use Rattle.m51_monitor.specs.Judgement.{judge_of}
use Rattle.m51_monitor.specs.Laws.{CountsInterrupts, GoesToVector}
use Rattle.m51_monitor.specs.Monitored.{Monitored}
use Rattle.m51_monitor.specs.Records.{Records, ReturnRecord, current}
use Rattle.m51_monitor.specs.Resolved.{outside_of}
use Rattle.m51_monitor.specs.Rising.{in_progress, interrupts, levels}
use Rattle.m51_monitor.specs.Transfers.{IsFoundAt, IsRootWanted, Judges, judged, jumped, moved}
use Rattle.m51_monitor.specs.declared.step.Move.{Move}
use Rattle.m51_monitor.specs.declared.step.Move.TheVariants.{Return, Stay}
use Rattle.m51_sim.proofs.Keeping.{inside_ok, vectored_done}
use Rattle.m51_sim.proofs.Preparing.{done_fact, ended_levels, same_levels}
use Rattle.m51_sim.proofs.TakenTypes.{taken_by}
use Rattle.m51_sim.specs.Cycles.{Inputs, cycle_passed, cycles_passed, next_cycle}
use Rattle.m51_sim.specs.Effects.{attempt_by, attempt_of, changed_by, executing, idle_effect, instr_at}
use Rattle.m51_sim.specs.FlatMachine.{reset_with}
use Rattle.m51_sim.specs.Runs.{Performed, State, record_from, record_of}
use Rattle.m51_sim.specs.SeparateMachine.{Separate, cells_of, concludes, instr_outcome, lie_inside, memory_after}
use Rattle.m51_sim.specs.SeparateMachine.{or_zero, separate_effect, separate_machine, separate_performs, separate_start}
use Rattle.m51_sim.specs.SeparateMachine.{with_move}
use Rattle.m51_stack_proof.proofs.Meeting.{Does, handler_is, instr_does, instruction_is, root_at}
use Rattle.m51_stack_proof.proofs.Steps.{AtReset, InStep, IsBounded, call_made, in_room, interrupt_taken, jumped_stands}
use Rattle.m51_stack_proof.proofs.Steps.{returned, spoiled_none, went_on, went_to}
use Rattle.m51_stack_proof.specs.Laws.{SpIsBounded}
use Rattle.m51_stackbound.proofs.Rooted.{reset_first}
use Rattle.m51_stackbound.specs.Points.{instruction}
use Rattle.m51_timers_uart.proofs.Kept.{the_rest_is_kept}
use Rattle.m51_timers_uart.specs.KeptLaws.{KeepsBut, device_registers}
use Rattle.std.proofs.Common.{Bool, List, None, Option, Some, [], ap, arith, false, inl, inr, length, lit≤, refl, subst}
use Rattle.std.proofs.Common.{suc, sym, true, zero, ℕ, ◌%◌, ◌+◌, ◌∙◌, ◌∷◌, ◌≡◌, ◌≤◌}
use Rattle.std.proofs.lemmas.Bool.{cond_both}
use Rattle.std.proofs.lemmas.Grind.{common_steps}
use Rattle.std.specs.Prelude.{Err, Ok, Result}
use Rattle.m51_flat.specs.declared.state.Outcome.TheVariants as outcome

few_levels : (low high : Bool) → length (in_progress low high) ≤ 2
few_levels low high = grind arith

-- an effect, and the move that the table answers it by
module _ {l : LayoutParts} {image : List ℕ} {b : StackBound} (g : IsBounded l image b) {a : Records} (cpu : Cpu)
    (s : InStep g a cpu.pc (latch cpu sp)) (count : interrupts a.returns ≤ 2) (e : Effect) where
  -- what the effect is, by its transfer: of an interrupt, or of the instruction at PC
  abbrev Runs : Transfer → Type 0
  Runs (Vector source) = IsVectoring cpu source e × (interrupts a.returns ≤ 1)
  Runs t = (instr : Instr) × (instruction l image cpu.pc ≡ Some instr) × Does cpu instr e t

  abbrev After : Move → Type 0
  After m = InStep g (moved a e m) e.cpu.pc (latch e.cpu sp)

  back : (r : ReturnRecord) (rs : List ReturnRecord) → a.returns ≡ r ∷ rs → latch cpu sp ≡ r.sp
      → e.cpu.pc ≡ r.return_address → IsUnitAt l e.cpu.pc (current (moved a e Return))
      → latch e.cpu sp ≡ (latch cpu sp + 254) % 256 → After Return
  back r rs are same to covers f = rw are (returned g a.reset r rs s.start s.base e.cpu.pc (latch e.cpu sp)
      (rw are at s.stands) (omega (arith, in_room g s count, g.few, same)) (cc (same, f)) to (rw are at covers))

  after : (root : Option ℕ) (t : Transfer) (m : Move) → IsRootWanted l t root
      → Taken l a (latch cpu sp) (latch e.cpu sp) e.cpu.pc (unit_found l e.cpu.pc) root t m
      → IsUnitAt l e.cpu.pc (current (moved a e m)) → Runs t → After m
  after root t m w (Continues is above) covers f = went_on g cpu s count f.1 e f.2 covers
  after root t m w (Stays is above) covers f = went_to g cpu s count f.1 e a f.2 s.stands (inl refl) covers
  after root t m w (Jumps u edge is above) covers f =
      went_to g cpu s count f.1 e (jumped a.reset a.returns u) f.2 (jumped_stands g _ _ _ _ u s.stands)
      (inr (rw (jumped_current a.reset a.returns u) edge)) covers
  after root t m w (Nears is above) covers f = call_made g cpu s count f.1 e (current a) [] f.2 (inl refl) covers covers
  after root t m w (CallsAlong u edge is above) covers f =
      call_made g cpu s count f.1 e u (u ∷ []) f.2 (inr edge) covers covers
  after root t m w (ReturnsBy r rs are call same to here) covers f = back r rs are same to covers f.2
  after root t m w (Ends r rs are call same to here) covers f = back r rs are same to covers f.2
  after root t m w (Vectors source u is free above) covers f =
      interrupt_taken g cpu s count source e (u ∷ []) f.0 f.1 (handler_is l g.sound source u (rw is at w)) free covers

  goes : (t : Transfer) → Runs t → GoesToVector t e.cpu.pc
  goes (Vector source) f = f.0.at
  goes t f = tt

  wanted : (t : Transfer) → IsRootWanted l t (root_found l t)
  wanted (Vector source) = by (root_found l (Vector source)) refl
    where
      by : (o : Option ℕ) → root_found l (Vector source) ≡ o → IsRootWanted l (Vector source) o
      by (Some u) is = root_at l g.sound source u is
      by None is = λ u h. absurd (cc (
        is,
        same_root_found l source (Some u) h (λ w k. ap Some (one_root l g.sound (vector_of source) u w h k)),
      ))
  wanted t = tt

  -- the law of the monitor over these records
  abbrev monitor : Monitored
  monitor = record {
    layout = l;
    records = a;
    store = record {
      memory = record { ram = []; xram = [] };
      live = record { ram = []; xram = [] };
      written = record { ram = []; xram = [] };
    };
  }

  moved_on : (step : Move) → Runs e.transfer
      → Ok step ≡ judged l a cpu e (unit_found l e.cpu.pc) (root_found l e.transfer)
      → After step × CountsInterrupts e.transfer (interrupts a.returns) (interrupts (moved a e step).returns)
  moved_on step f is =
      let j : Judges l a cpu e (Ok step) = record {
        at = unit_found l e.cpu.pc;
        root = root_found l e.transfer;
        at_is = unit_found_is l e.cpu.pc;
        root_is = wanted e.transfer;
        is = is;
      } in (
        after _ e.transfer step (wanted e.transfer) (judged_taken l a cpu e step j)
            (covers_is_kept monitor cpu e step g.sound (goes e.transfer f) j) f,
        interrupts_are_counted monitor cpu e step j,
      )

-- the count of levels, by the flow of the instruction
counted_by : (cpu : Cpu) (e : Effect) (next : ℕ) (w : Bool) (n : ℕ) (f : Flow) → Follows f next (latch cpu sp) e
    → LevelsFollow f w cpu e → CountsInterrupts e.transfer (length (levels cpu)) n → n ≡ length (levels e.cpu)
counted_by cpu e next w n f k v c = grind (arith, common_steps, same_levels w cpu e, ended_levels cpu e)

-- an effect and a move that are allowed
abbrev pub Held : LayoutParts → Separate → Type 0
Held l m = taken_by (memory_after l m)

-- an effect that is judged
pub record IsJudged (l : LayoutParts) (m : Separate) (cpu : Cpu) (o : Outcome) (e : Effect) (step : Move) : Type 0 where
  pub done : o ≡ outcome.Done e
  pub judged_is : Ok step ≡ judged l m.records cpu e (unit_found l e.cpu.pc) (root_found l e.transfer)

judged_by : (l : LayoutParts) (m : Separate) (cpu : Cpu) (e : Effect) (r : Result Move Event) (x : Held l m)
    → judge_of l m.records cpu e ≡ r → with_move e r ≡ Ok x → IsJudged l m cpu (outcome.Done e) x.effect x.step
judged_by l m cpu e r x is h = grind arith

pub judged_of : (l : LayoutParts) (m : Separate) (cpu : Cpu) (o : Outcome) (x : Held l m) → concludes l m cpu o ≡ Ok x
    → IsJudged l m cpu o x.effect x.step
judged_of l m cpu o x h = grind (arith, judged_by)

-- a level that is entered is one more
level_added : (level : Level) (cpu c : Cpu) → c.low ≡ cpu.low → c.high ≡ cpu.high → is_allowed cpu level ≡ true
    → length (levels (entered level c)) ≡ length (levels cpu) + 1
level_added level cpu c low high h = grind (arith, low, high, h)

-- a vectoring
record IsVectored (cpu : Cpu) (s : Source) (e : Effect) : Type 0 where
  by : IsVectoring cpu s e
  len : length e.cpu.regs ≡ 128
  counted : length (levels e.cpu) ≡ length (levels cpu) + 1
  parity : HasParity e.cpu

vectored_is : (cpu : Cpu) (barred : Cell → Bool) (s : Source) (e : Effect) → length cpu.regs ≡ 128 → HasParity cpu
    → chosen cpu ≡ Some s → vectored cpu barred s ≡ outcome.Done e → IsVectored cpu s e
unfolding vectoring
vectored_is cpu barred s e len parity taken h =
    grind (
      arith,
      vectored_done (shut_of barred (vectoring cpu s).first) (shut_of barred (vectoring cpu s).second)
          (vectoring cpu s) e h,
      pc_is_stacked (interrupted cpu s) (acknowledged_kept s cpu len).len,
      level_added (level_of cpu s) cpu
          (with_flag (cleared s cpu) pcon idl false) (shape_before s cpu).low (shape_before s cpu).high
          (is_taken cpu s taken).ready.allowed,
      vector_control (vectored cpu barred s) cpu barred s refl len,
      vector_parity (vectored cpu barred s) cpu barred s refl len parity,
    )

module _ {l : LayoutParts} {image : List ℕ} {b : StackBound} (g : IsBounded l image b) where
  -- what holds between steps
  record InOrder (a : Records) (cpu : Cpu) : Type 0 where
    step : InStep g a cpu.pc (latch cpu sp)
    counted : interrupts a.returns ≡ length (levels cpu)
    len : length cpu.regs ≡ 128
    parity : HasParity cpu

  two_levels : (a : Records) (cpu : Cpu) → InOrder a cpu → interrupts a.returns ≤ 2
  two_levels a cpu h = omega (arith, few_levels cpu.low cpu.high, h.counted)

  -- after an idle cycle
  idle_in_order : (a : Records) (cpu : Cpu) → InOrder a cpu
      → InOrder (moved a (idle_effect cpu) Stay) (idle_effect cpu).cpu
  unfolding latch
  idle_in_order a cpu h = grind arith

  -- after each effect that is allowed
  module _ (m : Separate) (cpu : Cpu) (pins : Pins) (x : Held l m) (h : InOrder m.records cpu) where
    abbrev Then : Type 0
    Then = InOrder (moved m.records x.effect x.step) x.effect.cpu

    abbrev a : Records
    a = m.records

    abbrev count : interrupts a.returns ≤ 2
    count = two_levels a cpu h

    then_in_order : Runs g cpu h.step count x.effect x.effect.transfer
        → Ok x.step ≡ judged l a cpu x.effect (unit_found l x.effect.cpu.pc) (root_found l x.effect.transfer)
        → ((n : ℕ) → CountsInterrupts x.effect.transfer (length (levels cpu)) n → n ≡ length (levels x.effect.cpu))
        → length x.effect.cpu.regs ≡ 128 → HasParity x.effect.cpu → Then
    then_in_order f is counted len parity =
        let on = moved_on g cpu h.step count x.effect x.step f is in
        record { step = on.0; counted = counted _ (rw h.counted at on.1); len = len; parity = parity }

    runs : (instr : Instr) (at : instruction l image cpu.pc ≡ Some instr) (t : Transfer) → Does cpu instr x.effect t
        → Runs g cpu h.step count x.effect t
    runs instr at (Vector source) f = absurd f
    runs instr at t f = (instr, at, f)

    by_instr : (i : Option Instr) → instr_at image cpu.pc ≡ i → separate_effect l image cpu m pins (executing i) ≡ Ok x
        → Then
    unfolding separate_effect
    by_instr (Some instr) is done =
        let cells = cells_of l m in
        let o = instr_outcome l m cpu instr image pins in
        let inside = inside_ok (lie_inside l (current a) cpu.pc (length_of instr)) (concludes l m cpu o) _ x done in
        let j = judged_of l m cpu o x inside.1 in
        let at = instruction_is l g.sound image cpu.pc (current a) instr is h.step.covers inside.0 in
        let fact = λ (P : Effect → Type 0) (all : Always P (plan_of cpu instr image pins)).
        done_fact P cpu cells (outside_of cells) instr image pins x.effect all j.done in
        let spoiled = spoiled_none g cpu h.step count at in
        let r = right_of cpu h.len h.parity in
        let right = fact (λ e. IsRight e.cpu) (plan_right image pins (started cpu instr) (action_of instr)
        (record { len = r.len; parity = r.parity })) in
        then_in_order
        (runs instr at x.effect.transfer
        (fact (λ e. Does cpu instr e e.transfer) (instr_does cpu instr image pins h.len
        spoiled.0 spoiled.1)))
        j.judged_is
        (λ n. counted_by cpu x.effect (next_address cpu instr) (writes_ie_or_ip cpu instr) n (flow_of instr)
        (fact (λ e. Follows (flow_of instr) (next_address cpu instr) (latch cpu sp) e)
        (flow_is_kept cpu instr image pins h.len))
        (fact (λ e. LevelsFollow (flow_of instr) (writes_ie_or_ip cpu instr) cpu e)
        (levels_are_kept cpu instr image pins)))
        right.len (parity_of_right x.effect.cpu right)
    by_instr None is done = absurd (cc (inside_ok (lie_inside l (current a) cpu.pc 1) _ _ x done).1)

    by_idle : separate_effect l image cpu m pins (attempt_by image cpu None) ≡ Ok x → Then
    unfolding separate_effect
    by_idle = cond_both (flag cpu pcon idl) _ _ (λ t. separate_effect l image cpu m pins t ≡ Ok x → Then)
        (grind (arith, idle_in_order m.records cpu h))
        (λ no. by_instr (instr_at image cpu.pc) refl)

    by_chosen : (o : Option Source) → chosen cpu ≡ o → separate_effect l image cpu m pins (attempt_by image cpu o)
        ≡ Ok x → Then
    unfolding separate_effect
    by_chosen (Some source) is done =
        let j = judged_of l m cpu (vectored cpu (outside_of (cells_of l m)) source) x done in
        let k = vectored_is cpu (outside_of (cells_of l m)) source x.effect h.len h.parity is j.done in
        let one : interrupts a.returns ≤ 1 =
        omega (arith, h.counted, k.counted, few_levels x.effect.cpu.low x.effect.cpu.high) in
        then_in_order
        (subst (λ t. Runs g cpu h.step count x.effect t) (sym k.by.transfer) (k.by, one)) j.judged_is
        (λ n c. (rw k.by.transfer at c) ∙ sym k.counted) k.len k.parity
    by_chosen None is done = by_idle done

    effect_in_order : separate_effect l image cpu m pins (attempt_of image cpu) ≡ Ok x → Then
    unfolding attempt_of
    effect_in_order done = by_chosen (chosen cpu) refl done

  -- what passes in a cycle
  abbrev Passed : Inputs → Type 0
  Passed inputs = taken_by (cycle_passed inputs)

  kept_in_order : (a : Records) (old new : Cpu) → KeepsBut device_registers old new → InOrder a old → InOrder a new
  unfolding latch
  kept_in_order a old new k h =
      let latch_is = λ (r : ℕ). k.latches r in
      grind (arith, latch_is acc (lit≤ tt) refl, latch_is psw (lit≤ tt) refl, latch_is sp (lit≤ tt) refl)

  -- after the cycles of a step
  cycles_in_order : (a : Records) (inputs : Inputs) (n : ℕ) (p : Passed inputs) → InOrder a p.cpu
      → InOrder a (cycles_passed inputs n p).cpu
  unfolding cycles_passed cycle_passed
  cycles_in_order a inputs zero p h = h
  cycles_in_order a inputs (suc n) p h =
      let q = cycles_passed inputs n p in
      let cycle = next_cycle q.cycle in
      kept_in_order a q.cpu _ (the_rest_is_kept q.cpu (inputs.pins cycle) (inputs.frames cycle) q.periph)
      (cycles_in_order a inputs n p h)

  module _ (inputs : Inputs) where
    -- after a step that is performed
    abbrev IfDone : Result (Performed Separate) Event → Type 0
    IfDone (Ok done) = InOrder done.state.memory.records done.state.cpu
    IfDone (Err event) = Unit {0}

    step_in_order : (s : State Separate) (r : Result (Held l s.memory) Event)
        → separate_effect l image s.cpu s.memory (inputs.pins s.cycle) (attempt_of image s.cpu) ≡ r
        → InOrder s.memory.records s.cpu → IfDone (separate_performs l inputs s r)
    step_in_order s (Ok x) is h =
        cycles_in_order (moved s.memory.records x.effect x.step) inputs x.effect.cycles
        (changed_by s.cycle s.periph x.effect) (effect_in_order s.memory s.cpu (inputs.pins s.cycle) x h is)
    step_in_order s (Err event) is h = tt

    abbrev LastInOrder : ℕ → State Separate → Type 0
    LastInOrder n s = InOrder (record_of (separate_machine l image inputs) n s).last.memory.records
        (record_of (separate_machine l image inputs) n s).last.cpu

    run_by : (n : ℕ) (s : State Separate) (r : Result (Performed Separate) Event) → IfDone r
        → InOrder s.memory.records s.cpu
        → ((t : State Separate) → InOrder t.memory.records t.cpu → LastInOrder n t)
        → InOrder (record_from s (record_of (separate_machine l image inputs) n) r).last.memory.records
        (record_from s (record_of (separate_machine l image inputs) n) r).last.cpu
    run_by n s (Ok done) is h rest = rest done.state is
    run_by n s (Err event) is h rest = h

    run_in_order : (n : ℕ) (s : State Separate) → InOrder s.memory.records s.cpu → LastInOrder n s
    unfolding record_of
    run_in_order zero s h = h
    run_in_order (suc n) s h =
        run_by n s (separate_machine l image inputs s)
        (step_in_order s (separate_effect l image s.cpu s.memory (inputs.pins s.cycle) (attempt_of image s.cpu)) refl h)
        h (run_in_order n)

    start_in_order : (fill unit : ℕ) → IsRootAt l 0 unit → InOrder (separate_start l fill).records reset_cpu
    unfolding latch has_register lib.Count.ones
    start_in_order fill unit root = record {
      step = record {
        start = Reset;
        base = 0;
        height = 7;
        stands = AtReset;
        is_point = reset_first l image;
        stack = refl;
        covers = at_reset (unit_found l 0) (unit_found_is l 0);
      };
      counted = refl;
      len = refl;
      parity = refl;
    }
      where
        at_reset : (o : Option ℕ) → IsFoundAt l 0 o → IsUnitAt l 0 (or_zero o)
        at_reset (Some u) h = h
        at_reset None h = absurd (h unit (root_covers l 0 unit g.sound root))

pub sp_is_bounded : SpIsBounded
sp_is_bounded l image b inputs fill n sound unit root few bound =
    let g : IsBounded l image b = record { sound = sound; bound = bound; few = few } in
    let first = reset_with inputs (separate_start l fill) in
    let last = (record_of (separate_machine l image inputs) n first).last in
    let h = run_in_order g inputs n first (start_in_order g inputs fill unit root) in
    in_room g h.step (two_levels g last.memory.records last.cpu h)
