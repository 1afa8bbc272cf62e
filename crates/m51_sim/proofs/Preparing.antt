-- What is known of an effect before it is performed: what holds of each effect of an attempt holds of the one that is
-- allowed, and the outcome of a step is prepared.
use Rattle.m51_sim.proofs.Common.{ℕ, List, Option, Some, None, Result, Ok, Err, Cell, Event, Instr, LayoutParts, Cpu}
use Rattle.m51_sim.proofs.Common.{Effect, Pins, plan_of, vectored, current, Vectoring, Idling, Allowed, idle_effect}
use Rattle.m51_sim.proofs.Common.{Separate, lie_inside, ◌≡◌, ◌≤◌, Bool, true, false, ◌&&◌, length, ◌∷◌, refl, sym, ap}
use Rattle.m51_sim.proofs.Common.{subst, ◌∙◌, arith, ⊎_elim, Source, pcon, sp, Monitored, if◌then◌else◌, flag}
use Rattle.m51_sim.proofs.Common.{IsInOrder}
use Rattle.std.proofs.lemmas.Bool.{cond_both}
use Rattle.m51_cells.specs.declared.event.Event.TheVariants.{PowerDown, Reserved}
use Rattle.m51_cells.specs.declared.event.Why.{Why}
use Rattle.m51_isa.specs.Table.{length_of, flow_of}
use Rattle.m51_flat.specs.declared.state.Outcome.{Outcome}
use Rattle.m51_flat.specs.Laws.{Always, IfDone, Follows, next_address}
use Rattle.m51_flat.specs.Meaning.{instruction_outcome, unless_shut}
use Rattle.m51_flat.specs.States.{shut_of, States}
use Rattle.m51_flat.proofs.Outcomes.{always_done}
use Rattle.m51_irq.specs.Vectoring.{vectoring, IsVectoring, acknowledged, cleared, entered}
use Rattle.m51_monitor.specs.declared.step.Move.{Move}
use Rattle.m51_monitor.specs.Resolved.{outside_of}
use Rattle.m51_monitor.specs.Transfers.{as_event}
use Rattle.m51_sim.specs.declared.attempt.Attempt.{Attempt}
use Rattle.m51_sim.specs.declared.attempt.Attempt.TheVariants.{Executing, Refusing}
use Rattle.m51_sim.specs.Laws.{IsSharedEvent}
use Rattle.m51_sim.specs.SeparateMachine.{cells_of, concludes, instr_outcome, separate_effect, unless_past_end}
use Rattle.m51_sim.specs.SeparateMachine.{unwritten_in, with_move}
use Rattle.std.proofs.Common.{drop, inl, inr}
use Rattle.m51_isa.specs.declared.instr.Flow.{Flow}
use Rattle.m51_isa.specs.declared.instr.Flow.TheVariants.{Next as FlowNext, Branch, Call as FlowCall, Ret as FlowRet}
use Rattle.m51_isa.specs.declared.instr.Flow.TheVariants.{Reti as FlowReti}
use Rattle.m51_flat.specs.Causes.{IsBarred, IsCause, IsCell}
use Rattle.m51_flat.specs.declared.state.Level.{Level}
use Rattle.m51_flat.specs.declared.state.Level.TheVariants.{Low, High}
use Rattle.m51_flat.specs.declared.state.Transfer.{Transfer}
use Rattle.m51_flat.specs.declared.state.Transfer.TheVariants.{Next, Jump, Call, Ret, Reti, Vector}
use Rattle.m51_flat.specs.Flags.{idl}
use Rattle.m51_flat.specs.LevelLaws.{EndsLevel, KeepsLevels, LevelsFollow, writes_ie_or_ip}
use Rattle.m51_flat.proofs.Done.{effects_are_done}
use Rattle.m51_flat.specs.Sfr.{latch, with_flag, with_sfr, has_register}
use Rattle.m51_flat.specs.Transfers.{stacked}
use Rattle.m51_irq.specs.Choice.{chosen}
use Rattle.m51_irq.specs.Sources.{level_of}
use Rattle.m51_irq.proofs.ChoiceLaws.{is_taken}
use Rattle.m51_irq.proofs.Kept.{shape_before}
use Rattle.m51_irq.proofs.Levels.{allowed_over, same_allowed}
use Rattle.m51_monitor.specs.Laws.{FollowsLevels, GoesToVector, Pops}
use Rattle.m51_monitor.specs.Rising.{in_progress, levels}
use Rattle.m51_monitor.specs.Shared.{shared_barred}
use Rattle.m51_sim.specs.Effects.{attempt_by, attempt_of, executing, instr_at}
use Rattle.m51_sim.specs.Ready.{HasRoom, IsOutcomePrepared, IsRegular, NamesData, StoresAddress}
use Rattle.m51_flat.specs.declared.state.Outcome.TheVariants as outcome

-- P holds of the effect that is allowed, or Q of an event at which the flat machine stops too
abbrev pub Holds : (Effect → Type 0) → (Event → Type 0) → Result Allowed Event → Type 0
Holds P Q (Ok a) = P a.effect
Holds P Q (Err event) = IsSharedEvent event → Q event

-- the same of an outcome
abbrev pub HoldsOf : (Effect → Type 0) → (Event → Type 0) → Cpu → Outcome → Type 0
HoldsOf P Q cpu (outcome.Done e) = P e
HoldsOf P Q cpu outcome.PowerDown = Q (PowerDown cpu.pc)
HoldsOf P Q cpu _ = Unit {0}

module _ (P : Effect → Type 0) (Q : Event → Type 0) (l : LayoutParts) (cpu : Cpu) (m : Separate) where
  moves : (e : Effect) (r : Result Move Why) → P e → Holds P Q (with_move e (as_event cpu.pc e.cpu.pc r))
  moves e (Ok step) h = h
  moves e (Err why) h = λ shared. absurd shared

  unwritten : (c : Cell) (o : Option ℕ) → Holds P Q (Err (unwritten_in c cpu.pc o))
  unwritten c (Some t) = λ shared. absurd shared
  unwritten c None = λ shared. absurd shared

  concluded : (o : Outcome) → HoldsOf P Q cpu o → Holds P Q (concludes l m cpu o)
  concluded (outcome.Done e) h = moves e _ h
  concluded (outcome.Outside c) h = λ shared. absurd shared
  concluded (outcome.Unset c) h = unwritten c _
  concluded outcome.PowerDown h = λ shared. h

  inside : (count : ℕ) (r : Result Allowed Event) → Holds P Q r → Holds P Q (unless_past_end l m cpu.pc count r)
  inside count r h =
      cond_both (lie_inside l (current m.records) cpu.pc count) r _ (Holds P Q) (λ _. h) (λ _ shared. absurd shared)

  opened : (one two : Option Cell) (e : Effect) → P e
      → HoldsOf P Q cpu (unless_shut one (unless_shut two (outcome.Done e)))
  opened None None e h = h
  opened None (Some c) e h = tt
  opened (Some c) two e h = tt

  module _ (image : List ℕ) (pins : Pins) where
    abbrev pub HoldsIn : Attempt → Type 0
    HoldsIn (Vectoring source) = P (vectoring cpu source)
    HoldsIn Idling = P (idle_effect cpu)
    HoldsIn (Executing instr) = HoldsOf P Q cpu (instr_outcome l m cpu instr image pins)
    HoldsIn Refusing = Q (Reserved cpu.pc)

    pub attempted : (t : Attempt) → HoldsIn t → Holds P Q (separate_effect l image cpu m pins t)
    unfolding separate_effect
    attempted (Vectoring source) h =
        let e = vectoring cpu source in
        let barred = outside_of (cells_of l m) in
        concluded (vectored cpu barred source) (opened (shut_of barred e.first) (shut_of barred e.second) e h)
    attempted Idling h = h
    attempted (Executing instr) h =
        let o = instr_outcome l m cpu instr image pins in inside (length_of instr) (concludes l m cpu o) (concluded o h)
    attempted Refusing h = inside 1 (Err (Reserved cpu.pc)) (λ shared. h)

-- nothing is said of events
abbrev pub Any : Event → Type 0
Any event = Unit {0}

of_done : (P : Effect → Type 0) (cpu : Cpu) (o : Outcome) → IfDone o P → HoldsOf P Any cpu o
of_done P cpu (outcome.Done e) h = h
of_done P cpu _ h = tt

-- what holds whatever an instruction reads holds of its outcome
pub always_holds : (P : Effect → Type 0) (l : LayoutParts) (cpu : Cpu) (m : Separate) (image : List ℕ) (pins : Pins)
    (instr : Instr)
    → Always P (plan_of cpu instr image pins) → HoldsOf P Any cpu (instr_outcome l m cpu instr image pins)
unfolding instruction_outcome
always_holds P l cpu m image pins instr h =
    let cells = cells_of l m in
    of_done P cpu _ (always_done P (outside_of cells) cells (plan_of cpu instr image pins) h)

-- what holds of each effect of a plan holds of the one that is done
pub done_fact : (P : Effect → Type 0) (cpu : Cpu) (cells : States) (barred : Cell → Bool) (instr : Instr)
    (image : List ℕ) (ext : Pins) (e : Effect) → Always P (plan_of cpu instr image ext)
    → instruction_outcome cpu cells barred instr image ext ≡ outcome.Done e → P e
unfolding instruction_outcome
done_fact P cpu cells barred instr image ext e h is =
    subst (λ o. IfDone o P) is (always_done P barred cells (plan_of cpu instr image ext) h)

-- an effect of this transfer
ready_by : (m : Monitored) (cpu : Cpu) (e : Effect) (t : Transfer) → e.transfer ≡ t → GoesToVector t e.cpu.pc
    → Pops t (latch cpu sp) (latch e.cpu sp) → FollowsLevels t (levels cpu) (levels e.cpu) → StoresAddress t e
    → HasRoom m t → IsRegular cpu e × HasRoom m e.transfer
ready_by m cpu e t is goes pops follows stores room =
    let stored = subst (λ t. StoresAddress t e) (sym is) stores in
    (record { goes = rw is goes; pops = rw is pops; follows = rw is follows; stores = stored }, rw is room)

pub same_levels : (w : Bool) (cpu : Cpu) (e : Effect) → KeepsLevels w cpu e → levels e.cpu ≡ levels cpu
same_levels w cpu e h = rw (h.low, h.high) refl

ends : (low high : Bool) → in_progress (high && low) false ≡ drop 1 (in_progress low high)
ends low high = grind arith

pub ended_levels : (cpu : Cpu) (e : Effect) → EndsLevel cpu e → levels e.cpu ≡ drop 1 (levels cpu)
ended_levels cpu e h = rw (h.low, h.high) (ends cpu.low cpu.high)

-- an instruction of each flow, which is no vectoring
ready : (m : Monitored) (f : Flow) (w : Bool) (next : ℕ) (cpu : Cpu) (e : Effect) → Follows f next (latch cpu sp) e
    → LevelsFollow f w cpu e → IsRegular cpu e × HasRoom m e.transfer
ready m FlowNext w next cpu e h k = ready_by m cpu e Next h.0 tt tt (same_levels w cpu e k) tt tt
ready m Branch w next cpu e h k = elim h [
  | inl g ↦ ready_by m cpu e Next g.0 tt tt (same_levels w cpu e k) tt tt
  | inr j ↦ ready_by m cpu e Jump j tt tt (same_levels w cpu e k) tt tt
]
ready m FlowCall w next cpu e h k =
    ready_by m cpu e Call h.transfer tt tt (same_levels w cpu e k) (rw h.low tt, rw h.high tt) tt
ready m FlowRet w next cpu e h k = ready_by m cpu e Ret h.transfer tt h.stack (same_levels w cpu e k) tt tt
ready m FlowReti w next cpu e h k = ready_by m cpu e Reti h.transfer tt h.stack (ended_levels cpu e k) tt tt

-- a level that is entered comes on top of at most one
on_top : (l : Level) (low high : Bool) (cpu : Cpu) → cpu.low ≡ low → cpu.high ≡ high → allowed_over low high l ≡ true
    → (levels (entered l cpu) ≡ l ∷ in_progress low high) × (length (in_progress low high) ≤ 1)
on_top Low false false cpu p q h = (ap (in_progress true) q, omega arith)
on_top High false false cpu p q h = (ap (λ l. in_progress l true) p, omega arith)
on_top High true false cpu p q h = (ap (λ l. in_progress l true) p, omega arith)
on_top _ _ _ cpu p q h = absurd (cc)

-- a vectoring stores PC and keeps the levels that its acknowledgement leaves
vectored_levels : (cpu : Cpu) (s : Source) → levels (vectoring cpu s).cpu ≡ levels (acknowledged s cpu)
unfolding vectoring stacked with_sfr has_register
vectored_levels cpu s = refl

ready_vector : (m : Monitored) (cpu : Cpu) (s : Source) → IsInOrder m cpu → chosen cpu ≡ Some s
    → IsVectoring cpu s (vectoring cpu s)
    → IsRegular cpu (vectoring cpu s) × HasRoom m (vectoring cpu s).transfer
ready_vector m cpu s order h k =
    let before = shape_before s cpu in
    let allowed : allowed_over cpu.low cpu.high (level_of cpu s) ≡ true =
    sym (same_allowed cpu (level_of cpu s)) ∙ (is_taken cpu s h).ready.allowed in
    let top = on_top (level_of cpu s) cpu.low cpu.high (with_flag (cleared s cpu) pcon idl false) before.low before.high
    allowed in
    ready_by m cpu (vectoring cpu s) (Vector s) k.transfer k.at tt (level_of cpu s, vectored_levels cpu s ∙ top.0)
    (rw k.low tt, rw k.high tt) (omega (arith, top.1, order.have.each, ap length order.have.same))

-- the puts of a vectoring that is done may be written
open_done : (one two : Option Cell) (e f : Effect) → unless_shut one (unless_shut two (outcome.Done e)) ≡ outcome.Done f
    → (one ≡ None) × (two ≡ None) × (e ≡ f)
open_done None None e f h = (refl, refl, cc h)
open_done _ _ e f h = cc h

-- what a store says of a cell that it names
pub names_data : (s : States) (barred : Cell → Bool) (o : Outcome) → IsCause s barred o → NamesData o
names_data s barred (outcome.Outside c) h = ⊎_elim (λ (k : IsCell s c _). k.0) (λ (k : IsBarred barred c). k.0) h
names_data s barred (outcome.Unset c) h = h.0
names_data s barred _ h = tt

pub vector_ready : (m : Monitored) (cpu : Cpu) (s : Source) (cells : States) (o : Outcome) → IsInOrder m cpu
    → chosen cpu ≡ Some s → o ≡ vectored cpu (shared_barred m.store) s
    → IsCause cells (shared_barred m.store) o → IfDone o (IsVectoring cpu s) → IsOutcomePrepared m cpu o
vector_ready m cpu s cells (outcome.Done f) order h is cause k =
    let e = vectoring cpu s in
    let barred = shared_barred m.store in
    let o = open_done (shut_of barred e.first) (shut_of barred e.second) e f (sym is) in
    let r = ready_vector m cpu s order h (rw (← o.2) at k) in
    rw (← o.2)
    (record {
      named = tt;
      prepared = record { opened = record { first = o.0; second = o.1 }; regular = r.0; room = r.1 };
    })
vector_ready m cpu s cells o order h is cause k =
    record { named = names_data cells (shared_barred m.store) o cause; prepared = tt }

-- the puts of an instruction that is done may be written
pub instr_ready : (m : Monitored) (cpu : Cpu) (cells : States) (instr : Instr) (image : List ℕ) (ext : Pins)
    (o : Outcome) → o ≡ instruction_outcome cpu cells (shared_barred m.store) instr image ext
    → IsCause cells (shared_barred m.store) o
    → IfDone o (λ e. Follows (flow_of instr) (next_address cpu instr) (latch cpu sp) e)
    → IfDone o (λ e. LevelsFollow (flow_of instr) (writes_ie_or_ip cpu instr) cpu e) → IsOutcomePrepared m cpu o
instr_ready m cpu cells instr image ext (outcome.Done e) is cause control levels =
    let d = effects_are_done cpu cells (shared_barred m.store) instr image ext e (sym is) in
    let r = ready m (flow_of instr) (writes_ie_or_ip cpu instr) (next_address cpu instr) cpu e control levels in
    record {
      named = tt;
      prepared = record { opened = record { first = d.first; second = d.second }; regular = r.0; room = r.1 };
    }
instr_ready m cpu cells instr image ext o is cause control levels =
    record { named = names_data cells (shared_barred m.store) o cause; prepared = tt }

-- what an attempt says: of the interrupt that is to be taken, or of the instruction at PC
abbrev pub Tells : Option Source → Option Instr → Attempt → Type 0
Tells taken found (Vectoring s) = taken ≡ Some s
Tells taken found (Executing instr) = found ≡ Some instr
Tells taken found _ = Unit {0}

tells_by : (image : List ℕ) (cpu : Cpu) (taken : Option Source)
    → Tells taken (instr_at image cpu.pc) (attempt_by image cpu taken)
tells_by image cpu (Some s) = refl
tells_by image cpu None = unless_idle (flag cpu pcon idl) (instr_at image cpu.pc)
  where
    unless_idle : (idle : Bool) (found : Option Instr) → Tells None found (if idle then Idling else executing found)
    unless_idle true found = tt
    unless_idle false None = tt
    unless_idle false (Some instr) = refl

pub attempt_tells : (image : List ℕ) (cpu : Cpu)
    → Tells (chosen cpu) (instr_at image cpu.pc) (attempt_of image cpu)
unfolding attempt_of
attempt_tells image cpu = tells_by image cpu (chosen cpu)
