-- What each instruction does with SP and where it leads, whatever is read. Units, instructions and targets: the words
-- of the machine and of the bound are one.
use Rattle.m51_cells.proofs.ListsAndOptions.{filter_keeps}
use Rattle.m51_flat.proofs.EveryAction.{IsKept, MayGo, one_of, same_written, walk}
use Rattle.m51_flat.proofs.Flows.{called_calls, flow_is_kept, sp_written}
use Rattle.m51_flat.specs.Actions.{action_of}
use Rattle.m51_flat.specs.Arithmetic.{assigned}
use Rattle.m51_flat.specs.Laws.{Always, IsCall, next_address}
use Rattle.m51_flat.specs.LevelLaws.{is_written}
use Rattle.m51_flat.specs.Meaning.{plan_of, started}
use Rattle.m51_flat.specs.Moves.{popped, pushed}
use Rattle.m51_flat.specs.Operands.{location_of, operand_value, with_location}
use Rattle.m51_flat.specs.Parts.{branched, jumped}
use Rattle.m51_flat.specs.Reads.{Ends, Read, Reads, then_read}
use Rattle.m51_flat.specs.Sfr.{has_register, latch, sbuf, sp, with_parity, with_sfr}
use Rattle.m51_flat.specs.Transfers.{called, returned}
use Rattle.m51_flat.specs.Vectors.{vector_of}
use Rattle.m51_flat.specs.declared.state.Cpu.{Cpu}
use Rattle.m51_flat.specs.declared.state.Effect.{Effect}
use Rattle.m51_flat.specs.declared.state.Pins.{Pins}
use Rattle.m51_flat.specs.declared.state.Source.{Source}
use Rattle.m51_flat.specs.declared.state.Transfer.{Transfer}
use Rattle.m51_flat.specs.declared.state.Transfer.TheVariants.{Call, Jump, Next, Vector}
use Rattle.m51_isa.specs.Changes.{written_of}
use Rattle.m51_isa.specs.Table.{length_of}
use Rattle.m51_isa.specs.declared.instr.Instr.{Instr}
use Rattle.m51_isa.specs.declared.instr.Written.{Written}
use Rattle.m51_isa.specs.declared.instr.Written.TheVariants.{Direct}
use Rattle.m51_module.proofs.Units.{one_root, one_unit}
use Rattle.m51_module.specs.Plan.{IsRootAt, IsUnitAt}
use Rattle.m51_module.specs.Roots.{vectors}
use Rattle.m51_module.specs.Sound.{IsSound}
use Rattle.m51_module.specs.Walks.{HasEdge}
use Rattle.m51_module.specs.declared.parts.LayoutParts.{LayoutParts}
use Rattle.m51_monitor.proofs.Finding.{same_root_found, unit_found_is}
use Rattle.m51_monitor.specs.Found.{root_found, unit_found}
use Rattle.m51_monitor.specs.Transfers.{is_at}
use Rattle.m51_stackbound.proofs.Finding.{root_found as root_there, root_is, unit_is}
use Rattle.m51_stackbound.proofs.Inside.{interrupt_is_vector}
use Rattle.m51_stackbound.proofs.Raised.{call_goes}
use Rattle.m51_stackbound.specs.Instructions.{instr_at, is_call, is_computed, is_jump, is_pop, is_push, is_return}
use Rattle.m51_stackbound.specs.Instructions.{next_of, sets_sp, target_of, writes_sp}
use Rattle.m51_stackbound.specs.Points.{at_next, at_target, call_by, call_of, ends_at, follow_by, height_after}
use Rattle.m51_stackbound.specs.Points.{instruction, point_at, successors}
use Rattle.m51_stackbound.specs.Units.{counts, handlers, in_one_unit, interrupts, lie_inside, root_of, unit_of}
use Rattle.m51_stackbound.specs.declared.point.Point.{Point}
use Rattle.std.proofs.Common.{Bool, List, Option, Some, [], ap, arith, false, get_or, get_or-set_other, length}
use Rattle.std.proofs.Common.{lit<, not, refl, rules, subst, suc, sym, true, zero, ℕ, ◌%◌, ◌*◌, ◌+◌, ◌-◌, ◌/◌, ◌<◌, ◌∙◌}
use Rattle.std.proofs.Common.{◌∷◌, ◌≡◌, ◌≢◌, ◌≤◌, ◌⊎◌}
use Rattle.std.proofs.lemmas.Bool.{cond_both, eq-eqb, eqb-true, ne_eqb}
use Rattle.std.proofs.lemmas.Bool.Decides.{nat_tests}
use Rattle.std.proofs.lemmas.Grind.{common_steps}
use Rattle.std.proofs.lemmas.List.Elements.{Contains-append_right}
use Rattle.std.specs.List.{Contains}
use Rattle.std.specs.Option.{unwrap_or}
use Rattle.std.specs.Prelude.{IfSome, if◌then◌else◌, is_some, nat_lt, slice_set, ◌&&◌, ◌==◌}
use Rattle.m51_isa.specs.declared.instr.Instr.TheVariants as names
use Rattle.m51_sim.specs.Effects as machine
use Rattle.m51_sim.specs.SeparateMachine as separate

other_place : (a : ℕ) → (a == sp) ≡ false → 1 ≢ a - 128
other_place a h e = grind arith

far : (n : ℕ) → n < 80 → n ≢ 80
far n h e = omega (arith, h, e)

regs_kept : (regs : List ℕ) (a v : ℕ) → (a == sp) ≡ false → get_or (with_parity (slice_set regs (a - 128) v)) 1 0
    ≡ get_or regs 1 0
unfolding with_parity
regs_kept regs a v h = get_or-set_other (slice_set regs (a - 128) v) 80 1 _ 0 (far 1 (lit< tt))
    ∙ get_or-set_other regs (a - 128) 1 v 0 (other_place a h)

-- SP after an instruction that is no call or return, from SP before
abbrev pub instr_top : Instr → ℕ → ℕ
instr_top instr top = if is_push instr then (top + 1) % 256 else if is_pop instr then (top + 255) % 256 else unwrap_or
    (sets_sp instr) top

-- What an instruction does, by the transfer of its effect: control continues with the next one or with the target, or
-- is returned.
module _ (cpu : Cpu) (instr : Instr) (e : Effect) where
  abbrev pub Does : Transfer → Type 0
  Does Next = (is_return instr ≡ false) × (is_call instr ≡ false) × (is_jump instr ≡ false)
      × (e.cpu.pc ≡ next_address cpu instr) × (latch e.cpu sp ≡ instr_top instr (latch cpu sp))
  Does Jump = (is_return instr ≡ false) × (is_call instr ≡ false)
      × (target_of instr (next_address cpu instr) ≡ Some e.cpu.pc) × (latch e.cpu sp ≡ instr_top instr (latch cpu sp))
  Does Call = (is_call instr ≡ true) × IsCall (next_address cpu instr) (latch cpu sp) e
      × (target_of instr (next_address cpu instr) ≡ Some e.cpu.pc)
  Does (Vector source) = ⊥
  Does t = latch e.cpu sp ≡ (latch cpu sp + 254) % 256

-- the address is SP
abbrev is_sp : ℕ → Bool
is_sp a = a == sp

-- the target is this address
abbrev IsTarget : Option ℕ → ℕ → Type 0
IsTarget target to = target ≡ Some to

-- what is written at an address of an operand is SP
abbrev direct_sp : Written → Bool
direct_sp (Direct a) = a == sp
direct_sp _ = false

apart_from_sp : (cpu : Cpu) (w : Written) → (direct_sp w && true) ≡ false → is_written is_sp cpu w ≡ false
apart_from_sp cpu w h = grind arith

-- what follows of what holds of each effect
always_so : (P Q : Effect → Type 0) (p : Reads Effect) → ((e : Effect) → P e → Q e) → Always P p → Always Q p
always_so P Q (Ends e) so h = so e h
always_so P Q (Read x go) so h = λ v. always_so P Q (go v) so (h v)

-- an instruction that is no call, no return and no jump without a condition
module _ (cpu : Cpu) (instr : Instr)
    (plain : (is_return instr ≡ false) × (is_call instr ≡ false) × (is_jump instr ≡ false)) where
  abbrev following : ℕ
  following = next_address cpu instr

  abbrev Continues : Effect → Type 0
  Continues e = (latch e.cpu sp ≡ instr_top instr (latch cpu sp)) × (e.transfer ≡ Next) × (e.cpu.pc ≡ following)

  -- nothing is said where SP was written
  abbrev Before : Bool → Effect → Type 0
  Before true e = Unit {0}
  Before false e = Continues e

  abbrev After : Bool → Effect → Type 0
  After true e = Unit {0}
  After false e = Does cpu instr e e.transfer

  abbrev AlwaysContinues : Reads Effect → Type 0
  AlwaysContinues p = Always (λ e. Continues e) p

  follows_then : {A : Type 0} (p : Reads A) (go : A → Reads Effect) → ((a : A) → AlwaysContinues (go a))
      → AlwaysContinues (then_read p go)
  follows_then (Ends a) go h = h a
  follows_then (Read x more) go h = λ v. follows_then (more v) go h

  -- SP is written
  sp_follows : (v : ℕ) → length cpu.regs ≡ 128 → instr_top instr (latch cpu sp) ≡ v
      → Continues (with_sfr sp v (started cpu instr))
  unfolding with_sfr has_register
  sp_follows v len is = (sp_written v (started cpu instr) len ∙ sym is, refl, refl)

  plain_follows : (a v : ℕ) (e : Effect) → (a == sp) ≡ false → Continues e → Continues (with_sfr a v e)
  unfolding with_sfr latch has_register
  plain_follows a v e ne h =
      one_of Continues (a == sbuf) (has_register a) _ _ e h (regs_kept e.cpu.regs a v ne ∙ h.0, h.1, h.2) h

  ends_after : (b : Bool) (e : Effect) → Before b e → After b e
  ends_after b e h = grind arith

  jumps_after : (b : Bool) (to : ℕ) (e : Effect) → IsTarget (target_of instr following) to → Before b e
      → After b (jumped to Jump e)
  unfolding latch
  jumps_after b to e is h = grind arith

  leads_kept : IsKept is_sp Before After following (IsTarget (target_of instr following))
  leads_kept = grind (arith, ne_eqb, sp, plain_follows, ends_after, jumps_after)

  module _ (image : List ℕ) (ext : Pins) where
    continued : AlwaysContinues (plan_of cpu instr image ext)
        → Always (λ e. Does cpu instr e e.transfer) (plan_of cpu instr image ext)
    continued h = always_so (λ e. Continues e) (λ e. Does cpu instr e e.transfer) (plan_of cpu instr image ext)
        (ends_after false) h

    pushed_follows : (addressing : _) → length cpu.regs ≡ 128
        → instr_top instr (latch cpu sp) ≡ (latch cpu sp + 1) % 256
        → AlwaysContinues (pushed ext (started cpu instr) addressing)
    unfolding pushed with_location latch
    pushed_follows addressing len is =
        let k = sp_follows ((latch cpu sp + 1) % 256) len is in
        search (rules, follows_then)

    -- by the induction over the actions, where SP is not written
    walked : (direct_sp (written_of instr) && true) ≡ false → latch cpu sp ≡ instr_top instr (latch cpu sp)
        → MayGo is_sp following (IsTarget (target_of instr following)) (action_of instr)
        → Always (λ e. Does cpu instr e e.transfer) (plan_of cpu instr image ext)
    unfolding latch
    walked p same m =
        let begin : Effect = started cpu instr in
        let none = ap (is_written is_sp begin.cpu) (same_written instr)
        ∙ apart_from_sp begin.cpu (written_of instr) p in
        subst (λ b. Always (λ e. After b e) (plan_of cpu instr image ext)) none
        (walk is_sp Before After following (IsTarget (target_of instr following)) leads_kept image ext begin
        (action_of instr) refl m (same, refl, refl))

target_itself : (o : Option ℕ) → IfSome o (λ to. o ≡ Some to)
target_itself o = grind arith

-- an immediate value is assigned to a direct address
value_does : (cpu : Cpu) (a v : ℕ) (image : List ℕ) (ext : Pins) → length cpu.regs ≡ 128 → (b : Bool) → (a == sp) ≡ b
    → Always (λ e. Does cpu (names.MovDirectData a v) e e.transfer) (plan_of cpu (names.MovDirectData a v) image ext)
unfolding location_of operand_value with_location assigned with_sfr has_register
value_does cpu a v image ext len true is =
    rw (eqb-true a sp is) (refl, refl, refl, refl, sp_written v (started cpu (names.MovDirectData sp v)) len)
value_does cpu a v image ext len false ne =
    walked cpu (names.MovDirectData a v) (refl, refl, refl) image ext (ap (λ b. b && true) ne) (rw ne refl) tt

other_than : (b : Bool) → (b && true) ≡ false → b ≡ false
other_than b h = grind arith

popped_follows : (cpu : Cpu) (direct : ℕ) (image : List ℕ) (ext : Pins) → length cpu.regs ≡ 128
    → (direct == sp) ≡ false
    → AlwaysContinues cpu (names.PopDirect direct) (refl, refl, refl) (plan_of cpu (names.PopDirect direct) image ext)
unfolding latch location_of with_location popped
popped_follows cpu direct image ext len ne =
    let pop = names.PopDirect direct in
    let e : Effect = with_sfr sp ((latch cpu sp + 255) % 256) (started cpu pop) in
    let k = sp_follows cpu pop (refl, refl, refl) ((latch cpu sp + 255) % 256) len refl in
    λ v. cond_both (nat_lt direct 128) _ _ (λ at. Continues cpu pop (refl, refl, refl) (with_location at v e))
    (λ low. k)
    (λ high. plain_follows cpu pop (refl, refl, refl) direct v e ne k)

-- An instruction that is no computed jump, and does not write SP by an operand but for an immediate value.
pub instr_does : (cpu : Cpu) (instr : Instr) (image : List ℕ) (ext : Pins) → length cpu.regs ≡ 128
    → (writes_sp instr && not (is_some (sets_sp instr))) ≡ false → is_computed instr ≡ false
    → Always (λ e. Does cpu instr e e.transfer) (plan_of cpu instr image ext)
unfolding latch called returned branched
instr_does cpu (names.PushDirect direct) image ext len p q =
    continued cpu (names.PushDirect direct) (refl, refl, refl) image ext
    (pushed_follows cpu (names.PushDirect direct) (refl, refl, refl) image ext _ len refl)
instr_does cpu (names.PopDirect direct) image ext len p q =
    continued cpu (names.PopDirect direct) (refl, refl, refl) image ext
    (popped_follows cpu direct image ext len (other_than (direct == sp) p))
instr_does cpu (names.MovDirectData a v) image ext len p q = value_does cpu a v image ext len (a == sp) refl
instr_does cpu (names.AcallAddr11 a) image ext len p q =
    let begin : Effect = started cpu (names.AcallAddr11 a) in
    (refl, called_calls begin (begin.cpu.pc / 2048 * 2048 + a) len, refl)
instr_does cpu (names.LcallAddr16 a) image ext len p q =
    (refl, called_calls (started cpu (names.LcallAddr16 a)) a len, refl)
instr_does cpu names.Ret image ext len p q = λ high low. (flow_is_kept cpu names.Ret image ext len high low).stack
instr_does cpu names.Reti image ext len p q = λ high low. (flow_is_kept cpu names.Reti image ext len high low).stack
instr_does cpu names.JmpAtADptr image ext len p q = absurd (cc q)
instr_does cpu (names.AjmpAddr11 a) image ext len p q = (refl, refl, refl, refl)
instr_does cpu (names.LjmpAddr16 a) image ext len p q = (refl, refl, refl, refl)
instr_does cpu (names.SjmpRel rel) image ext len p q = (refl, refl, refl, refl)
instr_does cpu instr image ext len p q =
    walked cpu instr (refl, refl, refl) image ext p refl (target_itself (target_of instr (next_address cpu instr)))

-- ---- units at addresses, instructions and targets, in the words of the machine and of the bound

module _ (l : LayoutParts) (sound : IsSound l) where
  unit_at : (address u : ℕ) → IsUnitAt l address u → unit_of l address ≡ Some u
  unit_at address u h = sym (unit_is l sound address (Some u) h (λ v k. ap Some (one_unit l sound address u v h k)))

  pub in_one : (from to u : ℕ) → IsUnitAt l from u → IsUnitAt l to u → in_one_unit l from to ≡ true
  unfolding in_one_unit
  in_one from to u h k = cc (unit_at from u h, unit_at to u k, eq-eqb u u refl)

  pub target_counts : (from to u v : ℕ) → IsUnitAt l from u → IsUnitAt l to v → (u ≡ v) ⊎ HasEdge l.edges u v
      → counts l from to ≡ true
  unfolding counts
  target_counts from to u v h k way = grind (arith, common_steps, unit_at from u h, unit_at to v k)

  found_unit : (address unit : ℕ) → is_at (unit_found l address) unit ≡ true → IsUnitAt l address unit
  found_unit address unit h = grind (arith, nat_tests, unit_found_is l address)

  bytes_inside : (unit pc count : ℕ) → IsUnitAt l pc unit → separate.lie_inside l unit pc count ≡ true
      → lie_inside l pc count ≡ true
  bytes_inside unit pc zero at h = refl
  bytes_inside unit pc (suc count) at h =
      let to = (pc + count) % 65536 in
      grind (arith, bytes_inside unit pc count at, in_one pc to unit at, found_unit to unit)

  same_instr : (image : List ℕ) (at : ℕ) → machine.instr_at image at ≡ instr_at image at
  unfolding machine.instr_at instr_at
  same_instr image at = refl

  -- the instruction that the machine performs is one of the bound
  pub instruction_is : (image : List ℕ) (pc unit : ℕ) (instr : Instr) → machine.instr_at image pc ≡ Some instr
      → IsUnitAt l pc unit → separate.lie_inside l unit pc (length_of instr) ≡ true
      → instruction l image pc ≡ Some instr
  unfolding instruction
  instruction_is image pc unit instr e at h =
      cc (same_instr image pc, bytes_inside unit pc (length_of instr) at h)

  is_interrupt : (source : Source) → Contains interrupts (vector_of source)
  unfolding vector_of
  is_interrupt source = (vector_of source / 8, grind arith, grind arith)

  -- the root of an interrupt is a handler
  pub handler_is : (source : Source) (unit : ℕ) → IsRootAt l (vector_of source) unit
      → Contains (handlers l) (vector_of source)
  handler_is source unit h =
      let v = vector_of source in
      let is : Some unit ≡ root_of l v =
      root_is l sound v (Some unit) h.vector_is h (λ w k. ap Some (one_root l sound v unit w h k)) in
      filter_keeps (λ vector. is_some (root_of l vector)) interrupts v (is_interrupt source) (ap is_some (sym is))

  -- the root that the machine finds
  pub root_at : (source : Source) (u : ℕ) → root_found l (Vector source) ≡ Some u → IsRootAt l (vector_of source) u
  root_at source u e =
      let v = vector_of source in
      let k = is_interrupt source in
      let is : Contains vectors v = rw k.2 at (interrupt_is_vector k.0 v k.1) in
      let some : IfSome (root_of l v) (λ u. IsRootAt l v u) = grind (arith, common_steps, root_there l sound v) in
      grind (
        arith,
        same_root_found l source (root_of l v) some
            (λ w h. sym (root_is l sound v (Some w) is h (λ x n. ap Some (one_root l sound v w x h n)))),
        root_there l sound v u is,
      )

-- where control continues
module _ (l : LayoutParts) (image : List ℕ) (p : Point) (instr : Instr)
    (at : instruction l image p.address ≡ Some instr) (goes : ends_at p instr ≡ false) (call : is_call instr ≡ false)
  where
    abbrev next : ℕ
    next = next_of instr p.address

    abbrev height : ℕ
    height = height_after p.height instr

    pub next_there : is_jump instr ≡ false → in_one_unit l p.address next ≡ true
        → Contains (successors l image p) (point_at p.start next height)
    unfolding follow_by at_next
    next_there jump one = rw (at, goes, call, jump, one) (0, omega arith, refl)

    pub target_there : (to : ℕ) → target_of instr next ≡ Some to → counts l p.address to ≡ true → height ≡ p.height
        → Contains (successors l image p) (point_at p.start to p.height)
    unfolding follow_by at_target
    target_there to is count same =
        let there = point_at p.start to p.height in
        grind (arith, Contains-append_right (at_next l p next p.height) (there ∷ []) there (0, omega arith, refl))

-- a branch keeps SP
pub branch_keeps : (instr : Instr) (n to h : ℕ) → target_of instr n ≡ Some to
    → (height_after h instr ≡ h) × (instr_top instr h ≡ h)
unfolding height_after
branch_keeps instr n to h e = grind arith

-- an immediate value for SP is a write of SP
pub sets_writes : (instr : Instr) → is_some (sets_sp instr) ≡ true → writes_sp instr ≡ true
sets_writes instr h = grind arith

-- SP and the height go together
pub tops : (push pop : Bool) (o : Option ℕ) (base h : ℕ)
    → base + (if push then h + 1 else if pop then h - 1 else unwrap_or o h) ≤ 255 → (pop ≡ true → 1 ≤ h)
    → base + h ≤ 255 → (is_some o ≡ true → base ≡ 0)
    → (if push then (base + h + 1) % 256 else if pop then (base + h + 255) % 256 else unwrap_or o (base + h))
    ≡ base + (if push then h + 1 else if pop then h - 1 else unwrap_or o h)
tops push pop o base h up down few low = grind arith

-- after a call whose target counts, control comes back to the next address
pub call_returns : (l : LayoutParts) (image : List ℕ) (p : Point) (instr : Instr) (to : ℕ)
    → instruction l image p.address ≡ Some instr → call_of l image p ≡ Some to
    → in_one_unit l p.address (next_of instr p.address) ≡ true
    → Contains (successors l image p) (point_at p.start (next_of instr p.address) p.height)
unfolding follow_by call_by at_next
call_returns l image p instr to at calls one =
    let next = next_of instr p.address in
    grind (arith, call_goes p instr)
