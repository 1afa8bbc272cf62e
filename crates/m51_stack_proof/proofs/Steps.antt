-- The points that records and processor represent, and how high SP is over them, before and after a step.
use Rattle.m51_cells.proofs.Small.{first_or_after, none_in_empty}
use Rattle.m51_flat.specs.Sfr.{latch, sp}
use Rattle.m51_flat.specs.Vectors.{vector_of}
use Rattle.m51_flat.specs.declared.state.Cpu.{Cpu}
use Rattle.m51_flat.specs.declared.state.Effect.{Effect}
use Rattle.m51_flat.specs.declared.state.Put.TheVariants.{Byte}
use Rattle.m51_flat.specs.declared.state.Source.{Source}
use Rattle.m51_flat.specs.declared.state.Transfer.TheVariants.{Call as Calls, Jump, Next}
use Rattle.m51_irq.specs.Vectoring.{IsVectoring}
use Rattle.m51_isa.specs.declared.instr.Instr.{Instr}
use Rattle.m51_module.specs.Plan.{IsUnitAt}
use Rattle.m51_module.specs.Sound.{IsSound}
use Rattle.m51_module.specs.Walks.{HasEdge}
use Rattle.m51_module.specs.declared.parts.LayoutParts.{LayoutParts}
use Rattle.m51_module.specs.declared.stack_bound.StackBound.{StackBound}
use Rattle.m51_module.specs.declared.start.Start.{Start}
use Rattle.m51_module.specs.declared.start.Start.TheVariants.{At, Reset}
use Rattle.m51_monitor.specs.Records.{Records, ReturnRecord, current, first_or, named_over}
use Rattle.m51_monitor.specs.Rising.{interrupts}
use Rattle.m51_monitor.specs.Transfers.{byte_put, is_busy, jumped, return_address_of, return_pushed}
use Rattle.m51_monitor.specs.declared.cause.Cause.{Cause}
use Rattle.m51_monitor.specs.declared.cause.Cause.TheVariants.{Call as ByCall, Interrupt as ByInterrupt}
use Rattle.m51_stack_proof.proofs.Meeting.{Does, branch_keeps, call_returns, in_one, instr_top, next_there, sets_writes}
use Rattle.m51_stack_proof.proofs.Meeting.{target_counts, target_there, tops}
use Rattle.m51_stackbound.proofs.Keeping.{computed_kept, pops_kept, pushes_kept, stack_kept}
use Rattle.m51_stackbound.proofs.Raised.{call_enters, entered}
use Rattle.m51_stackbound.proofs.Rooted.{handler_first}
use Rattle.m51_stackbound.specs.Bounds.{Adds, ComesTo, IsBound, Nothing, One, Two}
use Rattle.m51_stackbound.specs.Depths.{Call, CallsAt, Own, Takes}
use Rattle.m51_stackbound.specs.Instructions.{is_computed, is_pop, is_push, is_return, next_of, sets_sp, writes_sp}
use Rattle.m51_stackbound.specs.Points.{After, IsPoint, call_by, call_of, called, ends_at, entry_at, height_after}
use Rattle.m51_stackbound.specs.Points.{instruction, is_reset, point_at, pops_below, pushes_above, sets_stack}
use Rattle.m51_stackbound.specs.Points.{successors}
use Rattle.m51_stackbound.specs.Units.{handlers}
use Rattle.m51_stackbound.specs.declared.point.Point.{Point}
use Rattle.std.proofs.Common.{List, Some, [], ap, arith, false, length, not, refl, sym, true, ℕ, ◌%◌, ◌+◌, ◌/◌, ◌∙◌}
use Rattle.std.proofs.Common.{◌∷◌, ◌≡◌, ◌≤◌, ◌⊎◌}
use Rattle.std.proofs.Math.Nat.{mod-add-div}
use Rattle.std.proofs.lemmas.Bool.{eq-eqb}
use Rattle.std.proofs.lemmas.Bool.Decides.{nat_tests}
use Rattle.std.proofs.lemmas.Grind.{common_steps}
use Rattle.std.specs.List.{Contains}
use Rattle.std.specs.Prelude.{is_some, nat_eq, ◌&&◌, ◌||◌}

-- the record of a call or an interrupt, with SP after it
abbrev pub frame : Cause → ℕ → ℕ → List ℕ → ReturnRecord
frame cause back top units = record { cause = cause; return_address = back; sp = top; units = units }

-- the other handlers that run are other ones
fresh_below : (v w : ℕ) (vs : List ℕ) (rs : List ReturnRecord) → is_busy rs v ≡ false
    → ((w : ℕ) → Contains vs w → (nat_eq v w || is_busy rs w) ≡ false) → Contains (v ∷ vs) w → is_busy rs w ≡ false
fresh_below v w vs rs free fresh k = grind (arith, first_or_after v vs w k, fresh w)

module _ (l : LayoutParts) (image : List ℕ) where
  -- a point that is below a record
  pub record IsBelow (reset : List ℕ) (rs : List ReturnRecord) (p : Point) : Type 0 where
    pub is_point : IsPoint l image p
    pub covered : IsUnitAt l p.address (first_or (named_over reset rs) 0)

  -- the record of a call represents the point that calls, and that of an interrupt the point after which it came
  pub data Stands (reset : List ℕ) : List ReturnRecord → Start → ℕ → Type 0 where
    AtReset : Stands reset [] Reset 0
    AfterCall : (back top : ℕ) (units : List ℕ) (rs : List ReturnRecord) (p : Point) (base to : ℕ) (instr : Instr)
        → Stands reset rs p.start base → IsBelow reset rs p
        → call_of l image p ≡ Some to → instruction l image p.address ≡ Some instr → back ≡ next_of instr p.address
        → top ≡ base + p.height + 2 → Stands reset (frame ByCall back top units ∷ rs) (At to) top
    AfterInterrupt : (back top : ℕ) (units : List ℕ) (rs : List ReturnRecord) (p : Point) (base : ℕ) (source : Source)
        → Stands reset rs p.start base → IsBelow reset rs p → back ≡ p.address
        → top ≡ base + p.height + 2 → Contains (handlers l) (vector_of source) → is_busy rs (vector_of source) ≡ false
        → Stands reset (frame (ByInterrupt source) back top units ∷ rs) (At (vector_of source)) top

  -- handlers that run above, and what they add
  pub data Above : List ℕ → ℕ → Type 0 where
    NoneAbove : Above [] 0
    OneAbove : (v d more : ℕ) (vs : List ℕ) (path : List Start) → Contains (handlers l) v
        → Takes l image (At v) path d → (Contains vs v → ⊥) → Above vs more → Above (v ∷ vs) (2 + d + more)

  adds_of : (vs : List ℕ) (more : ℕ) → Above vs more → length vs ≤ 2 → Adds l image more
  adds_of _ _ NoneAbove few = Nothing
  adds_of _ _ (OneAbove v d _ _ path h t fresh NoneAbove) few = grind (arith, One v d path h t)
  adds_of _ _ (OneAbove v d _ _ path h t fresh (OneAbove w e _ _ other k u none NoneAbove)) few =
      grind (arith, Two v w d e path other h k (λ same. fresh (0, omega arith, sym same)) t u)
  adds_of _ _ (OneAbove _ _ _ _ _ _ _ _ (OneAbove _ _ _ _ _ _ _ _ (OneAbove _ _ _ vs _ _ _ _ _))) few =
      absurd (omega (arith, few))

  module _ (b : StackBound) (bound : IsBound l image b) where
    -- what the current start takes, on top of what is below it, is no more than the bound
    most : (reset : List ℕ) (rs : List ReturnRecord) (start : Start) (base : ℕ) → Stands reset rs start base
        → (path : List Start) (bytes : ℕ) → Takes l image start path bytes
        → (vs : List ℕ) (more : ℕ) → Above vs more → ((v : ℕ) → Contains vs v → is_busy rs v ≡ false)
        → length vs + interrupts rs ≤ 2 → base + bytes + more ≤ b.total
    most reset _ _ _ AtReset path bytes t vs more a fresh few =
        let adds = adds_of vs more a (omega (arith, few)) in
        let comes : ComesTo l image (bytes + more) =
        record { path = path; reset = bytes; more = more; takes = t; adds = adds; value_is = refl } in
        omega (arith, bound.total.most (bytes + more) comes)
    most reset _ _ _ (AfterCall back top units rs p base to instr below is calls at back_is high) path bytes t vs more a
        fresh few =
        let call : CallsAt l image p.start p.height to = grind arith in
        let low = most reset rs p.start base below (At to ∷ path) (p.height + 2 + bytes)
        (Call p.start p.height to path bytes call t) vs more a fresh few in
        omega (arith, low, high)
    most reset _ _ _ (AfterInterrupt back top units rs p base source below is back_is high handler free) path bytes t vs
        more a fresh few =
        let v = vector_of source in
        let own : Takes l image p.start [] p.height = Own p.start p.height (grind arith) in
        let up = OneAbove v bytes more vs path handler t (λ k. grind (arith, eq-eqb v v refl, fresh v k)) a in
        let low = most reset rs p.start base below [] p.height own (v ∷ vs) (2 + bytes + more) up
        (λ w k. fresh_below v w vs rs free fresh k) (omega (arith, few)) in
        omega (arith, low, high)

    -- so it is without handlers above
    room : (reset : List ℕ) (rs : List ReturnRecord) (start : Start) (base : ℕ) → Stands reset rs start base
        → interrupts rs ≤ 2 → (path : List Start) (bytes : ℕ) → Takes l image start path bytes → base + bytes ≤ b.total
    room reset rs start base s few path bytes t =
        omega (
          arith,
          most reset rs start base s path bytes t [] 0 NoneAbove (λ v k. absurd (none_in_empty v k))
              (omega (arith, few)),
        )

-- a sound layout, and a bound of it and its image that fits a byte
pub record IsBounded (l : LayoutParts) (image : List ℕ) (b : StackBound) : Type 0 where
  pub sound : IsSound l
  pub bound : IsBound l image b
  pub few : b.total ≤ 255

-- the address that two puts store
return_is : (e : Effect) (to x y : ℕ) → e.first ≡ Byte x (to % 256) → e.second ≡ Byte y (to / 256)
    → return_address_of e ≡ to
return_is e to x y low high = cc (ap byte_put low, ap byte_put high, mod-add-div to 256)

module _ {l : LayoutParts} {image : List ℕ} {b : StackBound} (g : IsBounded l image b) where
  -- what records and processor represent
  pub record InStep (a : Records) (pc top : ℕ) : Type 0 where
    pub start : Start
    pub base : ℕ
    pub height : ℕ
    pub stands : Stands l image a.reset a.returns start base
    pub is_point : IsPoint l image (point_at start pc height)
    pub stack : top ≡ base + height
    pub covers : IsUnitAt l pc (current a)

  reset_base : (reset : List ℕ) (rs : List ReturnRecord) (start : Start) (base : ℕ) → Stands l image reset rs start base
      → is_reset start ≡ true → base ≡ 0
  reset_base reset _ _ _ AtReset h = refl
  reset_base reset _ start base s h = absurd (cc h)

  -- a unit is appended to the top record
  pub jumped_stands : (reset : List ℕ) (rs : List ReturnRecord) (start : Start) (base u : ℕ)
      → Stands l image reset rs start base
      → Stands l image (jumped reset rs u).reset (jumped reset rs u).returns start base
  jumped_stands reset _ _ _ u AtReset = AtReset
  jumped_stands reset _ _ _ u (AfterCall back top units rs p base to instr below is calls at back_is high) =
      AfterCall back top (u ∷ units) rs p base to instr below is calls at back_is high
  jumped_stands reset _ _ _ u (AfterInterrupt back top units rs p base source below is back_is high handler free) =
      AfterInterrupt back top (u ∷ units) rs p base source below is back_is high handler free

  -- the height of a point is one of its start
  own : (start : Start) (pc height : ℕ) → IsPoint l image (point_at start pc height) → Takes l image start [] height
  own start pc height is = Own start height (grind arith)

  -- SP is at most the bound
  pub in_room : {a : Records} {pc top : ℕ} → InStep a pc top → interrupts a.returns ≤ 2 → top ≤ b.total
  in_room {a} {pc} {top} s count =
      omega (
        arith,
        room l image b g.bound _ _ _ _ s.stands count [] s.height (own s.start pc s.height s.is_point),
      )

  module _ {a : Records} (cpu : Cpu) (s : InStep a cpu.pc (latch cpu sp)) (count : interrupts a.returns ≤ 2) where
    abbrev here : Point
    here = point_at s.start cpu.pc s.height

    module _ {instr : Instr} (at : instruction l image cpu.pc ≡ Some instr) where
      abbrev next : ℕ
      next = next_of instr cpu.pc

      -- no condition of K1 to K3 holds, and no PUSH is at height 255
      rules : (sets_stack here instr ≡ false) × (is_computed instr ≡ false) × (pops_below here instr ≡ false)
          × (pushes_above here instr ≡ false)
      rules =
          let kept = g.bound.kept.apart.rules in (
            stack_kept l image here instr s.is_point at kept,
            computed_kept l image here instr s.is_point at kept,
            pops_kept l image here instr s.is_point at kept,
            pushes_kept l image here instr s.is_point at g.bound.no_push,
          )

      -- SP is written by no operand, but by an immediate value
      pub spoiled_none : ((writes_sp instr && not (is_some (sets_sp instr))) ≡ false) × (is_computed instr ≡ false)
      unfolding sets_stack
      spoiled_none = grind (arith, common_steps, rules)

      goes_on : is_return instr ≡ false → ends_at here instr ≡ false
      unfolding ends_at
      goes_on h = rw (h, rules.0, rules.1, rules.2, rules.3) refl

      pop_high : is_pop instr ≡ true → 1 ≤ s.height
      unfolding pops_below
      pop_high h = grind (arith, nat_tests, rules.2)

      reset_only : is_some (sets_sp instr) ≡ true → s.base ≡ 0
      unfolding sets_stack
      reset_only h =
          grind (arith, reset_base a.reset a.returns s.start s.base s.stands, sets_writes instr h, rules.0)

      module _ (e : Effect) where
        -- the new point is in the unit that is current then
        moved : (b : Records) (height : ℕ) → Stands l image b.reset b.returns s.start s.base
            → Contains (successors l image here) (point_at s.start e.cpu.pc height) → latch e.cpu sp ≡ s.base + height
            → IsUnitAt l e.cpu.pc (current b) → InStep b e.cpu.pc (latch e.cpu sp)
        moved b height stands after stack covers = grind (arith, After)

        -- control continues with the next instruction
        pub went_on : Does cpu instr e Next → IsUnitAt l e.cpu.pc (current a) → InStep a e.cpu.pc (latch e.cpu sp)
        unfolding height_after
        went_on f covers =
            let one = in_one l g.sound cpu.pc next (current a) s.covers (rw f.3 at covers) in
            let after = next_there l image here instr at (goes_on f.0) f.1 f.2 one in
            let height = height_after s.height instr in
            let low = room l image b g.bound _ _ _ _ s.stands count [] height
            (own s.start next height (After here (point_at s.start next height) s.is_point after)) in
            let high : instr_top instr (latch cpu sp) ≡ s.base + height =
            cc (tops (is_push instr) (is_pop instr) (sets_sp instr) s.base s.height (omega (arith, low, g.few)) pop_high
            (omega (arith, in_room s count, g.few)) reset_only) in
            moved a height s.stands (rw f.3 after) (f.4 ∙ high) covers

        -- control goes to a target, in the same unit or along an edge
        pub went_to : (c : Records) → Does cpu instr e Jump → Stands l image c.reset c.returns s.start s.base
            → (current a ≡ current c) ⊎ HasEdge l.edges (current a) (current c) → IsUnitAt l e.cpu.pc (current c)
            → InStep c e.cpu.pc (latch e.cpu sp)
        went_to c f stands way covers =
            let keeps = branch_keeps instr next e.cpu.pc s.height f.2 in
            let keeps_top = branch_keeps instr next e.cpu.pc (latch cpu sp) f.2 in
            let after = target_there l image here instr at (goes_on f.0) f.1 e.cpu.pc f.2
            (target_counts l g.sound cpu.pc e.cpu.pc (current a) (current c) s.covers covers way) keeps.0 in
            moved c s.height stands after (f.3 ∙ keeps_top.1 ∙ s.stack) covers

        -- a call whose target counts
        pub call_made : (u : ℕ) (units : List ℕ) → Does cpu instr e Calls
            → (current a ≡ u) ⊎ HasEdge l.edges (current a) u → IsUnitAt l e.cpu.pc u
            → IsUnitAt l e.cpu.pc (current (return_pushed a ByCall (return_address_of e) (latch e.cpu sp) units))
            → InStep (return_pushed a ByCall (return_address_of e) (latch e.cpu sp) units) e.cpu.pc (latch e.cpu sp)
        unfolding call_by called
        call_made u units f way there covers =
            let calls : call_of l image here ≡ Some e.cpu.pc =
            cc (f.0, f.2, target_counts l g.sound cpu.pc e.cpu.pc (current a) u s.covers there way) in
            let at_here : CallsAt l image s.start s.height e.cpu.pc = grind arith in
            let low = room l image b g.bound _ _ _ _ s.stands count (At e.cpu.pc ∷ []) (s.height + 2 + 0)
            (Call s.start s.height e.cpu.pc [] 0 at_here
            (Own (At e.cpu.pc) 0 (entered l image here e.cpu.pc s.is_point calls))) in
            let high : latch e.cpu sp ≡ s.base + s.height + 2 = omega (arith, f.1.stack, low, g.few) in
            record {
              start = At e.cpu.pc;
              base = latch e.cpu sp;
              height = 0;
              stands = AfterCall _ _ units a.returns here s.base e.cpu.pc instr s.stands
                  (record { is_point = s.is_point; covered = s.covers }) calls at
                  (return_is e next _ _ f.1.low f.1.high) high;
              is_point = After here (entry_at e.cpu.pc) s.is_point
                  (call_enters l here e.cpu.pc (instruction l image cpu.pc) calls);
              stack = omega arith;
              covers = covers;
            }

    -- an interrupt at any point
    pub interrupt_taken : (source : Source) (e : Effect) (units : List ℕ) → IsVectoring cpu source e
        → interrupts a.returns ≤ 1 → Contains (handlers l) (vector_of source)
        → is_busy a.returns (vector_of source) ≡ false
        → IsUnitAt l e.cpu.pc
        (current (return_pushed a (ByInterrupt source) (return_address_of e) (latch e.cpu sp) units))
        → InStep (return_pushed a (ByInterrupt source) (return_address_of e) (latch e.cpu sp) units) e.cpu.pc
        (latch e.cpu sp)
    interrupt_taken source e units k one handler free covers =
        let v = vector_of source in
        let entry = handler_first l image v handler in
        let low = most l image b g.bound _ _ _ _ s.stands [] s.height (own s.start cpu.pc s.height s.is_point)
        (v ∷ []) (2 + 0 + 0) (OneAbove v 0 0 [] [] handler (own (At v) v 0 entry) (λ c. none_in_empty v c) NoneAbove)
        (λ w c. fresh_below v w [] a.returns free (λ w c. absurd (none_in_empty w c)) c) (omega (arith, one)) in
        let high : latch e.cpu sp ≡ s.base + s.height + 2 = omega (arith, k.stack, low, g.few) in
        record {
          start = At v;
          base = latch e.cpu sp;
          height = 0;
          stands = AfterInterrupt _ _ units a.returns here s.base source s.stands
              (record { is_point = s.is_point; covered = s.covers }) (return_is e cpu.pc _ _ k.low k.high) high handler
              free;
          is_point = rw k.at entry;
          stack = omega arith;
          covers = covers;
        }

  -- a return goes back to what the topmost record represents
  pub returned : (reset : List ℕ) (r : ReturnRecord) (rs : List ReturnRecord) (start : Start) (base to new : ℕ)
      → Stands l image reset (r ∷ rs) start base → r.sp ≤ 255 → new ≡ (r.sp + 254) % 256 → to ≡ r.return_address
      → IsUnitAt l to (current (record { reset = reset; returns = rs }))
      → InStep (record { reset = reset; returns = rs }) to new
  returned reset _ _ _ _ to new (AfterCall back top units rs p base t instr below is calls at back_is high) fits new_is
      to_is covers =
      let next = next_of instr p.address in
      let after = call_returns l image p instr t at calls
      (in_one l g.sound p.address next (first_or (named_over reset rs) 0) is.covered (rw (to_is, back_is) at covers)) in
      grind (arith, After p (point_at p.start next p.height) is.is_point after)
  returned reset _ _ _ _ to new (AfterInterrupt back top units rs p base source below is back_is high handler free) fits
      new_is to_is covers = grind (arith, is.is_point)
