-- One induction over the actions: what each write of a register or of memory keeps, and each jump, every action keeps
-- that is no call and no return.
use Rattle.m51_flat.proofs.Common.{◌≡◌, ℕ, ◌+◌, ◌%◌, ◌<◌, Bool, true, false, cond, List, Option, Some, None, refl}
use Rattle.m51_flat.proofs.Common.{subst, sym, ap, ◌∙◌, arith, ◌==◌, ◌&&◌, Instr, Cpu, Pins, Effect, Put, Xbyte, Action}
use Rattle.m51_flat.proofs.Common.{JumpIndirect, CallTo, CallNear, Return, Reads, Ends, Read, acc, psw, sp, action_of}
use Rattle.m51_flat.proofs.Common.{plan, Always}
use Rattle.std.proofs.lemmas.Bool.{cond_both, ltb-true}
use Rattle.std.specs.Prelude.{nat_lt, IfSome}
use Rattle.m51_isa.specs.declared.instr.Instr.TheVariants.{Nop}
use Rattle.m51_isa.specs.declared.instr.Written.{Written}
use Rattle.m51_isa.specs.declared.instr.Written.TheVariants.{Nothing, Direct as DirectByte, Bit, BitIfSet}
use Rattle.m51_isa.specs.Changes.{written_of}
use Rattle.m51_isa.specs.Targets.{near, relative}
use Rattle.m51_flat.specs.declared.state.Transfer.TheVariants.{Jump}
use Rattle.m51_flat.specs.declared.actions.Addressing.{Addressing}
use Rattle.m51_flat.specs.declared.actions.Addressing.TheVariants.{Accumulator, Direct, Indirect, Bank}
use Rattle.m51_flat.specs.declared.actions.ByteOperand.TheVariants.{At}
use Rattle.m51_flat.specs.declared.actions.Location.{Location}
use Rattle.m51_flat.specs.declared.actions.Location.TheVariants.{Ram, Sfr}
use Rattle.m51_flat.specs.declared.actions.Action.TheVariants.{Skip, Assign, Accumulate, Combine, Change, Turn}
use Rattle.m51_flat.specs.declared.actions.Action.TheVariants.{Multiply, Divide, Exchange, ExchangeDigit, LoadDptr}
use Rattle.m51_flat.specs.declared.actions.Action.TheVariants.{AdvanceDptr, LoadExternal, StoreExternal, LoadCode, Push}
use Rattle.m51_flat.specs.declared.actions.Action.TheVariants.{Pop, ChangeCarry, CarryWith, StoreBit, FlipBit, JumpTo}
use Rattle.m51_flat.specs.declared.actions.Action.TheVariants.{JumpNear, JumpBy, BranchOn, BranchOnBit}
use Rattle.m51_flat.specs.declared.actions.Action.TheVariants.{TestAndClear, Compare, CountDown}
use Rattle.m51_flat.specs.Reads.{then_read}
use Rattle.m51_flat.specs.Sfr.{breg, dph, dpl, flag, latch, with_sfr}
use Rattle.m51_flat.specs.Operands.{bank, bit_found_at, bit_latch_at, byte_of_bit, found_at, latch_at, location_of}
use Rattle.m51_flat.specs.Operands.{operand_value, with_bit_at, with_location}
use Rattle.m51_flat.specs.Parts.{branched, jumped, with_carry, with_dptr, with_pair, with_sum}
use Rattle.m51_flat.specs.Arithmetic.{assigned, changed, combined, digits_exchanged, exchanged, summed, with_turn}
use Rattle.m51_flat.specs.Moves.{code_loaded, external_address, external_loaded, external_stored, popped, pushed}
use Rattle.m51_flat.specs.Bits.{bit_flipped, branched_on_bit, carry_merged, tested_and_cleared}
use Rattle.m51_flat.specs.Transfers.{compared, counted_down}
use Rattle.m51_flat.specs.LevelLaws.{is_written}

-- what an action writes at an address of its operand
abbrev pub place_written : Addressing → Written
place_written (Direct a) = DirectByte a
place_written _ = Nothing

abbrev pub written_by : Action → Written
written_by (Assign addressing from) = place_written addressing
written_by (Combine op addressing from) = place_written addressing
written_by (Change count addressing) = place_written addressing
written_by (Exchange addressing) = place_written addressing
written_by (ExchangeDigit addressing) = place_written addressing
written_by (Pop addressing) = place_written addressing
written_by (CountDown addressing rel) = place_written addressing
written_by (StoreBit from bit) = Bit bit
written_by (FlipBit bit) = Bit bit
written_by (TestAndClear bit rel) = BitIfSet bit
written_by _ = Nothing

-- the address to which it may jump
abbrev pub target_by : Action → ℕ → Option ℕ
target_by (JumpTo target) next = Some target
target_by (JumpNear address) next = Some (near next address)
target_by (JumpBy rel) next = Some (relative next rel)
target_by (BranchOn condition rel) next = Some (relative next rel)
target_by (BranchOnBit test bit rel) next = Some (relative next rel)
target_by (TestAndClear bit rel) next = Some (relative next rel)
target_by (Compare first second rel) next = Some (relative next rel)
target_by (CountDown addressing rel) next = Some (relative next rel)
target_by _ next = None

-- what it writes is the column of the instruction
pub same_written : (instr : Instr) → written_by (action_of instr) ≡ written_of instr
same_written Nop = refl
same_written _ = refl

abbrev pub IsQuiet : Bool → Type 0
IsQuiet true = ⊥
IsQuiet false = Unit {0}

quiet : (b : Bool) → IsQuiet b → b ≡ false
quiet false h = refl
quiet true h = absurd h

-- a test beside one that holds, or that does not
beside_true : (a c : Bool) → c ≡ true → a ≡ (a && c)
beside_true a c e = grind arith

beside_false : (a c : Bool) → c ≡ false → false ≡ (a && c)
beside_false a c e = grind arith

-- what holds of three effects holds of the one that tests choose
pub one_of : (P : Effect → Type 0) (b c : Bool) (x y z : Effect) → P x → P y → P z → P (cond b x (cond c y z))
one_of P true c x y z hx hy hz = hx
one_of P false true x y z hx hy hz = hy
one_of P false false x y z hx hy hz = hz

-- An action that is no call, return or computed jump may go where it goes; PUSH and POP write SP beside their operand.
abbrev pub MayGo : (ℕ → Bool) → ℕ → (ℕ → Type 0) → Action → Type 0
MayGo watched next G (Push addressing) = IsQuiet (watched sp)
MayGo watched next G (Pop addressing) = IsQuiet (watched sp)
MayGo watched next G JumpIndirect = ⊥
MayGo watched next G (CallTo target) = ⊥
MayGo watched next G (CallNear address) = ⊥
MayGo watched next G (Return from) = ⊥
MayGo watched next G action = IfSome (target_by action next) G

-- P says what holds before a jump, Q what holds at the end; `true` where one of the watched registers was written.
-- Control may jump to an address of G; n is that of the next instruction.
module _ (watched : ℕ → Bool) (P Q : Bool → Effect → Type 0) (n : ℕ) (G : ℕ → Type 0) where
  pub record IsKept : Type 0 where
    pub apart : (watched acc ≡ false) × (watched psw ≡ false) × (watched breg ≡ false) × (watched dph ≡ false)
        × (watched dpl ≡ false)
    pub low : (a : ℕ) → a < 128 → watched a ≡ false
    pub register : (a v : ℕ) (e : Effect) → P false e → P (watched a) (with_sfr a v e)
    pub memory : (put : Put) (e : Effect) → P false e → P false (record e { first = put })
    pub ends : (b : Bool) (e : Effect) → P b e → Q b e
    pub jump : (b : Bool) (to : ℕ) (e : Effect) → G to → P b e → Q b (jumped to Jump e)
    pub branch : (b : Bool) (rel : ℕ) (e : Effect) → G (relative n rel) → P b e
        → Q b (jumped (relative e.cpu.pc rel) Jump e)

  abbrev location_watched : Location → Bool
  location_watched (Ram a) = false
  location_watched (Sfr a) = watched a

  abbrev Gives : Bool → Reads Effect → Type 0
  Gives w p = Always (λ e. Q w e) p

  gives_then : {A : Type 0} (w : Bool) (p : Reads A) (go : A → Reads Effect) → ((a : A) → Gives w (go a))
      → Gives w (then_read p go)
  gives_then w (Ends a) go h = h a
  gives_then w (Read x more) go h = λ v. gives_then w (more v) go h

  choose : (w b : Bool) (x y : Effect) → Q w x → Q w y → Q w (cond b x y)
  choose w true x y hx hy = hx
  choose w false x y hx hy = hy

  so : {b w : Bool} {e : Effect} → b ≡ w → P b e → P w e
  so {b} {w} {e} p h = subst (λ b. P b e) p h

  module _ (k : IsKept) where
    plain : (a v : ℕ) (e : Effect) → watched a ≡ false → P false e → P false (with_sfr a v e)
    plain a v e p h = so p (k.register a v e h)

    carry_kept : (c : Bool) (e : Effect) → P false e → P false (with_carry c e)
    unfolding with_carry
    carry_kept c e h = plain _ _ e k.apart.1 h

    pair_kept : (t : ℕ × ℕ × Bool) (e : Effect) → P false e → P false (with_pair t e)
    unfolding with_pair
    pair_kept t e h = plain _ _ _ k.apart.0 (plain _ _ _ k.apart.2 (plain _ _ e k.apart.1 h))

    dptr_kept : (word : ℕ) (e : Effect) → P false e → P false (with_dptr word e)
    unfolding with_dptr
    dptr_kept word e h = plain _ _ _ k.apart.4 (plain _ _ e k.apart.3 h)

    -- where the operand lies, and what its write keeps
    placed : (w : Bool) (at : Location) (v : ℕ) (e : Effect) → location_watched at ≡ w → P false e
        → P w (with_location at v e)
    unfolding with_location
    placed w (Ram a) v e m h = so m (k.memory _ e h)
    placed w (Sfr a) v e m h = so m (k.register a v e h)

    direct_watched : (a : ℕ) (b : Bool) → nat_lt a 0x80 ≡ b → location_watched (cond b (Ram a) (Sfr a)) ≡ watched a
    direct_watched a true p = sym (k.low a (ltb-true a 128 p))
    direct_watched a false p = refl

    abbrev place_watched : Cpu → Addressing → Bool
    place_watched cpu addressing = is_written watched cpu (place_written addressing)

    located : (cpu : Cpu) (addressing : Addressing) (go : Location → Reads Effect)
        → ((at : Location) → location_watched at ≡ place_watched cpu addressing
        → Gives (place_watched cpu addressing) (go at))
        → Gives (place_watched cpu addressing) (then_read (location_of cpu addressing) go)
    unfolding location_of
    located cpu Accumulator go h = h (Sfr acc) k.apart.0
    located cpu (Direct a) go h = h (cond (nat_lt a 0x80) (Ram a) (Sfr a)) (direct_watched a (nat_lt a 0x80) refl)
    located cpu (Indirect i) go h = λ v. h (Ram v) refl
    located cpu (Bank n) go h = h (Ram (bank cpu + n)) refl

    bit_low : (bit : ℕ) → bit < 128 → watched (byte_of_bit bit) ≡ false
    bit_low bit h = k.low (byte_of_bit bit) (omega (arith, h))

    bit_kept : (w : Bool) (bit : ℕ) (b : Bool) (e : Effect) → watched (byte_of_bit bit) ≡ w → P false e
        → P w (with_bit_at bit b e)
    unfolding with_bit_at
    bit_kept w bit b e p h =
        cond_both (nat_lt bit 128) _ _ (λ e. P w e)
        (λ low. so (sym (bit_low bit (ltb-true bit 128 low)) ∙ p) (k.memory _ e h))
        (λ high. so p (k.register _ _ e h))

    branched_kept : (w taken : Bool) (rel : ℕ) (e : Effect) → G (relative n rel) → P w e → Q w (branched taken rel e)
    unfolding branched
    branched_kept w true rel e j h = k.branch w rel e j h
    branched_kept w false rel e j h = k.ends w e h

    -- a bit of internal RAM is none of the registers; of a register it is written where it is 1
    tested_kept : (e : Effect) (bit rel : ℕ) → G (relative n rel) → P false e
        → Gives (watched (byte_of_bit bit) && flag e.cpu (byte_of_bit bit) (bit % 8)) (tested_and_cleared e bit rel)
    unfolding tested_and_cleared bit_latch_at flag
    tested_kept e bit rel j h =
        let holds = watched (byte_of_bit bit) in
        let is_one = flag e.cpu (byte_of_bit bit) (bit % 8) in
        let w = holds && is_one in
        let taken = branched true rel (with_bit_at bit false e) in
        cond_both (nat_lt bit 128) _ _
        (λ (reads : Reads ℕ). Gives w (then_read reads (λ v. Ends (cond (v == 1) taken e))))
        (λ low v.
        let none : holds ≡ false = bit_low bit (ltb-true bit 128 low) in
        let is : false ≡ w = ap (λ b. b && is_one) (sym none) in
        choose w (v == 1) taken e (branched_kept w true rel _ j (bit_kept w bit false e (none ∙ is) h))
        (k.ends w e (so is h)))
        (λ high. cond_both is_one taken e (λ e. Q w e)
        (λ yes. branched_kept w true rel _ j (bit_kept w bit false e (beside_true holds is_one yes) h))
        (λ no. k.ends w e (so (beside_false holds is_one no) h)))

    pub walk : (image : List ℕ) (ext : Pins) (e : Effect) (action : Action) → e.cpu.pc ≡ n → MayGo watched n G action
        → P false e
        → Gives (is_written watched e.cpu (written_by action)) (plan image ext e action)
    unfolding assigned summed combined changed exchanged digits_exchanged external_loaded external_stored pushed popped
        carry_merged bit_flipped branched_on_bit compared counted_down with_sum with_turn code_loaded
    walk image ext e Skip here m h = k.ends _ _ h
    walk image ext e (Assign addressing from) here m h =
        located e.cpu addressing _
        (λ at m. gives_then _ (operand_value e.cpu ext from) _ (λ v. k.ends _ _ (placed _ at v e m h)))
    walk image ext e (Accumulate op from) here m h =
        gives_then _ (operand_value e.cpu ext from) _
        (λ v. k.ends _ _ (plain _ _ _ k.apart.0 (plain _ _ e k.apart.1 h)))
    walk image ext e (Combine op addressing from) here m h =
        located e.cpu addressing _
        (λ at m. gives_then _ (latch_at e.cpu at) _
        (λ v. gives_then _ (operand_value e.cpu ext from) _ (λ w. k.ends _ _ (placed _ at _ e m h))))
    walk image ext e (Change count addressing) here m h =
        located e.cpu addressing _ (λ at m. gives_then _ (latch_at e.cpu at) _ (λ v. k.ends _ _ (placed _ at _ e m h)))
    walk image ext e (Turn by) here m h = k.ends _ _ (plain _ _ _ k.apart.0 (carry_kept _ e h))
    walk image ext e Multiply here m h = k.ends _ _ (pair_kept _ e h)
    walk image ext e Divide here m h = k.ends _ _ (pair_kept _ e h)
    walk image ext e (Exchange addressing) here m h =
        located e.cpu addressing _
        (λ at m. gives_then _ (found_at e.cpu ext at) _
        (λ v. k.ends _ _ (placed _ at _ _ m (plain acc v e k.apart.0 h))))
    walk image ext e (ExchangeDigit addressing) here m h =
        located e.cpu addressing _
        (λ at m. gives_then _ (found_at e.cpu ext at) _
        (λ v. k.ends _ _ (placed _ at _ _ m (plain acc _ e k.apart.0 h))))
    walk image ext e (LoadDptr word) here m h = k.ends _ _ (dptr_kept _ e h)
    walk image ext e AdvanceDptr here m h = k.ends _ _ (dptr_kept _ e h)
    walk image ext e (LoadExternal from) here m h =
        gives_then _ (external_address e.cpu from) _ (λ a v. k.ends _ _ (plain acc v e k.apart.0 h))
    walk image ext e (StoreExternal to) here m h =
        gives_then _ (external_address e.cpu to) (λ a. Ends (record e { first = Xbyte a (latch e.cpu acc) }))
        (λ a. k.ends _ _ (k.memory _ e h))
    walk image ext e (LoadCode base) here m h = k.ends _ _ (plain _ _ e k.apart.0 h)
    walk image ext e (Push addressing) here m h =
        let top = (latch e.cpu sp + 1) % 256 in
        let raised = with_sfr sp top e in
        gives_then _ (operand_value raised.cpu ext (At addressing)) (λ v. Ends (with_location (Ram top) v raised))
        (λ v. k.ends _ _ (placed _ (Ram top) v raised refl (plain sp top e (quiet (watched sp) m) h)))
    walk image ext e (Pop addressing) here m h =
        located e.cpu addressing _
        (λ at w v. k.ends _ _ (placed _ at v _ w (plain sp _ e (quiet (watched sp) m) h)))
    walk image ext e (ChangeCarry by) here m h = k.ends _ _ (carry_kept _ e h)
    walk image ext e (CarryWith by bit) here m h =
        gives_then _ (bit_found_at e.cpu ext bit) _ (λ v. k.ends _ _ (carry_kept _ e h))
    walk image ext e (StoreBit from bit) here m h = k.ends _ _ (bit_kept _ bit _ e refl h)
    walk image ext e (FlipBit bit) here m h =
        gives_then _ (bit_latch_at e.cpu bit) _ (λ v. k.ends _ _ (bit_kept _ bit _ e refl h))
    walk image ext e (JumpTo target) here m h = k.jump _ _ e m h
    walk image ext e (JumpNear address) here m h = k.jump _ _ e (subst (λ next. G (near next address)) (sym here) m) h
    walk image ext e (JumpBy rel) here m h = branched_kept _ true rel e m h
    walk image ext e JumpIndirect here m h = absurd m
    walk image ext e (BranchOn condition rel) here m h = branched_kept _ _ rel e m h
    walk image ext e (BranchOnBit test bit rel) here m h =
        gives_then _ (bit_found_at e.cpu ext bit) _ (λ v. branched_kept _ _ rel e m h)
    walk image ext e (TestAndClear bit rel) here m h = tested_kept e bit rel m h
    walk image ext e (Compare first second rel) here m h =
        gives_then _ (operand_value e.cpu ext first) _
        (λ a. gives_then _ (operand_value e.cpu ext second) _ (λ b. branched_kept _ _ rel _ m (carry_kept _ e h)))
    walk image ext e (CountDown addressing rel) here m h =
        located e.cpu addressing _
        (λ at w. gives_then _ (latch_at e.cpu at) _ (λ v. branched_kept _ _ rel _ m (placed _ at _ e w h)))
    walk image ext e (CallTo target) here m h = absurd m
    walk image ext e (CallNear address) here m h = absurd m
    walk image ext e (Return from) here m h = absurd m
