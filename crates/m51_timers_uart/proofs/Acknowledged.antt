-- A flag of TCON that an acknowledgement clears decides nothing of whether devices rest, or count.
use Rattle.std.proofs.Common.{◌≡◌, ℕ, ◌-◌, ◌^◌, ◌<◌, Bool, true, false, cond, [], ◌∷◌, List, length, refl, ap, ◌∙◌}
use Rattle.std.proofs.Common.{arith, lit≤}
use Rattle.std.specs.Prelude.{not, ◌&&◌, ◌==◌, nat_eq, bit_and, bit_or, if◌then◌else◌}
use Rattle.std.specs.Int.{bit_at}
use Rattle.std.proofs.lemmas.Bool.{and_parts, eq-eqb, eqb-true}
use Rattle.std.proofs.lemmas.Nat.Bits.{bit_at_and, bit_at_or, same_from_bits}
use Rattle.m51_flat.specs.declared.state.Cpu.{Cpu}
use Rattle.m51_flat.specs.declared.state.Pins.{Pins}
use Rattle.m51_flat.specs.Flags.{exen2, ie0, ie1, it0, it1, tf0, tf1, tr0, tr1, tr2}
use Rattle.m51_flat.specs.Sfr.{flag, found, latch, p0, p1, p2, p3, t2con, tcon, tmod, with_bit, with_flag}
use Rattle.m51_flat.proofs.BitLaws.{one_bit_is_replaced}
use Rattle.m51_timers_uart.specs.declared.levels.Input.{Input}
use Rattle.m51_timers_uart.specs.declared.levels.Input.TheVariants.{Int0, Int1}
use Rattle.m51_timers_uart.specs.declared.levels.Levels.{Levels}
use Rattle.m51_timers_uart.specs.declared.periph.Periph.{Periph}
use Rattle.m51_timers_uart.specs.Levels.{falls, is_high, levels_of}
use Rattle.m51_timers_uart.specs.OnlyCounting.{AreCounting, none_asks}
use Rattle.m51_timers_uart.specs.Resting.{AreResting, request_rests}
use Rattle.m51_timers_uart.specs.Tick.{clocks_rest, levels_met}
use Rattle.m51_timers_uart.specs.Timer2.{timer2_rests}
use Rattle.m51_timers_uart.specs.Timers.{timers_rest}
use Rattle.m51_timers_uart.proofs.CountsOn.{clocks_same, same_counting}
use Rattle.m51_timers_uart.proofs.Kept.{Bit, Flagged, Place, Writes, bit_kept, has, latch_kept, spares, stored}
use Rattle.m51_timers_uart.proofs.Resting.{flag_stays}

-- a bit stays as it was read where another one is cleared
bit_stays : (byte k j : ℕ) (b : Bool) → bit_and (2 ^ k) (255 - 2 ^ j) ≡ 2 ^ k → with_bit byte k b ≡ byte
    → with_bit (with_bit byte j false) k b ≡ with_bit byte j false
unfolding with_bit
bit_stays byte k j true far c =
    same_from_bits _ _ (λ i.
    let one = simp bit_at_or at (ap (λ v. bit_at v i) c) in
    let two = simp bit_at_and at (ap (λ v. bit_at v i) far) in
    omega (arith, bit_at_or (bit_and byte (255 - 2 ^ j)) (2 ^ k) i, bit_at_and byte (255 - 2 ^ j) i, one, two))
bit_stays byte k j false far c =
    same_from_bits _ _ (λ i.
    let one = simp bit_at_and at (ap (λ v. bit_at v i) c) in
    omega (arith, bit_at_and (bit_and byte (255 - 2 ^ j)) (255 - 2 ^ k) i, bit_at_and byte (255 - 2 ^ j) i, one))

request_by : (edge fell kept now : Bool) → (kept ≡ true → now ≡ true) → (if edge then fell else kept) ≡ true
    → (if edge then fell else now) ≡ true
request_by true fell kept now s h = h
request_by false fell kept now s h = s h

-- a request that rests does so after another flag is cleared, and after its own where it is that of an edge
abbrev RestsOn : Levels → Input → ℕ → ℕ → ℕ → ℕ → Type 0
RestsOn levels pin it ask byte j =
    request_rests levels pin it ask byte ≡ true → request_rests levels pin it ask (with_bit byte j false) ≡ true

module _ (levels : Levels) (pin : Input) (it ask byte j : ℕ)
    (same : bit_at (with_bit byte j false) it ≡ bit_at byte it) where
  other_rests : bit_and (2 ^ ask) (255 - 2 ^ j) ≡ 2 ^ ask → RestsOn levels pin it ask byte j
  unfolding request_rests
  other_rests far h =
      rw same (request_by (bit_at byte it == 1) (not (falls levels pin)) _ _
      (λ e. eq-eqb _ _ (bit_stays byte ask j (not (is_high levels pin)) far (eqb-true _ _ e))) h)

  edge_rests : (bit_at byte it == 1) ≡ true → RestsOn levels pin it ask byte j
  unfolding request_rests
  edge_rests edge h = rw (same, edge) (rw edge at h)

-- the flags of TCON that an acknowledgement may clear
abbrev requests : List Place
requests = Bit tcon tf0 ∷ Bit tcon tf1 ∷ Bit tcon ie0 ∷ Bit tcon ie1 ∷ []

module _ (cpu : Cpu) (size : length cpu.regs ≡ 128) (ext : Pins) (p : Periph) where
  module _ (j : ℕ) (there : has requests (Bit tcon j) ≡ true) where
    abbrev now : Cpu
    now = with_flag cpu tcon j false

    w : Writes requests cpu now
    w = Flagged tcon j false cpu there

    clocks_now : clocks_rest now p ≡ clocks_rest cpu p
    unfolding clocks_rest timers_rest timer2_rests
    clocks_now =
        rw (
          (spares tcon tr0 refl w size).0,
          (spares tcon tr1 refl w size).0,
          bit_kept tmod 0 refl w,
          bit_kept tmod 1 refl w,
          bit_kept t2con tr2 refl w,
          bit_kept t2con exen2 refl w,
        ) refl

    levels_now : levels_of now ext ≡ levels_of cpu ext
    unfolding levels_of found
    levels_now = rw (latch_kept p0 refl w, latch_kept p1 refl w, latch_kept p2 refl w, latch_kept p3 refl w) refl

    byte_now : latch now tcon ≡ with_bit (latch cpu tcon) j false
    unfolding with_flag
    byte_now = stored tcon (with_bit (latch cpu tcon) j false) cpu refl size

    rest_now : RestsOn (levels_met p cpu ext) Int0 it0 ie0 (latch cpu tcon) j
        → RestsOn (levels_met p cpu ext) Int1 it1 ie1 (latch cpu tcon) j → AreResting cpu ext p
        → AreResting now ext p
    rest_now zero one h = record {
      clocks = clocks_now ∙ h.clocks;
      levels = levels_now ∙ h.levels;
      int0 = rw (levels_now, byte_now) (zero h.int0);
      int1 = rw (levels_now, byte_now) (one h.int1);
    }

  replaced : (j it : ℕ) → j < 8 → it < 8
      → bit_at (with_bit (latch cpu tcon) j false) it ≡ cond (nat_eq it j) 0 (bit_at (latch cpu tcon) it)
  replaced j it hj hit = one_bit_is_replaced (latch cpu tcon) j it false hj hit

  far0 : (j : ℕ) → j < 8 → nat_eq it0 j ≡ false → bit_and (2 ^ ie0) (255 - 2 ^ j) ≡ 2 ^ ie0
      → RestsOn (levels_met p cpu ext) Int0 it0 ie0 (latch cpu tcon) j
  far0 j hj other far = other_rests _ _ it0 ie0 _ j (replaced j it0 hj (lit≤ tt) ∙ rw other refl) far

  far1 : (j : ℕ) → j < 8 → nat_eq it1 j ≡ false → bit_and (2 ^ ie1) (255 - 2 ^ j) ≡ 2 ^ ie1
      → RestsOn (levels_met p cpu ext) Int1 it1 ie1 (latch cpu tcon) j
  far1 j hj other far = other_rests _ _ it1 ie1 _ j (replaced j it1 hj (lit≤ tt) ∙ rw other refl) far

  -- TF0 or TF1, and IE0 or IE1 where the bit is 1 that makes it an edge's
  pub rest_tf0 : AreResting cpu ext p → AreResting (with_flag cpu tcon tf0 false) ext p
  rest_tf0 h = rest_now tf0 refl (far0 tf0 (lit≤ tt) refl refl) (far1 tf0 (lit≤ tt) refl refl) h

  pub rest_tf1 : AreResting cpu ext p → AreResting (with_flag cpu tcon tf1 false) ext p
  rest_tf1 h = rest_now tf1 refl (far0 tf1 (lit≤ tt) refl refl) (far1 tf1 (lit≤ tt) refl refl) h

  pub rest_ie0 : flag cpu tcon it0 ≡ true → AreResting cpu ext p → AreResting (with_flag cpu tcon ie0 false) ext p
  unfolding flag
  rest_ie0 e h =
      rest_now ie0 refl (edge_rests _ _ it0 ie0 _ ie0 (replaced ie0 it0 (lit≤ tt) (lit≤ tt)) e)
      (far1 ie0 (lit≤ tt) refl refl) h

  pub rest_ie1 : flag cpu tcon it1 ≡ true → AreResting cpu ext p → AreResting (with_flag cpu tcon ie1 false) ext p
  unfolding flag
  rest_ie1 e h =
      rest_now ie1 refl (far0 ie1 (lit≤ tt) refl refl)
      (edge_rests _ _ it1 ie1 _ ie1 (replaced ie1 it1 (lit≤ tt) (lit≤ tt)) e) h

  -- where devices count, no request of a pin is kept
  none_kept : AreCounting cpu ext p
      → (with_bit (latch cpu tcon) ie0 false ≡ latch cpu tcon) × (with_bit (latch cpu tcon) ie1 false ≡ latch cpu tcon)
  unfolding none_asks
  none_kept h =
      let one = and_parts _ (with_bit (latch cpu tcon) ie1 false == latch cpu tcon) h.requests in
      let zero = and_parts _ (with_bit (latch cpu tcon) ie0 false == latch cpu tcon) one.0 in
      (eqb-true _ _ zero.1, eqb-true _ _ one.1)

  pub count_ie0 : AreCounting cpu ext p → AreCounting (with_flag cpu tcon ie0 false) ext p
  count_ie0 h = rw (flag_stays cpu tcon ie0 false (none_kept h).0) h

  pub count_ie1 : AreCounting cpu ext p → AreCounting (with_flag cpu tcon ie1 false) ext p
  count_ie1 h = rw (flag_stays cpu tcon ie1 false (none_kept h).1) h

  pub count_tf0 : AreCounting cpu ext p → AreCounting (with_flag cpu tcon tf0 false) ext p
  count_tf0 h = same_counting (clocks_same (Flagged tcon tf0 false cpu refl) size) ext p h

  pub count_tf1 : AreCounting cpu ext p → AreCounting (with_flag cpu tcon tf1 false) ext p
  count_tf1 h = same_counting (clocks_same (Flagged tcon tf1 false cpu refl) size) ext p h
