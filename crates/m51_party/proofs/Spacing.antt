-- The bytes with a ninth bit that a board sends, one after another: only the last one may still be on the line.
use Rattle.std.proofs.lemmas.Grind.{common_steps}
use Rattle.m51_party.proofs.Common.{◌≡◌, ℕ, zero, suc, ◌+◌, ◌≤◌, ◌<◌, Bool, List, [], ◌∷◌, ◌++◌, Option, Some, None}
use Rattle.m51_party.proofs.Common.{refl, ◌-◌, ◌^◌, ◌∙◌, arith, append-nil, option_to_list, min, Entry, Timed, Inputs}
use Rattle.m51_party.proofs.Common.{frames_in, next_cycle, sent_in, changed_by, frames_of, Every, every_append}
use Rattle.m51_party.proofs.Common.{every_weaker}
use Rattle.std.proofs.Common.{◌≢◌}
use Rattle.std.specs.Prelude.{IsSome, IfSome}
use Rattle.m51_cells.specs.declared.event.Entry.TheVariants.{Sent as SentByte}
use Rattle.m51_flat.specs.declared.state.Cpu.{Cpu}
use Rattle.m51_flat.specs.declared.state.Effect.{Effect}
use Rattle.m51_flat.specs.Sfr.{flag, scon}
use Rattle.m51_flat.specs.Flags.{tb8}
use Rattle.m51_timers_uart.specs.declared.periph.Periph.{Periph}
use Rattle.m51_timers_uart.specs.declared.periph.Sent.{Sent}
use Rattle.m51_timers_uart.specs.Sending.{Ticked, begun, serial_mode}
use Rattle.m51_timers_uart.specs.LineLaws.{PassesOneBit, written_to}
use Rattle.m51_timers_uart.proofs.Lines.{one_bit_passes, ninth_ten}
use Rattle.m51_sim.specs.Cycles.{cycle_passed, cycles_passed, first_sent}
use Rattle.m51_party.specs.Seats.{last_sent}
use Rattle.m51_party.proofs.Cycles.{Passing, sent_frames, ticks_count, top}

-- a byte with a ninth bit that is on its way arrives no earlier than this
abbrev pub IsApart : ℕ → ℕ → Periph → Type 0
IsApart least cycle p = IsSome p.ninth → p.left ≢ 0 → least ≤ p.left + cycle + 4

begun_apart : (least cycle : ℕ) (cpu : Cpu) (byte : ℕ) (p : Periph) → least ≤ cycle + 14
    → IsApart least cycle (begun cpu byte p)
unfolding begun
begun_apart least cycle cpu byte p h i ne = omega (arith, ninth_ten (serial_mode cpu) (flag cpu scon tb8) i)

begin_apart : (least cycle : ℕ) (cpu : Cpu) (o : Option ℕ) (p : Periph) → least ≤ cycle + 14 → IsApart least cycle p
    → IsApart least cycle (written_to cpu o p)
begin_apart least cycle cpu o p h k = grind (arith, common_steps, begun_apart least cycle cpu)

-- a frame that arrives no earlier than this, and was sent by this cycle
abbrev pub Arrives : ℕ → ℕ → List Timed → Type 0
Arrives least cycle ts = Every (λ t. (least ≤ t.cycle) × (t.cycle ≤ cycle + 4)) ts

-- what was sent in a step arrives so, and nothing more is on its way; else what is on its way arrives so
abbrev pub SpacedBy : ℕ → ℕ → Periph → Option Entry → Type 0
SpacedBy least cycle p None = IsApart least cycle p
SpacedBy least cycle p (Some entry) = (p.left ≡ 0) × Arrives least cycle (frames_of entry)

byte_arrives : (least cycle byte : ℕ) (n : Option Bool) (p : Periph) → n ≡ p.ninth → p.left ≡ 1 → IsApart least cycle p
    → Arrives least (cycle + 1) (frames_of (SentByte (cycle + 1) byte n))
byte_arrives least cycle byte None p e one g = tt
byte_arrives least cycle byte (Some b) p e one g =
    let is : least ≤ p.left + cycle + 4 = g (rw (← e) refl) (λ z. omega (arith, z, one)) in
    ((omega arith, omega arith), tt)

-- a tick in which nothing was sent before
first_spaced : (least cycle : ℕ) (p q : Periph) (sent : Option Sent) → IsApart least (cycle + 1) q
    → IsApart least cycle p
    → IfSome sent (λ s. (s ≡ record { byte = p.byte; ninth = p.ninth }) × (p.left ≡ 1) × (q.left ≡ 0))
    → SpacedBy least (cycle + 1) q (sent_in (cycle + 1) sent)
first_spaced least cycle p q sent g h is = grind (arith, common_steps, byte_arrives least cycle)

tick_spaced : (least cycle : ℕ) (p : Periph) (t : Ticked) (before : Option Entry) → PassesOneBit p t
    → SpacedBy least cycle p before
    → SpacedBy least (cycle + 1) t.periph (first_sent before (sent_in (cycle + 1) t.sent))
tick_spaced least cycle p t None one g =
    first_spaced least cycle p t.periph t.sent (λ i ne. omega (arith, one.least, one.most, g (rw one.ninth at i)))
    g one.sent
tick_spaced least cycle p t (Some entry) one g =
    (omega (arith, one.most, g.0), every_weaker _ _ (frames_of entry) (λ t h. (h.0, omega (arith, h.1))) g.1)

abbrev pub IsSpaced : ℕ → Passing → Type 0
IsSpaced least p = SpacedBy least p.cycle p.periph p.sent

cycle_spaced : (inputs : Inputs) (least : ℕ) (p : Passing) → p.cycle < top → IsSpaced least p
    → IsSpaced least (cycle_passed inputs p)
unfolding cycle_passed
cycle_spaced inputs least p h g =
    let e : next_cycle p.cycle ≡ p.cycle + 1 = omega arith in
    rw e (tick_spaced least p.cycle p.periph _ p.sent (one_bit_passes _ _ _ p.periph) g)

cycles_spaced : (inputs : Inputs) (least count : ℕ) (p : Passing) → p.cycle + count ≤ top → IsSpaced least p
    → IsSpaced least (cycles_passed inputs count p)
unfolding cycles_passed
cycles_spaced inputs least zero p h g = g
cycles_spaced inputs least (suc count) p h g =
    let is = ticks_count inputs count p (omega (arith, h)) in
    cycle_spaced inputs least (cycles_passed inputs count p) (omega (arith, is, h))
    (cycles_spaced inputs least count p (omega (arith, h)) g)

-- all arrived before a cycle can be the next
abbrev pub Until : ℕ → List Timed → Type 0
Until cycle ts = Every (λ t. t.cycle + 5 ≤ cycle) ts

pub none_until : (now cycle : ℕ) (ts : List Timed) → cycle < now + 5 → Until cycle ts → frames_in now ts ≡ []
none_until now cycle [] below h = refl
none_until now cycle (t ∷ ts) below h = grind (arith, common_steps, none_until now cycle ts below h.1)

-- the frame after this one arrives no earlier than so
abbrev pub least_after : Option Timed → ℕ
least_after None = 0
least_after (Some t) = t.cycle + 9

-- The frames that a board sent: that of the last one is kept, and was sent by this cycle; the others are no longer on
-- the line; and the next one arrives at least nine cycles later.
pub record KeepsLast (cycle : ℕ) (p : Periph) (frames : List Timed) (kept : Option Timed) : Type 0 where
  pub older : List Timed
  pub are : frames ≡ older ++ option_to_list kept
  pub before : Until cycle older
  pub room : least_after kept ≤ cycle + 13
  pub apart : IsApart (least_after kept) cycle p

kept_until : (later at : ℕ) (kept : Option Timed) → least_after kept ≤ at + 4 → at ≤ later
    → Until later (option_to_list kept)
kept_until later at kept h k = grind (arith, common_steps)

-- a step in which nothing is sent, or nothing with a ninth bit
keeps_same : (cycle later : ℕ) (p q : Periph) (frames : List Timed) (kept : Option Timed) → cycle ≤ later
    → KeepsLast cycle p frames kept → IsApart (least_after kept) later q → KeepsLast later q (frames ++ []) kept
keeps_same cycle later p q frames kept h k g = record {
  older = k.older;
  are = append-nil frames ∙ k.are;
  before = every_weaker _ _ k.older (λ t b. omega (arith, b, h)) k.before;
  room = omega (arith, k.room, h);
  apart = g;
}

-- so it is after a step
keeps_on : (cycle later : ℕ) (p q : Periph) (frames : List Timed) (kept : Option Timed) (sent : Option Entry)
    → cycle ≤ later → later + 4 ≤ top → KeepsLast cycle p frames kept
    → SpacedBy (least_after kept) later q sent → KeepsLast later q (frames ++ sent_frames sent) (last_sent kept sent)
keeps_on cycle later p q frames kept None h room k g = keeps_same cycle later p q frames kept h k g
keeps_on cycle later p q frames kept (Some (SentByte at byte (Some ninth))) h room k g =
    let stop : min (at + 4) (2 ^ 64 - 1) ≡ at + 4 = omega (arith, g.1.0.1, room) in
    record {
      older = frames;
      are = rw stop refl;
      before = rw k.are (every_append _ k.older (option_to_list kept)
          (every_weaker _ _ k.older (λ t b. omega (arith, b, h)) k.before)
          (kept_until later at kept g.1.0.0 (omega (arith, g.1.0.1))));
      room = omega (arith, g.1.0.1);
      apart = λ i ne. absurd (ne g.0);
    }
keeps_on cycle later p q frames kept sent h room k g =
    keeps_same cycle later p q frames kept h k (λ i ne. absurd (ne g.0))

pub keeps_step : (inputs : Inputs) (cycle : ℕ) (p : Periph) (e : Effect) (frames : List Timed) (kept : Option Timed)
    → cycle + e.cycles + 4 ≤ top → KeepsLast cycle p frames kept
    → let q = cycles_passed inputs e.cycles (changed_by cycle p e) in
    KeepsLast q.cycle q.periph (frames ++ sent_frames q.sent) (last_sent kept q.sent)
keeps_step inputs cycle p e frames kept h k =
    let q = cycles_passed inputs e.cycles (changed_by cycle p e) in
    let is = ticks_count inputs e.cycles (changed_by cycle p e) (omega (arith, h)) in
    keeps_on cycle q.cycle p q.periph frames kept q.sent (omega (arith, is, h)) (omega (arith, is, h)) k
    (cycles_spaced inputs (least_after kept) e.cycles (changed_by cycle p e) (omega (arith, h))
    (begin_apart (least_after kept) cycle e.cpu e.sbuf p (omega (arith, k.room)) k.apart))
