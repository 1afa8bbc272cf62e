-- What a plain step changes decides nothing of how the devices go.
use Rattle.m51_sim.proofs.Common.{◌≡◌, ℕ, Bool, true, false, [], ◌∷◌, length, refl, ◌∙◌, Cpu, Effect, Source, flag}
use Rattle.m51_sim.proofs.Common.{pcon}
use Rattle.std.proofs.Common.{lit≤}
use Rattle.std.specs.Prelude.{◌&&◌, nat_le}
use Rattle.std.proofs.lemmas.Bool.{cond_both}
use Rattle.m51_flat.specs.declared.state.Level.{Level}
use Rattle.m51_flat.specs.declared.state.Level.TheVariants.{Low, High}
use Rattle.m51_flat.specs.declared.state.Source.TheVariants.{Ie0, Tf0, Ie1, Tf1, Serial, Timer2}
use Rattle.m51_flat.specs.Flags.{idl, ie0, ie1, it0, it1}
use Rattle.m51_flat.specs.Sfr.{latch, p0, p1, p2, p3, t2con, tcon, tmod, with_flag}
use Rattle.m51_irq.specs.Sources.{level_of}
use Rattle.m51_irq.specs.Vectoring.{cleared, edge_cleared, entered, interrupted}
use Rattle.m51_script.specs.Levels.{all_high}
use Rattle.m51_timers_uart.specs.declared.periph.Periph.{Periph}
use Rattle.m51_timers_uart.specs.Resting.{looked_at}
use Rattle.m51_timers_uart.proofs.Acknowledged.{count_ie0, count_ie1, count_tf0, count_tf1}
use Rattle.m51_timers_uart.proofs.Acknowledged.{rest_ie0, rest_ie1, rest_tf0, rest_tf1}
use Rattle.m51_timers_uart.proofs.CountsOn.{still_counting}
use Rattle.m51_timers_uart.proofs.Kept.{Bit, Flagged, all, avoids, latch_kept}
use Rattle.m51_timers_uart.proofs.Resting.{still_rest}
use Rattle.m51_sim.specs.declared.cycles.Pace.{Pace}
use Rattle.m51_sim.specs.declared.cycles.Pace.TheVariants.{Resting, Counting}
use Rattle.m51_sim.specs.Plain.{DevicesAre, KeepsDevices, KeepsOthers}

-- with the same in all registers at which the devices look they go as before
same_devices : (one other : Cpu) → looked_at one ≡ looked_at other → (pace : Pace) (p : Periph)
    → DevicesAre pace one p → DevicesAre pace other p
same_devices one other h Resting p d = still_rest one other h all_high p d
same_devices one other h Counting p d = still_counting one other h all_high p d

-- where no other register is written
looks_same : (old : Cpu) (e : Effect) → KeepsOthers old e → looked_at old ≡ looked_at e.cpu
looks_same old e k =
    rw (
      k.registers p0 (lit≤ tt) refl,
      k.registers p1 (lit≤ tt) refl,
      k.registers p2 (lit≤ tt) refl,
      k.registers p3 (lit≤ tt) refl,
      k.registers tcon (lit≤ tt) refl,
      k.registers tmod (lit≤ tt) refl,
      k.registers t2con (lit≤ tt) refl,
    )
    refl

pub others_keep : (old : Cpu) (e : Effect) → KeepsOthers old e → KeepsDevices old e
others_keep old e k = record {
  devices = λ size. same_devices old e.cpu (looks_same old e k);
  line = k.line;
  port = k.port;
}

module _ (cpu : Cpu) (size : length cpu.regs ≡ 128) (p : Periph) where
  edge_goes : (k edge : ℕ) (pace : Pace)
      → (flag cpu tcon edge ≡ true → DevicesAre pace cpu p → DevicesAre pace (with_flag cpu tcon k false) p)
      → DevicesAre pace cpu p → DevicesAre pace (edge_cleared k edge cpu) p
  edge_goes k edge pace goes h =
      cond_both (flag cpu tcon edge) _ cpu (λ (c : Cpu). DevicesAre pace c p) (λ e. goes e h) (λ e. h)

  -- they go as before where the flag of an interrupt is cleared
  cleared_goes : (s : Source) (pace : Pace) → DevicesAre pace cpu p → DevicesAre pace (cleared s cpu) p
  unfolding cleared
  cleared_goes Ie0 Resting h = edge_goes ie0 it0 Resting (rest_ie0 cpu size all_high p) h
  cleared_goes Ie0 Counting h = edge_goes ie0 it0 Counting (λ e. count_ie0 cpu size all_high p) h
  cleared_goes Tf0 Resting h = rest_tf0 cpu size all_high p h
  cleared_goes Tf0 Counting h = count_tf0 cpu size all_high p h
  cleared_goes Ie1 Resting h = edge_goes ie1 it1 Resting (rest_ie1 cpu size all_high p) h
  cleared_goes Ie1 Counting h = edge_goes ie1 it1 Counting (λ e. count_ie1 cpu size all_high p) h
  cleared_goes Tf1 Resting h = rest_tf1 cpu size all_high p h
  cleared_goes Tf1 Counting h = count_tf1 cpu size all_high p h
  cleared_goes Serial pace h = h
  cleared_goes Timer2 pace h = h

-- no device looks at PCON, nor at the levels in progress
entered_same : (l : Level) (cpu : Cpu) (held : Bool) (a : ℕ)
    → latch (record (entered l cpu) { held = held }) a ≡ latch cpu a
unfolding latch
entered_same Low cpu held a = refl
entered_same High cpu held a = refl

woken_same : (s : Source) (cpu : Cpu) (a : ℕ) → (nat_le 128 a && all (avoids a) (Bit pcon idl ∷ [])) ≡ true
    → latch (interrupted cpu s).cpu a ≡ latch (cleared s cpu) a
woken_same s cpu a h =
    entered_same (level_of cpu s) _ false a
    ∙ latch_kept a {ws = Bit pcon idl ∷ []} h (Flagged pcon idl false (cleared s cpu) refl)

acknowledged_looks : (s : Source) (cpu : Cpu) → looked_at (cleared s cpu) ≡ looked_at (interrupted cpu s).cpu
acknowledged_looks s cpu =
    rw (
      woken_same s cpu p0 refl,
      woken_same s cpu p1 refl,
      woken_same s cpu p2 refl,
      woken_same s cpu p3 refl,
      woken_same s cpu tcon refl,
      woken_same s cpu tmod refl,
      woken_same s cpu t2con refl,
    )
    refl

-- an interrupt is taken, and then no other register is written
pub taken_keeps : (cpu : Cpu) (s : Source) (e : Effect) → KeepsOthers (interrupted cpu s).cpu e → KeepsDevices cpu e
taken_keeps cpu s e k = record {
  devices = λ size pace p h.
      same_devices _ _ (acknowledged_looks s cpu ∙ looks_same _ e k) pace p (cleared_goes cpu size p s pace h);
  line = k.line;
  port = k.port;
}
