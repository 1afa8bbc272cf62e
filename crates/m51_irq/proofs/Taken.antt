-- The effect of taking an interrupt.
use Rattle.std.proofs.Common.{◌≡◌, ℕ, ◌+◌, ◌/◌, ◌%◌, Bool, false, length, Option, Some, None, refl, sym, ap, ◌∙◌, subst}
use Rattle.m51_cells.specs.declared.cell.Cell.{Cell}
use Rattle.m51_flat.specs.declared.state.Cpu.{Cpu}
use Rattle.m51_flat.specs.declared.state.Effect.{Effect}
use Rattle.m51_flat.specs.declared.state.Outcome.{Outcome}
use Rattle.m51_flat.specs.declared.state.Outcome.TheVariants.{Done}
use Rattle.m51_flat.specs.declared.state.Put.TheVariants.{Byte}
use Rattle.m51_flat.specs.declared.state.Source.{Source}
use Rattle.m51_flat.specs.DeviceLaws.{IsStacked}
use Rattle.m51_flat.specs.Laws.{HasParity, IfDone}
use Rattle.m51_flat.specs.Meaning.{unless_shut}
use Rattle.m51_flat.specs.Sfr.{has_register, latch, port_of, sp, with_sfr}
use Rattle.m51_flat.specs.States.{shut_of}
use Rattle.m51_flat.specs.Transfers.{stacked}
use Rattle.m51_flat.specs.Vectors.{vector_of}
use Rattle.m51_flat.proofs.Devices.{pc_is_stacked}
use Rattle.m51_flat.proofs.Flows.{latch_of}
use Rattle.m51_flat.proofs.Whole.{shut_open}
use Rattle.m51_irq.specs.Vectoring.{IsVectoring, interrupted, vectored, vectoring}
use Rattle.m51_irq.proofs.Kept.{acknowledged_kept, length_acknowledged}

done_or_not : (P : Effect → Type 0) (one two : Option Cell) (e : Effect) → P e
    → IfDone (unless_shut one (unless_shut two (Done e))) P
done_or_not P None None e h = h
done_or_not P None (Some c) e h = tt
done_or_not P (Some c) two e h = tt

-- what holds of the effect holds of the outcome
of_outcome : (P : Effect → Type 0) (r : Outcome) (cpu : Cpu) (barred : Cell → Bool) (s : Source)
    → r ≡ vectored cpu barred s → P (vectoring cpu s) → IfDone r P
of_outcome P r cpu barred s is h =
    subst (λ r. IfDone r P) (sym is)
    (done_or_not P (shut_of barred (vectoring cpu s).first) (shut_of barred (vectoring cpu s).second) (vectoring cpu s)
    h)

stacked_rest : (e : Effect) → ((stacked e).cycles ≡ e.cycles) × ((stacked e).port ≡ e.port)
    × ((stacked e).sbuf ≡ e.sbuf)
unfolding stacked with_sfr has_register port_of
stacked_rest e = (refl, refl, refl)

is_vectoring : (cpu : Cpu) (s : Source) → length cpu.regs ≡ 128 → IsVectoring cpu s (vectoring cpu s)
unfolding vectoring
is_vectoring cpu s len =
    let e = interrupted cpu s in
    let k = acknowledged_kept s cpu len in
    let on_stack : IsStacked e (stacked e) = pc_is_stacked e k.len in
    let rest = stacked_rest e in
    record {
      transfer = refl;
      at = refl;
      low = on_stack.low ∙ ap (λ top. Byte ((top + 1) % 256) (e.cpu.pc % 256)) k.stack
          ∙ ap (λ pc. Byte ((latch cpu sp + 1) % 256) (pc % 256)) k.pc;
      high = on_stack.high ∙ ap (λ top. Byte ((top + 2) % 256) (e.cpu.pc / 256)) k.stack
          ∙ ap (λ pc. Byte ((latch cpu sp + 2) % 256) (pc / 256)) k.pc;
      stack = latch_of (stacked e).cpu (vector_of s) sp ∙ on_stack.stack ∙ ap (λ top. (top + 2) % 256) k.stack;
      held = on_stack.control.held;
      cycles = rest.0;
      port = rest.1;
      sbuf = rest.2;
    }

pub registers_before : (cpu : Cpu) (s : Source) → length (interrupted cpu s).cpu.regs ≡ 128 → length cpu.regs ≡ 128
registers_before cpu s len = sym (length_acknowledged s cpu) ∙ len

pub vector_control : (r : Outcome) (cpu : Cpu) (barred : Cell → Bool) (s : Source) → r ≡ vectored cpu barred s
    → length cpu.regs ≡ 128 → IfDone r (IsVectoring cpu s)
vector_control r cpu barred s is len = of_outcome (IsVectoring cpu s) r cpu barred s is (is_vectoring cpu s len)

parity_at : (cpu : Cpu) (pc : ℕ) → HasParity cpu → HasParity (record cpu { pc = pc })
unfolding latch
parity_at cpu pc h = h

parity_kept : (cpu : Cpu) (s : Source) → length cpu.regs ≡ 128 → HasParity cpu → HasParity (vectoring cpu s).cpu
unfolding vectoring
parity_kept cpu s len h =
    let e = interrupted cpu s in
    let k = acknowledged_kept s cpu len in
    parity_at (stacked e).cpu (vector_of s) ((pc_is_stacked e k.len).parity (k.parity h))

pub vector_parity : (r : Outcome) (cpu : Cpu) (barred : Cell → Bool) (s : Source) → r ≡ vectored cpu barred s
    → length cpu.regs ≡ 128 → HasParity cpu → IfDone r (λ e. HasParity e.cpu)
vector_parity r cpu barred s is len h = of_outcome (λ e. HasParity e.cpu) r cpu barred s is (parity_kept cpu s len h)

pub vector_whole : (r : Outcome) (cpu : Cpu) (barred : Cell → Bool) (s : Source) → r ≡ vectored cpu barred s
    → ((c : Cell) → barred c ≡ false) → r ≡ Done (vectoring cpu s)
vector_whole r cpu barred s is h =
    let e = vectoring cpu s in
    is
    ∙ ap (λ o. unless_shut o (unless_shut (shut_of barred e.second) (Done e))) (shut_open barred h e.first)
    ∙ ap (λ o. unless_shut o (Done e)) (shut_open barred h e.second)
