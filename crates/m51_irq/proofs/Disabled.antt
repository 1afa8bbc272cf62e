-- Where no source asks, as where EA is 0, none is chosen; nor over the low level where no source has the high one.
use Rattle.std.proofs.Common.{◌≡◌, Bool, true, false, Option, Some, None, refl, arith, subst}
use Rattle.std.specs.List.{find}
use Rattle.std.proofs.Math.Bool.{and-false}
use Rattle.std.proofs.lemmas.Nat.Bits.{bit_at-zero}
use Rattle.m51_flat.specs.declared.state.Cpu.{Cpu}
use Rattle.m51_flat.specs.declared.state.Source.{Source}
use Rattle.m51_flat.specs.declared.state.Level.{Level}
use Rattle.m51_flat.specs.declared.state.Level.TheVariants.{Low, High}
use Rattle.m51_flat.specs.Sfr.{flag, latch}
use Rattle.m51_irq.specs.Sources.{asks, level_of, enable_bit, sources}
use Rattle.m51_irq.specs.Choice.{MayInterrupt, asks_at, chosen, first_asking, is_allowed, none_asks}
use Rattle.m51_irq.proofs.ChoiceLaws.{asks_in, none_taken}
use Rattle.m51_irq.proofs.Finding.{Found, found}

disabled : (cpu : Cpu) (s : Source) → flag cpu 168 7 ≡ false → asks cpu s ≡ true → ⊥
unfolding asks
disabled cpu s h k = grind (arith, h, k)

pub none_enabled : (cpu : Cpu) → flag cpu 168 7 ≡ false → chosen cpu ≡ None
none_enabled cpu h = none_taken cpu (λ s w. disabled cpu s h w.ready.asking)

none_of : (cpu : Cpu) (s : Source) → none_asks cpu ≡ true → asks cpu s ≡ true → ⊥
none_of cpu s h k = grind (arith, h, k)

pub none_asked : (cpu : Cpu) → none_asks cpu ≡ true → chosen cpu ≡ None
none_asked cpu h = none_taken cpu (λ s w. none_of cpu s h w.ready.asking)

-- no bit of IP is 1
low : (cpu : Cpu) → latch cpu 184 ≡ 0 → (s : Source) → asks_at cpu High s ≡ false
unfolding level_of flag
low cpu h s = rw (h, bit_at-zero (enable_bit s)) (and-false (asks cpu s))

none_found : (p : Source → Bool) (o : Option Source) → ((s : Source) → p s ≡ false) → Found p o → o ≡ None
none_found p None never f = refl
none_found p (Some s) never f = let yes = f.passes in let not = never s in cc (yes, not)

pub none_high : (cpu : Cpu) → latch cpu 184 ≡ 0 → first_asking cpu High ≡ None
none_high cpu h =
    none_found (asks_at cpu High) (find (asks_at cpu High) sources) (low cpu h) (found (asks_at cpu High))

over_low : (cpu : Cpu) (s : Source) (l : Level) → cpu.low ≡ true → ((u : Source) → asks_at cpu High u ≡ false)
    → level_of cpu s ≡ l → MayInterrupt cpu s → ⊥
over_low cpu s High h none is ready =
    let yes = asks_in cpu High s ready.asking is in let never = none s in cc (yes, never)
over_low cpu s Low h none is ready =
    let allowed : is_allowed cpu Low ≡ true = rw is at ready.allowed in grind (arith, h, allowed)

pub none_over_low : (cpu : Cpu) → cpu.low ≡ true → first_asking cpu High ≡ None → chosen cpu ≡ None
none_over_low cpu progress none =
    none_taken cpu (λ s w. over_low cpu s (level_of cpu s) progress
    (subst (Found (asks_at cpu High)) none (found (asks_at cpu High))) refl w.ready)
