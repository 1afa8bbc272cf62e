-- The source that is chosen is the first that may be taken; where none may be taken, none is chosen.
use Rattle.std.proofs.Common.{◌≡◌, ◌≤◌, Bool, true, false, cond, Option, Some, None, refl, ap, subst, arith}
use Rattle.std.proofs.lemmas.Bool.{and_parts}
use Rattle.m51_flat.specs.declared.state.Cpu.{Cpu}
use Rattle.m51_flat.specs.declared.state.Source.{Source}
use Rattle.m51_flat.specs.declared.state.Level.{Level}
use Rattle.m51_flat.specs.declared.state.Level.TheVariants.{Low, High}
use Rattle.m51_irq.specs.Sources.{asks, level_of, enable_bit}
use Rattle.m51_irq.specs.Choice.{MayInterrupt, IsTaken, asks_at, chosen, first_asking, is_allowed, is_same_level}
use Rattle.m51_irq.specs.Choice.{or_else, turn_in, turn_of}
use Rattle.m51_irq.specs.Laws.{FirstIsChosen, NoneOverHigh}
use Rattle.m51_irq.proofs.Finding.{Found, IsFirst, below_6, found, same_source}

same_level : (l m : Level) → is_same_level l m ≡ true → l ≡ m
same_level l m h = grind (arith, h)

-- a source that asks, by its level
pub asks_in : (cpu : Cpu) (l : Level) (s : Source) → asks cpu s ≡ true → level_of cpu s ≡ l → asks_at cpu l s ≡ true
asks_in cpu Low s h is = rw (h, is) refl
asks_in cpu High s h is = rw (h, is) refl

-- the turn of the first source of a level, where for the low one none of the high level asks
turns : (cpu : Cpu) (s t : Source) (l m : Level) → level_of cpu s ≡ l → level_of cpu t ≡ m
    → IsFirst (asks_at cpu l) s → asks cpu t ≡ true → (l ≡ Low → asks_at cpu High t ≡ false)
    → turn_of cpu s ≤ turn_of cpu t
turns cpu s t High Low is there first asking none = rw (is, there) (omega (arith, below_6 s))
turns cpu s t Low High is there first asking none =
    let yes = asks_in cpu High t asking there in let never = none refl in cc (yes, never)
turns cpu s t High High is there first asking none = rw (is, there) (first.least t (asks_in cpu High t asking there))
turns cpu s t Low Low is there first asking none =
    let order = first.least t (asks_in cpu Low t asking there) in rw (is, there) (omega (arith, order))

taken : (cpu : Cpu) (s : Source) (l : Level) → cpu.held ≡ false → is_allowed cpu l ≡ true
    → IsFirst (asks_at cpu l) s → (l ≡ Low → (u : Source) → asks_at cpu High u ≡ false) → IsTaken cpu s
taken cpu s l free allowed first none =
    let tests = and_parts (asks cpu s) (is_same_level (level_of cpu s) l) first.passes in
    let is = same_level (level_of cpu s) l tests.1 in
    record {
      free = free;
      ready = record { asking = tests.0; allowed = rw is allowed };
      first = λ t ready. turns cpu s t l (level_of cpu t) is refl first ready.asking (λ low. none low t);
    }

-- the choice, over what is in progress and what was found of each level
abbrev choice : Bool → Bool → Bool → Option Source → Option Source → Option Source
choice held high low a b = cond held None (cond high None (or_else a (cond low None b)))

abbrev Answers : Cpu → Option Source → Type 0
Answers cpu None = (s : Source) → IsTaken cpu s → ⊥
Answers cpu (Some s) = IsTaken cpu s

-- over the high level none may be taken; else one of the high level, or one of the low level that is not in progress
over_high : (cpu : Cpu) (l : Level) → cpu.high ≡ true → is_allowed cpu l ≡ true → ⊥
over_high cpu l h k = grind (arith, h, k)

allowed_low : (cpu : Cpu) → cpu.low ≡ false → cpu.high ≡ false → is_allowed cpu Low ≡ true
allowed_low cpu l h = rw (l, h) refl

none_low : (cpu : Cpu) (s : Source) (l : Level) → ((u : Source) → asks_at cpu High u ≡ false)
    → (cpu.low ≡ false → (u : Source) → asks_at cpu Low u ≡ false) → level_of cpu s ≡ l → MayInterrupt cpu s → ⊥
none_low cpu s High a b is ready = let yes = asks_in cpu High s ready.asking is in let never = a s in cc (yes, never)
none_low cpu s Low a b is ready =
    let allowed : is_allowed cpu Low ≡ true = rw is at ready.allowed in
    let free : cpu.low ≡ false = grind (arith, allowed) in
    let yes = asks_in cpu Low s ready.asking is in
    let never = b free s in cc (yes, never)

answers : (cpu : Cpu) (held high low : Bool) (a b : Option Source) → cpu.held ≡ held → cpu.high ≡ high → cpu.low ≡ low
    → Found (asks_at cpu High) a → Found (asks_at cpu Low) b → Answers cpu (choice held high low a b)
answers cpu true high low a b e f g p q = λ s w. let free = w.free in cc (e, free)
answers cpu false true low a b e f g p q = λ s w. over_high cpu (level_of cpu s) f w.ready.allowed
answers cpu false false low (Some u) b e f g p q = taken cpu u High e (rw f refl) p (λ h. cc h)
answers cpu false false true None b e f g p q =
    λ s w. none_low cpu s (level_of cpu s) p (λ free. cc (g, free)) refl w.ready
answers cpu false false false None (Some u) e f g p q = taken cpu u Low e (allowed_low cpu g f) q (λ low. p)
answers cpu false false false None None e f g p q = λ s w. none_low cpu s (level_of cpu s) p (λ free. q) refl w.ready

answered : (cpu : Cpu) → Answers cpu (chosen cpu)
unfolding chosen
answered cpu =
    answers cpu cpu.held cpu.high cpu.low (first_asking cpu High) (first_asking cpu Low) refl refl refl
    (found (asks_at cpu High)) (found (asks_at cpu Low))

pub is_taken : (cpu : Cpu) (s : Source) → chosen cpu ≡ Some s → IsTaken cpu s
is_taken cpu s h = subst (Answers cpu) h (answered cpu)

none_by : (cpu : Cpu) (o : Option Source) → ((s : Source) → IsTaken cpu s → ⊥) → Answers cpu o → o ≡ None
none_by cpu None never a = refl
none_by cpu (Some s) never a = absurd (never s a)

pub none_taken : (cpu : Cpu) → ((s : Source) → IsTaken cpu s → ⊥) → chosen cpu ≡ None
none_taken cpu never = none_by cpu (chosen cpu) never (answered cpu)

-- two sources with the same turn are the same
same_turn : (s t : Source) (l m : Level) → turn_in l (enable_bit s) ≡ turn_in m (enable_bit t) → s ≡ t
same_turn s t Low Low h = same_source s t (omega (arith, h))
same_turn s t High High h = same_source s t h
same_turn s t Low High h = absurd (omega (arith, h, below_6 t))
same_turn s t High Low h = absurd (omega (arith, h, below_6 s))

chosen_is : (cpu : Cpu) (s : Source) (o : Option Source) → Answers cpu o → IsTaken cpu s → o ≡ Some s
chosen_is cpu s None none w = absurd (none s w)
chosen_is cpu s (Some u) other w =
    let same : turn_of cpu u ≡ turn_of cpu s = omega (arith, other.first s w.ready, w.first u other.ready) in
    ap Some (same_turn u s (level_of cpu u) (level_of cpu s) same)

pub first_is_chosen : FirstIsChosen
first_is_chosen = λ cpu s. (is_taken cpu s, chosen_is cpu s (chosen cpu) (answered cpu))

pub none_is_chosen : NoneOverHigh
none_is_chosen = λ cpu h. none_taken cpu (λ s w. over_high cpu (level_of cpu s) h w.ready.allowed)
