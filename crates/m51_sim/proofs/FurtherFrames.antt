-- The further frames of a cycle, one after another.
use Rattle.m51_sim.proofs.Common.{◌≡◌, ℕ, ◌+◌, ◌≤◌, ◌<◌, Bool, List, [], ◌∷◌, ◌++◌, length, take, refl}
use Rattle.m51_sim.proofs.Common.{sym, ap, ◌∙◌, arith, length-append, if◌then◌else◌, frames_in}
use Rattle.std.proofs.Common.{get_or, drop}
use Rattle.std.specs.Prelude.{◌==◌}
use Rattle.std.proofs.lemmas.List.{take-append-drop, take_more}
use Rattle.m51_timers_uart.specs.declared.receiving.Frame.{Frame}
use Rattle.m51_sim.specs.declared.cycles.Timed.{Timed}
use Rattle.m51_sim.specs.Cycles.{AreFew}

joined : (b : Bool) (f : Frame) (xs ys : List Frame)
    → (if b then f ∷ (xs ++ ys) else xs ++ ys) ≡ (if b then f ∷ xs else xs) ++ ys
joined b f xs ys = grind arith

pub frames_join : (cycle : ℕ) (xs ys : List Timed)
    → frames_in cycle (xs ++ ys) ≡ frames_in cycle xs ++ frames_in cycle ys
frames_join cycle [] ys = refl
frames_join cycle (t ∷ ts) ys =
    rw (frames_join cycle ts ys) (joined (t.cycle == cycle) t.frame (frames_in cycle ts) (frames_in cycle ys))

-- with one more
pub frames_more : (cycle : ℕ) (xs : List Timed) (i : ℕ) (d : Timed) → i < length xs
    → frames_in cycle (take (i + 1) xs) ≡ frames_in cycle (take i xs) ++ frames_in cycle (get_or xs i d ∷ [])
frames_more cycle xs i d below = ap (frames_in cycle) (take_more xs i d below)
    ∙ frames_join cycle (take i xs) (get_or xs i d ∷ [])

-- and there is room for it
pub frames_fit : (cycle : ℕ) (xs : List Timed) (i : ℕ) (d : Timed) (count : ℕ) → i < length xs → AreFew xs
    → count ≡ length (frames_in cycle (take i xs)) → count + length (frames_in cycle (get_or xs i d ∷ [])) ≤ 7
frames_fit cycle xs i d count below few is =
    let one = frames_in cycle (get_or xs i d ∷ []) in
    let front = frames_in cycle (take i xs) in
    let more = ap length (frames_more cycle xs i d below) in
    let all = ap length (sym (frames_join cycle (take (i + 1) xs) (drop (i + 1) xs))
    ∙ ap (frames_in cycle) (take-append-drop (i + 1) xs)) in
    omega (
      arith,
      few.each cycle,
      is,
      more,
      all,
      length-append front one,
      length-append (frames_in cycle (take (i + 1) xs)) (frames_in cycle (drop (i + 1) xs)),
    )

-- so a step of the loop continues with it
pub frames_step : (cycle : ℕ) (xs : List Timed) (i : ℕ) (d : Timed) (old new : List Frame) → i < length xs
    → old ≡ frames_in cycle (take i xs) → new ≡ old ++ frames_in cycle (get_or xs i d ∷ [])
    → new ≡ frames_in cycle (take (i + 1) xs)
frames_step cycle xs i d old new below so_far is = rw (frames_more cycle xs i d below, ← so_far) is

pub count_step : (cycle : ℕ) (xs : List Timed) (i : ℕ) (d : Timed) (old new : ℕ) → i < length xs
    → old ≡ length (frames_in cycle (take i xs)) → new ≡ old + length (frames_in cycle (get_or xs i d ∷ []))
    → new ≡ length (frames_in cycle (take (i + 1) xs))
count_step cycle xs i d old new below so_far is =
    omega (
      arith,
      so_far,
      is,
      ap length (frames_more cycle xs i d below),
      length-append (frames_in cycle (take i xs)) (frames_in cycle (get_or xs i d ∷ [])),
    )

-- one frame is not too many
one_or_none : (b : Bool) (f : Frame) → length (if b then f ∷ [] else []) ≤ 7
one_or_none b f = grind arith

pub one_is_few : (t : Timed) → AreFew (t ∷ [])
one_is_few t = record { each = λ cycle. one_or_none (t.cycle == cycle) t.frame }
