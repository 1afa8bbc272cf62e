-- A value past 16 bits stays past them.
use Rattle.std.proofs.Common.{◌≡◌, ℕ, ◌+◌, ◌*◌, ◌<◌, ◌≤◌, Bool, true, false, cond, nat_lt, List, [], ◌∷◌, Option, Some}
use Rattle.std.proofs.Common.{None, refl, ap, ◌∙◌, length, drop, slice_index, arith}
use Rattle.std.proofs.Math.Nat.{mul-le-mul_left}
use Rattle.std.specs.Char.{digit_value}
use Rattle.m51_lex.specs.Number.{of_16_bits, value_in}
use Rattle.std.proofs.lemmas.Grind.{common_steps}

grows : (base v d : ℕ) → 1 ≤ base → 65535 < v → 65535 < v * base + d
grows base v d h large = omega (arith, large, mul-le-mul_left v h)

no_16_bits : (v : ℕ) → 65535 < v → of_16_bits (Some v) ≡ None
no_16_bits v large = grind (arith, common_steps)

either : (b : Bool) (x : Option ℕ) → of_16_bits x ≡ None → of_16_bits (cond b x None) ≡ None
either true x h = h
either false x h = refl

pub too_large : (base v : ℕ) (cs : List ℕ) → 1 ≤ base → 65535 < v → of_16_bits (value_in base v cs) ≡ None
too_large base v [] h large = no_16_bits v large
too_large base v (c ∷ cs) h large =
    either (nat_lt (digit_value c) base) _
    (too_large base (v * base + digit_value c) cs h (grows base v (digit_value c) h large))

-- a digit that takes the value past 16 bits
pub over : (base v i digit : ℕ) (digits : List ℕ) → i < length digits → 1 ≤ base → digit
    ≡ digit_value (slice_index digits i) → 65535 < v * base + digit → of_16_bits (value_in base v (drop i digits))
    ≡ None
over base v i digit digits inside h is large =
    let d = slice_index digits i in
    let front : drop i digits ≡ d ∷ drop (i + 1) digits = grind (arith, common_steps) in
    ap (λ l. of_16_bits (value_in base v l)) front
    ∙ either (nat_lt (digit_value d) base) _
    (too_large base (v * base + digit_value d) (drop (i + 1) digits) h (omega (arith, large, is)))
