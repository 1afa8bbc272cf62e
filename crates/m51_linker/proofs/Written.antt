-- Stretches that are put into the memory, one after another.
use Rattle.std.proofs.Common.{◌≡◌, inl, inr, ℕ, ◌+◌, ◌-◌, ◌<◌, ◌≤◌, Bool, cond, List, [], ◌∷◌, ◌++◌, length, Option}
use Rattle.std.proofs.Common.{Some, None, refl, sym, ap, ◌∙◌, arith}
use Rattle.std.specs.Prelude.{slice_get}
use Rattle.std.specs.Option.{option_or}
use Rattle.std.proofs.lemmas.Bool.{cases_lt}
use Rattle.std.proofs.lemmas.Bool.Decides.{leb_tells}
use Rattle.std.proofs.lemmas.Option.{slice_get-get_or, slice_get_past}
use Rattle.m51_linker.specs.Memory.{AreWritten, IsPut}
use Rattle.m51_linker.specs.Stretches.{byte_among, byte_in, Stretch}

or_assoc : (a b c : Option ℕ) → option_or (option_or a b) c ≡ option_or a (option_or b c)
or_assoc None b c = refl
or_assoc (Some x) b c = refl

or_none : (a : Option ℕ) → option_or a None ≡ a
or_none None = refl
or_none (Some x) = refl

-- the byte of the stretches before and after
pub among-append : (xs ys : List Stretch) (address : ℕ)
    → byte_among (xs ++ ys) address ≡ option_or (byte_among ys address) (byte_among xs address)
among-append [] ys address = sym (or_none (byte_among ys address))
among-append (x ∷ xs) ys address =
    ap (λ (o : Option ℕ). option_or o (byte_in x address)) (among-append xs ys address)
    ∙ or_assoc (byte_among ys address) (byte_among xs address) (byte_in x address)

-- more are put
pub written_more : (xs ys : List Stretch) (old mid new : ℕ → Option ℕ) → AreWritten xs old mid → AreWritten ys mid new
    → AreWritten (xs ++ ys) old new
written_more xs ys old mid new h k = record {
  each = λ address.
      k.each address
      ∙ ap (λ (o : Option ℕ). option_or (byte_among ys address) o) (h.each address)
      ∙ sym (or_assoc (byte_among ys address) (byte_among xs address) (old address))
      ∙ ap (λ (o : Option ℕ). option_or o (old address)) (sym (among-append xs ys address));
}

-- the bytes of one stretch are put
byte_below : (at : ℕ) (bytes : List ℕ) (address : ℕ) → address < at
    → byte_in (record { at = at; bytes = bytes }) address ≡ None
byte_below at bytes address less =
    elim (leb_tells at address) [
      | inl from ↦ absurd (omega (arith, less, from.1))
      | inr below ↦ ap (λ (b : Bool). cond b (slice_get bytes (address - at)) None) below.0
    ]

byte_from : (at : ℕ) (bytes : List ℕ) (address : ℕ) → at ≤ address
    → byte_in (record { at = at; bytes = bytes }) address ≡ slice_get bytes (address - at)
byte_from at bytes address less =
    elim (leb_tells at address) as
    (λ _. byte_in (record { at = at; bytes = bytes }) address ≡ slice_get bytes (address - at)) [
      | inl from ↦ ap (λ (b : Bool). cond b (slice_get bytes (address - at)) None) from.0
      | inr below ↦ absurd (omega (arith, less, below.1))
    ]

pub put_written : (at : ℕ) (bytes : List ℕ) (count : ℕ) (old new : ℕ → Option ℕ) → count ≡ length bytes
    → IsPut at bytes count old new
    → AreWritten (record { at = at; bytes = bytes } ∷ []) old new
put_written at bytes count old new whole h = record {
  each = λ address.
      let given : Option ℕ = byte_in (record { at = at; bytes = bytes }) address in
      elim (cases_lt address at) [
        | inl less ↦ h.before address less
            ∙ ap (λ (o : Option ℕ). option_or o (old address)) (sym (byte_below at bytes address less))
        | inr from ↦ elim (cases_lt (address - at) (length bytes)) as
            (λ _. new address ≡ option_or given (old address)) [
              | inl inside ↦
                  let k : ℕ = address - at in
                  let is : address ≡ at + k = omega (arith, from) in
                  ap new is ∙ h.put k (omega (arith, inside, whole))
                  ∙ ap (λ (o : Option ℕ). option_or o (old address))
                  (sym (byte_from at bytes address from ∙ slice_get-get_or bytes k 0 inside))
              | inr past ↦
                  h.after address (omega (arith, from, past, whole))
                  ∙ ap (λ (o : Option ℕ). option_or o (old address))
                  (sym (byte_from at bytes address from ∙ slice_get_past bytes (address - at) past))
            ]
      ];
}
