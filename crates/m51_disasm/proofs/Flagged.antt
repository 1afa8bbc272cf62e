-- Flags that are set one after another.
use Rattle.std.proofs.Common.{◌≡◌, ℕ, ◌+◌, ◌<◌, Bool, true, false, ◌||◌, List, [], ◌∷◌, length, get_or, set, take}
use Rattle.std.proofs.Common.{replicate, refl, sym, ap, subst, ◌∙◌, arith, ⊎_elim}
use Rattle.std.specs.Prelude.{◌==◌}
use Rattle.std.proofs.lemmas.Bool.Decides.{eqb_tells}
use Rattle.std.proofs.lemmas.List.{length-replicate, get_or-replicate, length-set, take_more, get_or-set_same}
use Rattle.std.proofs.lemmas.List.{get_or-set_other}
use Rattle.std.proofs.lemmas.List.Folds.{list_any-append}
use Rattle.m51_disasm.specs.Flags.{AreFlags, AreUnset}
use Rattle.m51_disasm.specs.Lines.{is_among}

pub unset : (count : ℕ) (flags : List Bool) → flags ≡ replicate count false → AreUnset count flags
unset count flags e = record {
  len = rw e (length-replicate {A = Bool} count false);
  each = λ address below. rw e (get_or-replicate count address false false below);
}

pub none_set : (addresses : List ℕ) (flags : List Bool) → AreUnset 65536 flags → AreFlags (take 0 addresses) flags
none_set addresses flags h = record { len = h.len; each = λ address below. h.each address below }

set_here : (b c : Bool) → c ≡ true → (b || (c || false)) ≡ true
set_here true c e = refl
set_here false true e = refl
set_here false false e = absurd (cc e)

not_here : (b c : Bool) → c ≡ false → (b || (c || false)) ≡ b
not_here true c e = refl
not_here false true e = absurd (cc e)
not_here false false e = refl

pub one_set : (addresses : List ℕ) (flags : List Bool) (i : ℕ) → i < length addresses → get_or addresses i 0 < 65536
    → AreFlags (take i addresses) flags → AreFlags (take (i + 1) addresses) (set flags (get_or addresses i 0) true)
one_set addresses flags i below fits h =
    let x : ℕ = get_or addresses i 0 in
    let more : (a : ℕ) → is_among (take (i + 1) addresses) a ≡ (is_among (take i addresses) a || ((x == a) || false)) =
    λ a. ap (λ l. is_among l a) (take_more addresses i 0 below)
    ∙ list_any-append (λ b. b == a) (take i addresses) (x ∷ []) in
    record {
      len = length-set flags x true ∙ h.len;
      each = λ a inside.
          ⊎_elim
          (λ (t : ((x == a) ≡ true) × (x ≡ a)).
          subst (λ n. get_or (set flags n true) a false ≡ true) (sym t.1)
          (get_or-set_same flags a true false (omega (arith, h.len, inside)))
          ∙ sym (more a ∙ set_here (is_among (take i addresses) a) (x == a) t.0))
          (λ (t : ((x == a) ≡ false) × (x ≡ a → ⊥)).
          get_or-set_other flags x a true false (λ e. t.1 (sym e))
          ∙ h.each a inside ∙ sym (more a ∙ not_here (is_among (take i addresses) a) (x == a) t.0))
          (eqb_tells x a);
    }
