-- The two greatest numbers that interrupts add.
use Rattle.m51_stackbound.proofs.Common.{◌≡◌, ◌⊎◌, ◌≢◌, ◌<◌, ◌≤◌, ◌+◌, ◌∙◌, ℕ, List, [], length, get_or, take, sym}
use Rattle.m51_stackbound.proofs.Common.{arith, inl, inr, Contains, cases_lt, common_steps, Rises, AreGreatest}
use Rattle.std.proofs.lemmas.Bool.{le-ltb, lt-ltb}
use Rattle.std.proofs.lemmas.List.{length-take-le}
use Rattle.m51_stackbound.specs.declared.totals.Greatest.{Greatest}
use Rattle.m51_stackbound.specs.Totals.{added, with_bytes, OneAdds, TwoAdd}
use Rattle.m51_stackbound.proofs.Leasts.{front_cases, front_kept, front_next}

module _ (depths : List ℕ) where
  pub greatest_none : AreGreatest depths [] (record { first = 0; second = 0 })
  greatest_none = grind (arith, common_steps)

  module _ (vectors : List ℕ) (i : ℕ) (below : i < length vectors) (rising : Rises vectors) where
    abbrev here : ℕ
    here = get_or vectors i 0

    abbrev bytes : ℕ
    bytes = added depths here

    abbrev front : List ℕ
    front = take i vectors

    abbrev longer : List ℕ
    longer = take (i + 1) vectors

    -- no vector before it is the newest
    fresh : (v : ℕ) → Contains front v → v ≢ here
    fresh v k e =
        let low : k.0 < i = grind (arith, length-take-le) in
        grind (arith, common_steps, rising k.0 i v low below)

    kept : (b : ℕ) → OneAdds depths front b → OneAdds depths longer b
    kept b o = grind (arith, common_steps, front_kept vectors i 0 o.vector below o.listed)

    newest : OneAdds depths longer bytes
    newest = grind (arith, common_steps, here, front_next vectors i 0 below)

    kept_two : (a b : ℕ) → TwoAdd depths front a b → TwoAdd depths longer a b
    unfolding kept
    kept_two a b t = record { first = kept a t.first; second = kept b t.second; different = t.different }

    module _ (g : Greatest) (h : AreGreatest depths front g) where
      -- two numbers that are no less, and no less together
      grown : (first second : ℕ) → (first ≡ 0) ⊎ OneAdds depths longer first
          → (second ≡ 0) ⊎ TwoAdd depths longer first second → second ≤ first → g.first ≤ first → bytes ≤ first
          → g.first + g.second ≤ first + second → bytes + g.first ≤ first + second
          → AreGreatest depths longer (record { first = first; second = second })
      grown first second one two order high more both new = record {
        one = one;
        two = two;
        order = order;
        most = λ v k. grind (arith, front_cases vectors i 0 v below k, h.most v);
        sum = λ v w k m other. elim (front_cases vectors i 0 v below k) [
          | inl old ↦ elim (front_cases vectors i 0 w below m) [
            | inl older ↦ omega (arith, both, h.sum v w old older other)
            | inr e ↦ rw (← e) (omega (arith, new, h.most v old))
          ]
          | inr e ↦ elim (front_cases vectors i 0 w below m) [
            | inl older ↦ rw (← e) (omega (arith, new, h.most w older))
            | inr f ↦ absurd (other (sym e ∙ f))
          ]
        ];
      }

      greater : g.first < bytes → AreGreatest depths longer (record { first = bytes; second = g.first })
      unfolding kept newest
      greater more = grown _ _ (inr newest)
          (elim h.one [
            | inl none ↦ inl none
            | inr o ↦ inr (record {
              first = newest;
              second = kept g.first o;
              different = λ e. fresh o.vector o.listed (sym e);
            })
          ]) (omega arith) (omega arith) (omega arith) (omega (arith, h.order)) (omega arith)

      between : bytes ≤ g.first → g.second < bytes
          → AreGreatest depths longer (record { first = g.first; second = bytes })
      unfolding kept newest
      between few more = grown _ _ (grind (arith, kept g.first))
          (elim h.one [
            | inl none ↦ absurd (omega (arith, none, few))
            | inr o ↦ inr (record { first = kept g.first o; second = newest; different = fresh o.vector o.listed })
          ]) few (omega arith) few (omega arith) (omega arith)

      less : bytes ≤ g.second → AreGreatest depths longer g
      less few = grown g.first g.second (grind (arith, kept g.first)) (grind (arith, kept_two g.first g.second)) h.order
          (omega arith) (omega (arith, h.order)) (omega arith) (omega arith)

      pub greatest_more : AreGreatest depths longer (with_bytes g bytes)
      unfolding with_bytes
      greatest_more = elim (cases_lt g.first bytes) [
        | inl more ↦ rw (lt-ltb g.first bytes more) (greater more)
        | inr few ↦ rw (le-ltb g.first bytes few) (elim (cases_lt g.second bytes) [
          | inl more ↦ rw (lt-ltb g.second bytes more) (between few more)
          | inr low ↦ rw (le-ltb g.second bytes low) (less low)
        ])
      ]
