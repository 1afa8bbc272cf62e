use Rattle.std.proofs.Common.{◌≡◌, inl, inr, ℕ, Bool, sym, ap, subst, ◌∙◌, arith}
use Rattle.std.proofs.lemmas.Bool.{cases_eq}
use Rattle.m51_relations.specs.OwnerPairs.{related_by}
use Rattle.m51_relations.specs.Rows.{pairs}
use Rattle.m51_relations.proofs.owner_pairs.related_pairs.Goals as goal

pub loop-unit-init : goal.loop-unit-init
loop-unit-init c = record {
  count = c.in_ok-set.ensures.count ∙ c.from.ensures ∙ c.count.ensures.count;
  done = λ u v below below'. absurd (omega (arith, below));
  rest = λ u v past. ap (λ (p : ℕ → ℕ → Bool). p u v) c.in_ok-set.ensures.pairs;
}

pub loop-unit-preserved : goal.loop-unit-preserved
loop-unit-preserved c =
    let unit : ℕ = c.loop-unit.unit in
    let test : ℕ → ℕ → Bool = λ u v. related_by (pairs c.args.reach.now) c.args.under.now v u in
    record {
      count = c.put_related.ensures.count ∙ c.loop-unit.invariant.count;
      done = λ u v below below'. elim (cases_eq u unit) [
        | inl here ↦ subst (λ w. pairs c.put_related.new.set w v ≡ test w v) (sym here)
            (c.put_related.ensures.done v (omega (arith, below', c.loop-unit.invariant.count)))
        | inr other ↦ c.put_related.ensures.others u v other
            ∙ c.loop-unit.invariant.done u v (omega (arith, below, other)) below'
      ];
      rest = λ u v past. c.put_related.ensures.others u v (λ e. absurd (omega (arith, e, past)))
          ∙ c.loop-unit.invariant.rest u v (omega (arith, past));
    }
