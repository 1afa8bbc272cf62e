use Rattle.std.proofs.Common.{◌≡◌, ◌||◌, ◌&&◌, ℕ, List, [], length, get_or, refl, ap, subst, ◌∙◌, arith}
use Rattle.std.proofs.lemmas.List.{get_or_default}
use Rattle.m51_relations.specs.Bits.{bit, words_for}
use Rattle.m51_relations.specs.Rows.{AreWide, pair_at}
use Rattle.m51_relations.proofs.PassedOn.{passed_first, passed_more}
use Rattle.m51_relations.proofs.bit_rows.pass_all.Goals as goal

pub loop-k-init : goal.loop-k-init
loop-k-init c = record {
  len = refl;
  wide = c.requires.wide;
  passed = λ u v below. passed_first (pair_at c.args.tests.now) (pair_at c.args.others.now)
      (pair_at c.args.rows.now) u v;
}

pub loop-k-preserved : goal.loop-k-preserved
loop-k-preserved c =
    let k : ℕ = c.loop-k.k in
    let others = c.args.others.now in
    let old = c.loop-k.rows in
    let new = c.pass_tested.new.rows in
    let other = c.index-others-k.result in
    let is : other ≡ get_or others k [] = c.index-others-k.is ∙ get_or_default others k other [] c.loop-k-test.true in
    let wide : length other ≡ words_for (length others) = ap (λ (row : List ℕ). length row) is
    ∙ c.requires.others.wide k c.loop-k-test.true in
    record {
      len = c.pass_tested.ensures.len ∙ c.loop-k.invariant.len;
      wide = subst (λ n. AreWide n new) wide c.pass_tested.ensures.wide;
      passed = λ u v below.
          passed_more (pair_at c.args.tests.now) (pair_at others) (pair_at c.args.rows.now) k u v (pair_at old u v)
          (pair_at new u v)
          (c.pass_tested.ensures.joined u v (omega (arith, below, c.loop-k.invariant.len))
          ∙ ap (λ (row : List ℕ). pair_at old u v || (pair_at c.args.tests.now u k && bit row v)) is)
          (c.loop-k.invariant.passed u v below);
    }
