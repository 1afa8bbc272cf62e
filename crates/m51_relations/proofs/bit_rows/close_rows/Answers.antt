use Rattle.std.proofs.Common.{◌≡◌, ◌<◌, ℕ, List, [], length, get_or, ap, subst, ◌∙◌, arith}
use Rattle.std.proofs.lemmas.List.{get_or_default}
use Rattle.m51_relations.specs.Bits.{words_for}
use Rattle.m51_relations.specs.Rows.{AreWide}
use Rattle.m51_relations.proofs.BitLaws.{close_first, close_more}
use Rattle.m51_relations.proofs.bit_rows.close_rows.Goals as goal

pub loop-k-init : goal.loop-k-init
loop-k-init c = record { rows = c.requires; closed = close_first _ }

pub loop-k-preserved : goal.loop-k-preserved
loop-k-preserved c =
    let rows = c.loop-k.rows in
    let k : ℕ = c.loop-k.k in
    let below : k < length rows = omega (arith, c.loop-k-test.true, c.loop-k.auto.rows) in
    let through : c.in_ok-through.through ≡ get_or rows k [] = c.in_ok-through.ensures
    ∙ get_or_default rows k c.index-rows-k.result [] below in
    let wide : length c.in_ok-through.through ≡ words_for (length c.args.rows.now) =
    ap (λ (row : List ℕ). length row) through ∙ c.loop-k.invariant.rows.wide k below in
    record {
      rows = record {
        few = c.loop-k.invariant.rows.few;
        len = c.pass.ensures.len ∙ c.loop-k.invariant.rows.len;
        wide = subst (λ n. AreWide n c.pass.new.rows) wide c.pass.ensures.wide;
      };
      closed = close_more _ k rows c.pass.new.rows c.in_ok-through.through through c.loop-k.invariant.closed
          c.pass.ensures.joined;
    }
