use Rattle.m51_graph.proofs.Common.{◌||◌, ℕ, Bool, List, length, sym, take, ap, ◌∙◌, Control, cuts, is_cut}
use Rattle.std.proofs.lemmas.List.Folds.{list_any_more}
use Rattle.m51_graph.proofs.drawing.cut_rows.Goals as goal

pub loop-line-init : goal.loop-line-init
loop-line-init c = record {
  count = c.in_ok-set.ensures.count ∙ ap (λ (names : List (List ℕ)). length names) c.titles.ensures.titles;
  pairs = λ u v i. c.in_ok-set.ensures.pairs i u v;
}

pub loop-line-preserved : goal.loop-line-preserved
loop-line-preserved c =
    let l = c.loop-line in
    let test : ℕ → ℕ → ℕ × Control → Bool = λ u v line. cuts c.args.titles.now (u, v) line.1 in
    record {
      count = c.put_cut.ensures.count ∙ l.invariant.count;
      pairs = λ u v.
          c.put_cut.ensures.pairs u v ∙ ap (λ b. b || test u v c.line-item.result) (l.invariant.pairs u v)
          ∙ ap (λ (line : ℕ × Control). is_cut c.args.titles.now (take l.line-index c.args.controls.now) (u, v)
          || test u v line) c.line-item.is
          ∙ sym (list_any_more (test u v) c.args.controls.now l.line-index c.line-item.result c.loop-line-test.true);
    }
