use Rattle.std.proofs.Common.{arith, length, length-drop, ◌+◌, drop, sym, subst, ap, ◌∙◌}
use Rattle.std.proofs.lemmas.List.{take_rest}
use Rattle.m51_lex.specs.Tokens.{AreSlices, put_front, tokens_at}
use Rattle.m51_lex.proofs.Cuts.{slices_within, slices_more, slices_push, blank_step, token_step}
use Rattle.m51_lex.proofs.cutting.cut.Goals as goal

pub loop-at-preserved-in-Blank : goal.loop-at-preserved-in-Blank
loop-at-preserved-in-Blank c = record {
  within = omega (arith, c.loop-at-test.true);
  told = blank_step c.loop-at.at c.args.line.now _ c.loop-at.out.items _ (omega (arith, c.loop-at-test.true))
      (take_rest c.args.line.now c.loop-at.at)
      (sym c.lexeme_of.ensures.lexeme ∙ c.in-Blank.is) c.loop-at.invariant.told;
  slices = slices_more 0 c.loop-at.at (c.loop-at.at + 1) c.loop-at.out.items c.loop-at.invariant.slices (omega arith);
}

pub loop-at-preserved : goal.loop-at-preserved
loop-at-preserved c =
    let at = c.loop-at.at in
    let len = c.in-Token.len in
    record {
      within = omega (
        arith,
        c.in-Token.ensures.fits,
        c.loop-at-test.true,
        ap length (take_rest c.args.line.now at),
        length-drop at c.args.line.now,
      );
      told = ap
          (λ l. put_front l (tokens_at 0 (at + len) (drop (at + len) c.args.line.now)))
          c.in_ok-push-in-Token.ensures.items
          ∙ token_step at c.args.line.now _ c.loop-at.out.items _ c.in-Token.what len
          (omega (arith, c.loop-at-test.true)) (take_rest c.args.line.now at)
          (sym c.lexeme_of.ensures.lexeme ∙ c.in-Token.is)
          (omega (arith, c.in-Token.ensures.fits)) c.loop-at.invariant.told;
      slices = subst (λ l. AreSlices 0 (at + len) l) (sym c.in_ok-push-in-Token.ensures.items)
          (slices_push 0 at (at + len) c.loop-at.out.items _ c.loop-at.invariant.slices (omega arith)
          (omega (arith, c.in-Token.ensures.fits)) (omega arith));
    }

pub returns-in-Comment-clause-slices : goal.returns-in-Comment-clause-slices
returns-in-Comment-clause-slices c =
    slices_more 0 c.loop-at.at
    (length c.args.line.now) c.loop-at.out.items c.loop-at.invariant.slices c.loop-at.invariant.within

pub returns-in-Comment-clause-within : goal.returns-in-Comment-clause-within
returns-in-Comment-clause-within c =
    slices_within c.loop-at.out.items 0 (length c.args.line.now)
    (slices_more 0 c.loop-at.at
    (length c.args.line.now) c.loop-at.out.items c.loop-at.invariant.slices c.loop-at.invariant.within)

pub returns-clause-within : goal.returns-clause-within
returns-clause-within c =
    slices_within c.loop-at.out.items 0 (length c.args.line.now)
    (slices_more 0 c.loop-at.at
    (length c.args.line.now) c.loop-at.out.items c.loop-at.invariant.slices c.loop-at.invariant.within)
