use Rattle.m51_party.proofs.Common.{◌∙◌, arith, refl, sym}
use Rattle.m51_party.proofs.Fronts.{at_error}
use Rattle.m51_party.proofs.Progress.{chosen_below, chosen_within, fewer_left, party_few, progress_cut, progress_end}
use Rattle.m51_party.proofs.Progress.{progress_on, progress_start, progress_texts}
use Rattle.m51_party.proofs.running.write_steps.Goals as goal

pub loop-chosen-init : goal.loop-chosen-init
loop-chosen-init g c =
    record {
      count = refl;
      later = omega arith;
      going = progress_start c.args.seats.now c.args.n (g.S.Sink.state c.args.out.now).text;
    }

pub step_at-told-requires-clause-within : goal.step_at-told-requires-clause-within
step_at-told-requires-clause-within g c =
    chosen_within c.args.n c.in-Some.chosen c.loop-chosen.seats (sym c.in-Some.ensures)

pub step_at-told-requires-clause-steps : goal.step_at-told-requires-clause-steps
step_at-told-requires-clause-steps g c =
    λ s found. omega (
      arith,
      chosen_below c.args.n c.in-Some.chosen c.loop-chosen.seats s (sym c.in-Some.ensures) found,
      c.requires.few,
    )

pub write_told-requires : goal.write_told-requires
write_told-requires g c =
    omega (
      arith,
      chosen_within c.args.n c.in-Some.chosen c.loop-chosen.seats (sym c.in-Some.ensures),
      c.loop-chosen.invariant.count,
      party_few c.args.seats.now c.requires.party,
    )

pub loop-chosen-smaller : goal.loop-chosen-smaller
loop-chosen-smaller g c =
    fewer_left c.args.n c.in-Some.chosen c.step_at-told.result c.loop-chosen.seats c.step_at-told.new.seats
    (sym c.in-Some.ensures) c.step_at-told.ensures

pub loop-chosen-preserved : goal.loop-chosen-preserved
loop-chosen-preserved g c = record {
  count = omega (arith, c.step_at-told.auto.seats, c.loop-chosen.invariant.count);
  later = omega (arith, c.in_ok-write_told.ensures.cause.later, c.loop-chosen.invariant.later);
  going = progress_on c.args.seats.now c.loop-chosen.seats c.step_at-told.new.seats c.args.n _ _ _ c.in-Some.chosen
      c.step_at-told.result c.requires.few
      c.loop-chosen.invariant.going (sym c.in-Some.ensures) c.step_at-told.ensures c.in_ok-write_told.ensures.whole;
}

pub returns-in_err-write_told-clause-front : goal.returns-in_err-write_told-clause-front
returns-in_err-write_told-clause-front g c =
    at_error c.from_residual.result _
    (progress_cut c.args.seats.now c.loop-chosen.seats c.step_at-told.new.seats c.args.n _ _ _ c.in-Some.chosen
    c.step_at-told.result c.requires.few
    c.loop-chosen.invariant.going (sym c.in-Some.ensures) c.step_at-told.ensures c.in_err-write_told.ensures.front)

pub returns-clause-whole : goal.returns-clause-whole
returns-clause-whole g c =
    progress_end c.args.seats.now c.loop-chosen.seats c.args.n _ _ c.requires.few c.loop-chosen.invariant.going
    (sym c.next.ensures ∙ c.in_default.is)

pub returns-clause-texts : goal.returns-clause-texts
returns-clause-texts g c =
    progress_texts c.args.seats.now c.loop-chosen.seats c.args.n _ _ c.requires.party c.loop-chosen.invariant.going
