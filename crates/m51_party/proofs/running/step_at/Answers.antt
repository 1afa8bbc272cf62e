use Rattle.m51_party.proofs.Common.{List, refl, subst, sym, Timed, IsSeatStep}
use Rattle.std.specs.Prelude.{slice_index_or}
use Rattle.m51_sim.specs.Cycles.{AreFew}
use Rattle.m51_party.proofs.OnTheLine.{kept_are_few, seat_read}
use Rattle.m51_party.proofs.running.step_at.Goals as goal

pub step-requires-clause-few : goal.step-requires-clause-few
step-requires-clause-few c =
    subst AreFew (sym c.kept_for-further.ensures.frames)
    (kept_are_few c.args.index c.args.seats.now c.requires.within c.requires.few)

pub step-requires-clause-steps : goal.step-requires-clause-steps
step-requires-clause-steps c =
    c.requires.steps _ (seat_read c.args.seats.now c.args.index c.index-seats-index.result c.requires.within)

pub returns : goal.returns
returns c = record {
  old = slice_index_or c.args.seats.now c.args.index c.index-seats-index.result;
  new = c.step.new.self;
  found = seat_read c.args.seats.now c.args.index c.index-seats-index.result c.requires.within;
  step = subst (λ (ts : List Timed). IsSeatStep ts c.step.result
      (slice_index_or c.args.seats.now c.args.index c.index-seats-index.result) c.step.new.self)
      c.kept_for-further.ensures.frames c.step.ensures;
  others = refl;
}
