use Rattle.std.proofs.Common.{rules, ◌++◌, take, sym, ap, ◌∙◌, subst}
use Rattle.std.proofs.lemmas.List.{take_rest}
use Rattle.std.specs.Io.KnownBytes.{Appends}
use Rattle.std.proofs.KnownBytes.{Appends-trans}
use lib.Seq.{take-add}
use Rattle.m51_shelf.proofs.stdout.write_on.Goals as goal

pub loop-done-preserved-in-Ok : goal.loop-done-preserved-in-Ok
loop-done-preserved-in-Ok g c =
    let done = c.loop-done.done in
    let piece = c.args.piece.now in
    let front = ap (λ part. take done piece ++ take c.in-Ok.count part) (take_rest piece done)
    ∙ sym (take-add done c.in-Ok.count piece) in
    record {
      within = search rules;
      tries = search rules;
      put = subst (Appends _ _) front (Appends-trans _ _ _ _ _ c.loop-done.invariant.put c.in-Ok.ensures.bytes);
    }
