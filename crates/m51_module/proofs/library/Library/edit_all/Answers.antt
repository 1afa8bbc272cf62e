use Rattle.std.proofs.Common.{◌≡◌, length, take, Result, Ok, Err, OnErr, refl, ◌∙◌, sym, ap}
use Rattle.std.proofs.lemmas.Iterator.Adapters.{YieldsList-from_vec}
use Rattle.std.proofs.lemmas.Iterator.Consumers.{YieldsList-so_far}
use Rattle.std.proofs.lemmas.List.Folds.{map_fixed}
use Rattle.m51_module.specs.Edits.{after_edit}
use Rattle.m51_module.proofs.Held.{edits_more}
use Rattle.m51_module.proofs.library.Library.edit_all.Goals as goal

at_error : {A E P : Type 0} (r : Result A E) → P → OnErr r P
at_error (Ok value) h = tt
at_error (Err error) h = h

pub loop-edit-preserved : goal.loop-edit-preserved
loop-edit-preserved c =
    c.in_ok-edit.ensures.ok ∙ ap (λ ms. after_edit ms c.in-Some.edit) c.loop-edit.invariant
    ∙ sym (edits_more c.args.self.now c.loop-edit.yielded c.in-Some.edit)

pub returns-in_err-edit-clause-err : goal.returns-in_err-edit-clause-err
returns-in_err-edit-clause-err c =
    let i = c.into_iter-edit-iterator.ensures.into_iter_gives in
    let so_far = YieldsList-so_far (YieldsList-from_vec c.args.edits.items i.0 (i.1 ∙ c.args.edits.ok.0))
    c.loop-edit.yielded _ c.loop-edit.yielded_by in
    let done : c.loop-edit.yielded ≡ take (length c.loop-edit.yielded) c.args.edits.items =
    sym (map_fixed (λ edit. edit) c.loop-edit.yielded (λ k d lt. refl)) ∙ so_far in
    at_error c.from_residual.result (
      length c.loop-edit.yielded,
      rw (← done) (c.in_err-edit.ensures.err ∙ c.loop-edit.invariant),
    )
