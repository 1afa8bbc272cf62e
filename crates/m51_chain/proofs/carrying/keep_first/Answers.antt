use Rattle.m51_chain.proofs.Common.{ap, refl, sym, unkept_text, ◌∙◌, ◌≡◌}
use Rattle.m51_chain.specs.Outcome.{file_of}
use Rattle.m51_chain.proofs.Carries.{unkept_ended}
use Rattle.m51_chain.proofs.carrying.keep_first.Goals as goal

pub returns-in-Err-clause-carried : goal.returns-in-Err-clause-carried
returns-in-Err-clause-carried g c =
    let missed : (g.F.Shelf.state c.keep.new.self).keeps.missed ≡ c.args.file.target =
    c.in-Err.ensures.missed ∙ c.into_string.ensures ∙ c.into_parts-name.ensures.name in
    let text : c.as_slice-in-Err.result.now ≡ unkept_text (g.F.Shelf.state c.keep.new.self).keeps.missed =
    c.as_slice-in-Err.ensures ∙ c.into_parts-name.ensures.text ∙ ap unkept_text (sym missed) in
    rw c.status_told-in-Err.ensures
    (unkept_ended _ _ _ _ _ _
    (record {
      file = file_of c.args.file;
      is = refl;
      rose = c.in-Err.ensures.cause.failed;
      missed = missed;
      kept = c.in-Err.ensures.kept;
    })
    (rw text at c.write.ensures.written))
