use Rattle.m51_chain.proofs.Common.{Err, subst, ◌∙◌, ◌≡◌}
use Rattle.std.proofs.Common.{string_bytes}
use Rattle.m51_shelf.specs.Reading.{IsRead, IsWholeFile}
use Rattle.m51_shelf.proofs.Frames.{reads_then}
use Rattle.m51_chain.proofs.Readings.{given_more, read_more, reads_some, unread}
use Rattle.m51_chain.proofs.reading.read_all.Goals as goal

pub loop-name-preserved : goal.loop-name-preserved
loop-name-preserved g c =
    let text : string_bytes c.into_string.result ≡ c.name-item.result = c.into_string.ensures ∙ c.in_ok-copy.ensures in
    let before = c.loop-name.invariant in
    let whole : IsWholeFile (g.F.Shelf.state c.args.files.now).holds (g.F.Shelf.state c.read_file.new.files).reads
    c.in-Ok.bytes = rw before.frame.holds at c.in-Ok.ensures.read in
    record {
      frame = reads_then (g.F.Shelf.state c.args.files.now) (g.F.Shelf.state c.loop-name.files)
          (g.F.Shelf.state c.read_file.new.files) before.frame c.in-Ok.ensures.frame;
      read = read_more _ _ _ c.loop-name-test.true c.name-item.is before.read (c.in-Ok.ensures.named ∙ text) whole
          c.in_ok-push-in-Ok.ensures.ok;
      reads = reads_some _ _ _ c.loop-name-test.true c.name-item.is before.read _ _ _ before.given text
          c.in-Ok.ensures.given c.in-Ok.ensures.named c.in-Ok.ensures.most;
      given = given_more _ _ _ c.loop-name-test.true c.name-item.is before.read (g.F.Shelf.state c.args.files.now).reads
          _ _ before.given text c.in-Ok.ensures.given c.in_ok-push-in-Ok.ensures.ok;
    }

pub returns-in-Err-clause-read : goal.returns-in-Err-clause-read
returns-in-Err-clause-read g c =
    let named : (g.F.Shelf.state c.read_file.new.files).reads.named ≡ c.name-item.result =
    c.in-Err.ensures.named ∙ c.into_string.ensures ∙ c.in_ok-copy.ensures in
    let before = c.loop-name.invariant in
    unread _ _ _ c.loop-name-test.true c.name-item.is before.read (g.F.Shelf.state c.args.files.now).reads
    (g.F.Shelf.state c.loop-name.files).reads (g.F.Shelf.state c.read_file.new.files).reads c.in-Err.error
    named before.frame.later
    (subst (λ held. IsRead held (g.F.Shelf.state c.loop-name.files).reads
    (g.F.Shelf.state c.read_file.new.files).reads (Err c.in-Err.error)) before.frame.holds c.in-Err.ensures.read)

pub returns-in_err-push-in-Ok-clause-reads : goal.returns-in_err-push-in-Ok-clause-reads
returns-in_err-push-in-Ok-clause-reads g c =
    reads_some _ _ _ c.loop-name-test.true c.name-item.is c.loop-name.invariant.read _ _ _ c.loop-name.invariant.given
    (c.into_string.ensures ∙ c.in_ok-copy.ensures) c.read_file.ensures.given c.read_file.ensures.named
    c.read_file.ensures.most

pub returns-in-Err-clause-reads : goal.returns-in-Err-clause-reads
returns-in-Err-clause-reads g c =
    reads_some _ _ _ c.loop-name-test.true c.name-item.is c.loop-name.invariant.read _ _ _ c.loop-name.invariant.given
    (c.into_string.ensures ∙ c.in_ok-copy.ensures) c.read_file.ensures.given c.read_file.ensures.named
    c.read_file.ensures.most
