use Rattle.std.proofs.Common.{◌≡◌}
use Rattle.m51_text.specs.Answer.{text_of}
use Rattle.m51_text.specs.Entries.{read_entries}
use Rattle.m51_text.specs.Reading.{state_of, told}
use Rattle.m51_text.proofs.WholeText.{told_whole}
use Rattle.m51_text.proofs.answering.read_text.Goals as goal

pub returns : goal.returns
returns c =
    let whole : told (read_entries c.in_ok-kept.kept) ≡ text_of c.args.source.now c.args.includes.now =
    told_whole c.args.source.now c.args.includes.now (state_of c.new-reading.result) (state_of c.read_file.new.reading)
    _ (read_entries c.in_ok-kept.kept) c.new-reading.ensures c.as_slice.ensures
    c.in_ok-read_file.ensures.state c.in_ok-kept.ensures in
    rw whole at c.told.ensures
