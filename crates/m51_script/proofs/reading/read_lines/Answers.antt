use Rattle.std.proofs.Common.{◌+◌}
use Rattle.std.specs.Str.Lines.{lines as lines_of}
use Rattle.m51_script.specs.Reading.{script_from, unread}
use Rattle.m51_script.proofs.ReadingLaws.{all_read}
use Rattle.m51_script.proofs.reading.read_lines.Goals as goal

pub returns : goal.returns
returns c = all_read (c.loop-line.number + 1) c.loop-line.reading c.loop-line.rest.now
    (script_from 1 unread (lines_of c.args.bytes.now)) c.in_default.ensures.lines c.loop-line.invariant.told
