use Rattle.std.proofs.Common.{◌≡◌, ◌+◌, ◌≤◌, length}
use Rattle.std.specs.Str.Lines.{lines as lines_of}
use Rattle.m51_script.specs.Reading.{IsRead, script_from, unread}
use Rattle.m51_script.proofs.reading.read_lines.Given as goal

abbrev pub invariant-loop-line : goal.invariant-loop-line
invariant-loop-line l = record {
  kept : IsRead l.reading;
  lines : l.number + length (lines_of l.rest) ≤ 65536;
  told : script_from (l.number + 1) l.reading (lines_of l.rest) ≡ script_from 1 unread (lines_of l.bytes);
}

abbrev pub decreases-loop-line : goal.decreases-loop-line
decreases-loop-line l = length l.rest
