use Rattle.std.proofs.Common.{◌≡◌, ◌≤◌, ◌+◌, ◌*◌, length}
use Rattle.std.specs.Str.Lines.{lines}
use Rattle.m51_text.specs.Text.{brought, lines_with, file_lines}
use Rattle.m51_text.specs.Entries.{line_count}
use Rattle.m51_text.specs.Reading.{state_of, state_of_lines}
use Rattle.m51_text.proofs.inserting.+inserting.Given as goal

abbrev pub decreases-read_file : goal.decreases-read_file
decreases-read_file l = 2 * l.levels + 1

abbrev pub decreases-insert : goal.decreases-insert
decreases-insert l = 2 * l.levels

abbrev pub invariant-read_file-loop-text : goal.invariant-read_file-loop-text
invariant-read_file-loop-text l = record {
  state : state_of_lines l.includes (state_of l.reading)
      (lines_with (brought l.includes l.levels) l.levels l.file l.line (lines l.rest))
      ≡ state_of_lines l.includes (state_of l.fn.reading) (file_lines l.includes l.levels l.file l.bytes);
  line : l.line ≤ line_count l.reading.read + 1;
  grows : line_count l.fn.reading.read ≤ line_count l.reading.read;
}

abbrev pub decreases-read_file-loop-text : goal.decreases-read_file-loop-text
decreases-read_file-loop-text l = length l.rest
