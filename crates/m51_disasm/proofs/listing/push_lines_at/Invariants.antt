use Rattle.std.proofs.Common.{◌≡◌, ◌++◌, take, map}
use Rattle.m51_disasm.specs.Lines.{line_of}
use Rattle.m51_disasm.specs.Statements.{statement_at}
use Rattle.m51_disasm.specs.Texts.{text_of_lines}
use Rattle.m51_disasm.proofs.listing.push_lines_at.Given as goal

abbrev pub invariant-loop-a : goal.invariant-loop-a
invariant-loop-a l =
    l.text.items ≡ l.initial.text.items
    ++ text_of_lines (map (λ a. line_of l.begins l.led (statement_at l.image l.end a)) (take l.a-index l.at))
