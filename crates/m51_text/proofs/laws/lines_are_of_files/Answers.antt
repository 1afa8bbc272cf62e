use Rattle.m51_text.proofs.Numbered.{lines_are_of_files}
use Rattle.m51_text.proofs.laws.lines_are_of_files.Goals as goal

pub returns : goal.returns
returns c = lines_are_of_files
