-- Pass 2 over the lines of a text: what is kept of the lines above a line.
use Rattle.std.specs.Prelude.{◌≡◌, ◌<◌, ℕ, ◌++◌, List, [], drop, None}
use Rattle.m51_text.specs.Answer.{LineTree}
use Rattle.m51_asm.specs.declared.contents.Contents.{Contents}
use Rattle.m51_asm.specs.Assignment.{Assignment}
use Rattle.m51_asm.specs.ContentFaults.{made_before, content_fault, faults_from, content_faults}
use Rattle.m51_asm.specs.Parts.{publics_before}
use Rattle.m51_asm.specs.AnswerRows.{rows_from, rows}
use Rattle.m51_asm.specs.ValuesAt.{IsSetAt}

-- before the first line
abbrev pub nothing_given : Contents
nothing_given = record { set = []; made = 0; faults = []; publics = []; rows = [] }

-- what is kept is what the lines above line k give: faults and rows are, before those of the other lines, all of them
pub record IsGivenTo (lines : List LineTree) (a : Assignment) (k : ℕ) (c : Contents) : Type 0 where
  pub sets : IsSetAt lines a k c.set
  pub made : c.made ≡ made_before lines a k
  pub publics : c.publics ≡ publics_before lines a k
  pub faults : c.faults ++ faults_from (content_fault lines a) k (drop k lines) ≡ content_faults lines a
  pub rows : c.rows ++ rows_from lines a k (drop k lines) ≡ rows lines a
  pub clean : c.faults ≡ [] → (j : ℕ) → j < k → content_fault lines a j ≡ None
