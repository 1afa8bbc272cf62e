-- A text whose lines are placed and whose segments have numbers: the state for pass 2.
use Rattle.std.specs.Prelude.{◌≡◌, List, map}
use Rattle.m51_text.specs.Answer.{LineTree, line_tree}
use Rattle.m51_asm.specs.declared.numbering.PlacedText.{PlacedText}
use Rattle.m51_asm.specs.Assignment.{Assignment}
use Rattle.m51_asm.specs.Fitting.{mod51, Fits}
use Rattle.m51_asm.specs.Placing.{IsTableOf}
use Rattle.m51_asm.specs.Passing.{IsPlaced}
use Rattle.m51_asm.specs.Numbering.{IsNumbering}

-- What is kept of a text is what it gives under an assignment that fits it: its names, whether those of the 8052 are
-- predefined, the places of the lines and what all of them give, and the numbers of segments.
pub record IsAssignedText (lines : List LineTree) (a : Assignment) (t : PlacedText) : Type 0 where
  pub read : map line_tree t.text.lines.now ≡ lines
  pub fits : Fits lines a
  pub names : IsTableOf lines t.text.names.now
  pub predefined : t.text.mod51 ≡ mod51 lines
  pub placed : IsPlaced lines a t.places.now t.end.now
  pub numbered : IsNumbering lines a t.numbering.now
