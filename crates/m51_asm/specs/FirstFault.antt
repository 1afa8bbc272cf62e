-- The answer of a text by its first fault that follows from the lines above.
use Rattle.std.specs.Prelude.{◌≡◌, ℕ, ◌<◌, List, [], ◌∷◌, length, Some, None, slice_get}
use Rattle.m51_text.specs.Answer.{LineTree}
use Rattle.m51_asm.specs.Assignment.{Assignment}
use Rattle.m51_asm.specs.PlacedFaults.{placed_fault}
use Rattle.m51_asm.specs.ContentFaults.{fault_of_line, content_faults}
use Rattle.m51_asm.specs.Answer.{Faults, answer_of_lines, content_or_faults}

-- no line above line k has a fault
abbrev pub AreFree : List LineTree → Assignment → ℕ → Type 0
AreFree lines a k = (j : ℕ) → j < k → placed_fault lines a j ≡ None

-- The fault is that of line k, and no line above has one.
pub record IsFirstFault (lines : List LineTree) (a : Assignment) (k number : ℕ) : Type 0 where
  pub within : k < length lines
  pub found : placed_fault lines a k ≡ Some number
  pub earlier : AreFree lines a k

-- The first fault that follows from the lines above is the answer.
abbrev pub FaultIsAnswer : Type 0
FaultIsAnswer =
    (file : List ℕ) (lines : List LineTree) (a : Assignment) (k number : ℕ) (line : LineTree)
    → slice_get lines k ≡ Some line
    → IsFirstFault lines a k number → answer_of_lines file lines a ≡ Faults (fault_of_line line number ∷ [])

-- Where no line has one, the answer is that of the content.
abbrev pub ContentIsAnswer : Type 0
ContentIsAnswer =
    (file : List ℕ) (lines : List LineTree) (a : Assignment) → AreFree lines a (length lines)
    → answer_of_lines file lines a ≡ content_or_faults file lines a (content_faults lines a)
