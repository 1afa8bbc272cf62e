-- Which texts write a control: the grammar of control lines, apart from how they are read.
use Rattle.std.specs.Prelude.{◌≡◌, ℕ, ◌<◌, ◌≤◌, true, List, [], ◌∷◌, ◌++◌, length, codes, Some}
use Rattle.std.specs.List.{list_all, join_with_byte}
use Rattle.m51_cells.specs.declared.cell.Space.{Space}
use Rattle.m51_cells.specs.Name.{name_of}
use Rattle.m51_control.specs.declared.control.Control.{Control}
use Rattle.m51_control.specs.declared.control.Control.TheVariants.{Add, Cut, NoOverlay, Reserve, Order}
use Rattle.m51_control.specs.declared.control.Class.{Class}
use Rattle.m51_control.specs.declared.naming.Role.{Role}
use Rattle.m51_control.specs.declared.naming.Role.TheVariants as role
use Rattle.m51_cells.specs.Blanks.{is_blank}
use Rattle.m51_cells.specs.declared.limits.TheConstants.{MOST_LINE_BYTES}
use Rattle.m51_control.specs.Parts.{open_parenthesis, close_parenthesis, comma, hyphen, greater, tilde}
use Rattle.m51_control.specs.Naming.{name_as}
use Rattle.m51_control.specs.Reserve.{IsRange, assembler_number, space_of}
use Rattle.m51_control.specs.Grammar.{class_named}

-- only blanks, or nothing
abbrev pub AreBlanks : List ℕ → Type 0
AreBlanks text = list_all is_blank text ≡ true

-- the text is the part, with blanks before and after it
pub record Surrounds (part text : List ℕ) : Type 0 where
  pub before : List ℕ
  pub after : List ℕ
  pub blank_before : AreBlanks before
  pub blank_after : AreBlanks after
  pub is : text ≡ before ++ (part ++ after)

-- the text writes the name of a unit or of a segment
pub record WritesName (r : Role) (text name : List ℕ) : Type 0 where
  pub part : List ℕ
  pub surrounds : Surrounds part text
  pub is : name_as r part ≡ Some name

-- each of the texts writes one of the names
abbrev pub AreNames : Role → List (List ℕ) → List (List ℕ) → Type 0
AreNames r [] [] = Unit {0}
AreNames r (text ∷ texts) (name ∷ names) = WritesName r text name × AreNames r texts names
AreNames r _ _ = ⊥

-- the text writes one or more names, with commas between them
pub record WritesNames (r : Role) (text : List ℕ) (names : List (List ℕ)) : Type 0 where
  pub texts : List (List ℕ)
  pub some : 0 < length texts
  pub is : text ≡ join_with_byte comma texts
  pub each : AreNames r texts names

-- the text writes the word, in either case
pub record WritesWord (text word : List ℕ) : Type 0 where
  pub part : List ℕ
  pub surrounds : Surrounds part text
  pub is : name_of part ≡ Some word

-- the text writes the number
pub record WritesNumber (text : List ℕ) (number : ℕ) : Type 0 where
  pub part : List ℕ
  pub surrounds : Surrounds part text
  pub is : assembler_number part ≡ Some number

-- what a word and a text in parentheses write
pub data Says (word inside : List ℕ) (control : Control) : Type 0 where
  -- OVERLAY(u > v, w)
  Adds : {left right from : List ℕ} {to : List (List ℕ)} → word ≡ codes "OVERLAY" → WritesName role.Unit left from
      → WritesNames role.Unit right to → inside ≡ left ++ greater ∷ right → control ≡ Add from to
      → Says word inside control
  -- OVERLAY(u ~ v, w)
  Cuts : {left right from : List ℕ} {to : List (List ℕ)} → word ≡ codes "OVERLAY" → WritesName role.Unit left from
      → WritesNames role.Unit right to → inside ≡ left ++ tilde ∷ right → control ≡ Cut from to
      → Says word inside control
  -- NOOVERLAY(u)
  Keeps : {unit : List ℕ} → word ≡ codes "NOOVERLAY" → WritesName role.Unit inside unit → control ≡ NoOverlay unit
      → Says word inside control
  -- RESERVE(memory(lo-hi))
  Reserves : {text memory lo hi : List ℕ} {space : Space} {low high : ℕ} (blanks : List ℕ)
      → word ≡ codes "RESERVE" → WritesWord text memory → space_of memory ≡ Some space
      → WritesNumber lo low → WritesNumber hi high → IsRange space low high → AreBlanks blanks
      → inside ≡ text ++ open_parenthesis ∷ (lo ++ hyphen ∷ hi ++ close_parenthesis ∷ blanks) → control
      ≡ Reserve space low high
      → Says word inside control
  -- ORDER(class, s, t)
  Orders : {text name list : List ℕ} {class : Class} {segments : List (List ℕ)} → word ≡ codes "ORDER"
      → WritesWord text name → class_named name ≡ Some class
      → WritesNames role.Segment list segments → inside ≡ text ++ comma ∷ list → control ≡ Order class segments
      → Says word inside control

-- The line writes the control: a word in either case, blanks, and a text in parentheses; nothing is before or after
-- them.
pub record SpellsLine (line : List ℕ) (control : Control) : Type 0 where
  pub short : length line ≤ MOST_LINE_BYTES
  pub part : List ℕ
  pub word : List ℕ
  pub blanks : List ℕ
  pub inside : List ℕ
  pub is_word : name_of part ≡ Some word
  pub blank : AreBlanks blanks
  pub is : line ≡ part ++ blanks ++ open_parenthesis ∷ (inside ++ close_parenthesis ∷ [])
  pub says : Says word inside control
