-- What the lines of a text give to the segments of its module, as the code gathers it line by line.
use Rattle.std.specs.Prelude.{◌≡◌, ℕ, zero, suc, ◌==◌, if◌then◌else◌, List, [], ◌∷◌, ◌++◌, map}
use Rattle.m51_module.specs.declared.source.SourceFile.{SourceFile}
use Rattle.m51_text.specs.Answer.{LineTree, Lines, text_of}
use Rattle.m51_emit.specs.Gathering.{Gathered, PlacedContent, gathered_of}
use Rattle.m51_asm.specs.Assignment.{Assignment}
use Rattle.m51_asm.specs.ObjectSegments.{Kept, kept, object_segments, segment_number}
use Rattle.m51_asm.specs.Pieces.{content_at, offset_at}

-- a segment of this number to which no line has given anything
abbrev pub nothing_in : ℕ → Gathered
nothing_in number = record { segment = number; runs = []; fixups = [] }

-- the first segments of a module, up to this number, to which no line has given anything
abbrev pub nothing_gathered : ℕ → List Gathered
nothing_gathered zero = []
nothing_gathered (suc n) = nothing_gathered n ++ nothing_in (suc n) ∷ []

abbrev pub changed_at : {A : Type 0} → (A → A) → ℕ → List A → List A
changed_at change index [] = []
changed_at change zero (x ∷ xs) = change x ∷ xs
changed_at change (suc index) (x ∷ xs) = x ∷ changed_at change index xs

-- a list with a change of the element of this number, counted from 1; with none where the number is 0
abbrev pub changed_element : {A : Type 0} → (A → A) → ℕ → List A → List A
changed_element change zero xs = xs
changed_element change (suc index) xs = changed_at change index xs

-- what line k gives, with its place from the base of its segment
abbrev pub placed_at : List LineTree → Assignment → ℕ → PlacedContent
placed_at lines a k = (offset_at lines a k, content_at lines a k)

-- what the first k lines give to a segment
unfoldable pub placed_before : List LineTree → Assignment → ℕ → ℕ → List PlacedContent
placed_before lines a id zero = []
placed_before lines a id (suc k) =
    if (a.segment k).id == id
    then placed_before lines a id k ++ placed_at lines a k ∷ []
    else placed_before lines a id k

-- what the first k lines give to a segment of the module
abbrev pub gathered_in : List LineTree → Assignment → ℕ → Kept → Gathered
gathered_in lines a k s =
    gathered_of (object_segments lines a) (segment_number lines a s.id) (placed_before lines a s.id k)

-- what the first k lines give to the segments of the module
abbrev pub gathered_before : List LineTree → Assignment → ℕ → List Gathered
gathered_before lines a k = map (gathered_in lines a k) (kept lines a)

-- the lines of a source with these includes
pub record IsText (lines : List LineTree) : Type 0 where
  pub source : SourceFile
  pub includes : List SourceFile
  pub read : text_of source includes ≡ Lines lines
