-- The segments of the module of a text and the numbers of ids, as the code makes them line by line.
use Rattle.std.specs.Prelude.{◌≡◌, ℕ, zero, suc, List, [], ◌∷◌, map, length, slice_get}
use Rattle.std.specs.Prelude.{unwrap_or, Option, Some, None}
use Rattle.m51_module.specs.declared.segment.Segment.{Segment}
use Rattle.m51_stmt.specs.Statement.{BodyTree, Segment as Declares}
use Rattle.m51_text.specs.Answer.{LineTree}
use Rattle.m51_asm.specs.declared.numbering.Numbering.{Numbering}
use Rattle.m51_asm.specs.Assignment.{TextSegment, Assignment}
use Rattle.m51_asm.specs.ObjectSegments.{Kept, relocatable, absolute_of, object_segments, number_in, segment_number}

-- the number of an id in a list of numbers by id, 0 past its end
abbrev pub number_at : List ℕ → ℕ → ℕ
number_at numbers id = unwrap_or (slice_get numbers id) 0

-- the segment of the module that an absolute segment of this size is
abbrev pub segment_filled : TextSegment → ℕ → Option Segment
segment_filled s zero = None
segment_filled s (suc more) = Some (absolute_of s (suc more)).segment

-- the segment of the module that a line declares or begins, by what is kept of its id
abbrev pub segment_added : TextSegment → ℕ → BodyTree → Option Segment
segment_added s size (Declares name kind reloc overlayable) =
    Some (relocatable s.id name kind reloc overlayable size).segment
segment_added s size body = segment_filled s size

-- the segment as a list
abbrev pub as_list : Option Segment → List Segment
as_list None = []
as_list (Some s) = s ∷ []

-- the number of a segment that is added after this number of segments
abbrev pub next_number : ℕ → Option Segment → ℕ
next_number count None = 0
next_number count (Some s) = suc count

-- the segment with its id, as a list
abbrev pub kept_as : ℕ → Option Segment → List Kept
kept_as id None = []
kept_as id (Some s) = record { id = id; segment = s } ∷ []

-- these are the segments of a table, and the numbers of the ids below n
pub record AreNumbered (table : List Kept) (n : ℕ) (segments : List Segment) (numbers : List ℕ) : Type 0 where
  pub same : segments ≡ map (λ s. s.segment) table
  pub counted : length numbers ≡ n
  pub each : (id : ℕ) → number_at numbers id ≡ number_in table id

-- these are the segments of the module, and this is the number of each id
pub record IsNumbering (lines : List LineTree) (a : Assignment) (n : Numbering) : Type 0 where
  pub segments : n.segments ≡ object_segments lines a
  pub each : (id : ℕ) → number_at n.numbers id ≡ segment_number lines a id
