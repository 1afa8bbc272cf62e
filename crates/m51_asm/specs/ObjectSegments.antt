-- The segments of the module of a text and their numbers (this project's rules of segments).
use Rattle.std.specs.Prelude.{ℕ, zero, suc, ◌+◌, ◌==◌, Bool, false, if◌then◌else◌, List, [], ◌∷◌, ◌++◌, map, length}
use Rattle.std.specs.Prelude.{Option, Some, None, option_map}
use Rattle.m51_cells.specs.declared.kind.Kind.{Kind}
use Rattle.m51_cells.specs.declared.kind.Reloc.{Reloc}
use Rattle.m51_cells.specs.declared.kind.Reloc.TheVariants.{Abs}
use Rattle.m51_module.specs.declared.segment.Segment.{Segment}
use Rattle.m51_module.specs.Arguments.{marked}
use Rattle.m51_expr.specs.Meanings.{Meanings}
use Rattle.m51_stmt.specs.Statement.{BodyTree, Segment as Declares}
use Rattle.m51_text.specs.Answer.{LineTree}
use Rattle.m51_asm.specs.Assignment.{TextSegment, Assignment, opening, body_at, everywhere}
use Rattle.m51_asm.specs.Fitting.{filled, declared_in}

-- a segment of the module, with the id that it has in the text
pub record Kept : Type 0 where
  pub id : ℕ
  pub segment : Segment

-- what all lines of the text give to a segment
abbrev pub size_of : List LineTree → Assignment → ℕ → ℕ
size_of lines a id = filled lines a id (length lines)

-- A segment that SEGMENT declares, also where no line gives to it. It is marked as one of arguments where it is
-- OVERLAYABLE DATA and its name says so.
abbrev pub relocatable : ℕ → List ℕ → Kind → Reloc → Bool → ℕ → Kept
relocatable id name kind reloc overlayable size = record {
  id = id;
  segment = marked (record {
    name = name;
    kind = kind;
    reloc = reloc;
    overlay = overlayable;
    argument = false;
    base = 0;
    size = size;
  });
}

-- an absolute segment of this size
abbrev pub absolute_of : TextSegment → ℕ → Kept
absolute_of s size = record {
  id = s.id;
  segment = record {
    name = [];
    kind = s.kind;
    reloc = Abs;
    overlay = false;
    argument = false;
    base = s.base;
    size = size;
  };
}

-- an absolute segment, which a module has where it has a byte or a bit
abbrev pub if_filled : TextSegment → ℕ → List Kept
if_filled s zero = []
if_filled s (suc more) = absolute_of s (suc more) ∷ []

-- the segment that is open after line k, where that line begins it
abbrev pub begun_by : List LineTree → Assignment → ℕ → TextSegment → List Kept
begun_by lines a k s = if s.id == k + 2 then if_filled s (size_of lines a s.id) else []

-- what a line adds to the segments: one that it declares, or an absolute one that it begins
abbrev pub kept_by : List LineTree → Assignment → ℕ → BodyTree → List Kept
kept_by lines a k (Declares name kind reloc overlayable) =
    relocatable (k + 2) name kind reloc overlayable (size_of lines a (k + 2)) ∷ []
kept_by lines a k body = begun_by lines a k (a.segment (suc k))

-- the segments of the first k lines, the opening one before them
unfoldable pub kept_before : List LineTree → Assignment → ℕ → List Kept
kept_before lines a zero = if_filled opening (size_of lines a opening.id)
kept_before lines a (suc k) = kept_before lines a k ++ kept_by lines a k (body_at lines k)

-- the segments that the module has, in the order of the lines that declare or begin them
unfoldable pub kept : List LineTree → Assignment → List Kept
kept lines a = kept_before lines a (length lines)

abbrev pub object_segments : List LineTree → Assignment → List Segment
object_segments lines a = map (λ s. s.segment) (kept lines a)

-- counted from 1, and 0 for none
abbrev pub from_one : Option ℕ → ℕ
from_one None = 0
from_one (Some index) = suc index

-- the index of an id in a table, counted from 0
abbrev pub index_in : List ℕ → ℕ → Option ℕ
index_in [] id = None
index_in (other ∷ more) id = if other == id then Some 0 else option_map (λ n. suc n) (index_in more id)

-- the number of a segment in the module, counted from 1, and 0 where the module does not have it
unfoldable pub number_in : List Kept → ℕ → ℕ
number_in segments id = from_one (index_in (map (λ s. s.id) segments) id)

abbrev pub segment_number : List LineTree → Assignment → ℕ → ℕ
segment_number lines a id = number_in (kept lines a) id

abbrev pub declared_or : List LineTree → ℕ → TextSegment → BodyTree → TextSegment
declared_or lines k after (Declares name kind reloc overlayable) = declared_in lines k kind
declared_or lines k after body = after

-- the segment of an id: that of line k, which declares or begins it, is k + 2
abbrev pub segment_of : List LineTree → Assignment → ℕ → TextSegment
segment_of lines a (suc (suc k)) = declared_or lines k (a.segment (suc k)) (body_at lines k)
segment_of lines a id = opening

-- what names and the place of line k mean where content is made: all names of the text, and the numbers of segments
unfoldable pub final : List LineTree → Assignment → ℕ → Meanings
final lines a k = record (everywhere lines a k) { number = segment_number lines a }
