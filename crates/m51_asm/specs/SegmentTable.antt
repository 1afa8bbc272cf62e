-- The table of the segments of a text, as the code keeps it: an entry for each id.
use Rattle.std.specs.Prelude.{◌≡◌, ℕ, ◌+◌, ◌-◌, ◌^◌, Bool, min, List, ◌∷◌, map, slice_get, slice_set, unwrap_or}
use Rattle.m51_cells.specs.declared.kind.Kind.{Kind}
use Rattle.m51_cells.specs.declared.kind.Kind.TheVariants as kind
use Rattle.m51_cells.specs.declared.kind.Reloc.{Reloc}
use Rattle.m51_cells.specs.declared.kind.Reloc.TheVariants.{Abs}
use Rattle.m51_stmt.specs.Statement.{BodyTree, Segment}
use Rattle.m51_text.specs.Answer.{LineTree}
use Rattle.m51_asm.specs.declared.segment_table.SegmentEntry.{SegmentEntry}
use Rattle.m51_asm.specs.Assignment.{TextSegment, body_at}
use Rattle.m51_asm.specs.Fitting.{declared_in}

-- a size as far as 64 bits hold it
abbrev pub saturated : ℕ → ℕ
saturated n = min n (2 ^ 64 - 1)

-- that of the segment that is open at the start, and of an id that no line has begun
abbrev pub empty_entry : SegmentEntry
empty_entry = record { kind = kind.Code; reloc = Abs; base = 0; size = 0 }

abbrev pub declared_entry : BodyTree → SegmentEntry
declared_entry (Segment name kind reloc overlayable) = record { kind = kind; reloc = reloc; base = 0; size = 0 }
declared_entry body = empty_entry

-- the entries of a text before its first line: those of the segments that SEGMENT declares
abbrev pub declared_entries : List LineTree → List SegmentEntry
declared_entries lines = empty_entry ∷ empty_entry ∷ map (λ line. declared_entry line.stmt.body) lines

abbrev pub entry_in : List SegmentEntry → ℕ → SegmentEntry
entry_in entries id = unwrap_or (slice_get entries id) empty_entry

abbrev pub size_in : List SegmentEntry → ℕ → ℕ
size_in entries id = (entry_in entries id).size

-- the segment of an entry
abbrev pub segment_as : ℕ → SegmentEntry → TextSegment
segment_as id e = record { id = id; kind = e.kind; reloc = e.reloc; base = e.base }

-- the segment of an id
abbrev pub segment_in : List SegmentEntry → ℕ → TextSegment
segment_in entries id = segment_as id (entry_in entries id)

-- the entries with this segment at its id, and its size
abbrev pub with_entry : List SegmentEntry → TextSegment → ℕ → List SegmentEntry
with_entry entries s size =
    slice_set entries s.id (record { kind = s.kind; reloc = s.reloc; base = s.base; size = size })

-- what is kept of the segments that SEGMENT declares is what their lines say
abbrev pub HasDeclared : List LineTree → List SegmentEntry → Type 0
HasDeclared lines entries =
    (k : ℕ) (name : List ℕ) (kind : Kind) (reloc : Reloc) (overlayable : Bool)
    → body_at lines k ≡ Segment name kind reloc overlayable
    → segment_in entries (k + 2) ≡ declared_in lines k kind
