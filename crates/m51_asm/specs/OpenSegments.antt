-- Segments as the code keeps them, and the segment that a line leaves open by what is kept of the lines above.
use Rattle.std.specs.Prelude.{◌≡◌, ℕ, ◌+◌, nat_lt, if◌then◌else◌, List, Option, Some, None, option_map, unwrap_or}
use Rattle.m51_cells.specs.declared.kind.Kind.{Kind}
use Rattle.m51_cells.specs.declared.kind.Kind.TheVariants as kind
use Rattle.m51_cells.specs.Kinds.{is_absolute}
use Rattle.m51_expr.specs.Meanings.{Meanings}
use Rattle.m51_stmt.specs.Statement.{BodyTree, Org, Rseg, Select}
use Rattle.m51_text.specs.Answer.{LineTree}
use Rattle.m51_asm.specs.declared.definitions.How.{How}
use Rattle.m51_asm.specs.declared.definitions.How.TheVariants as how
use Rattle.m51_asm.specs.declared.names.FirstDefinition.{FirstDefinition}
use Rattle.m51_asm.specs.declared.segments.OpenSegment.{OpenSegment}
use Rattle.m51_asm.specs.declared.segments.LastAbsolute.{LastAbsolute}
use Rattle.m51_asm.specs.declared.segments.SegmentsAbove.{SegmentsAbove}
use Rattle.m51_asm.specs.declared.segment_table.SegmentEntry.{SegmentEntry}
use Rattle.m51_asm.specs.Definitions.{definition_of}
use Rattle.m51_asm.specs.Assignment.{TextSegment, Assignment, absolute, body_at, above, number_or_zero}
use Rattle.m51_asm.specs.Fitting.{is_absolute_of, last_absolute, declared, segment_behind}
use Rattle.m51_asm.specs.SegmentTable.{segment_in, HasDeclared}
use Rattle.m51_asm.specs.Table.{first_definition}

-- a segment as it is kept
abbrev pub text_segment : OpenSegment → TextSegment
text_segment s = record { id = s.id; kind = s.kind; reloc = s.reloc; base = s.base }

abbrev pub declared_how : ℕ → How → Option ℕ
declared_how line (how.Segment kind) = Some (line + 2)
declared_how line how = None

-- the id of the segment that a SEGMENT above line k declares under a name of this first definition
abbrev pub declared_first : ℕ → Option FirstDefinition → Option ℕ
declared_first k (Some first) = if nat_lt first.line k then declared_how first.line first.how else None
declared_first k None = None

-- the id of the last absolute segment of a kind, after one more segment
abbrev pub last_with : TextSegment → (Kind → Option ℕ) → Kind → Option ℕ
last_with s last kind = if is_absolute_of kind s then Some s.id else last kind

-- the id of the last absolute segment of a kind, as it is kept
abbrev pub last_id : LastAbsolute → Kind → Option ℕ
last_id last kind.Code = last.code
last_id last kind.Xdata = last.xdata
last_id last kind.Direct = last.direct
last_id last kind.Idata = last.idata
last_id last kind.Bits = last.bits
last_id last kind.Number = last.number

-- the last absolute segment of a kind
abbrev pub last_in : SegmentsAbove → Kind → Option TextSegment
last_in s kind = option_map (segment_in s.table) (last_id s.last kind)

-- the segment that is open
abbrev pub current_in : SegmentsAbove → TextSegment
current_in s = segment_in s.table s.current

-- the segment after line k, by what the line says, where an RSEG names a declared segment or none
abbrev pub open_behind :
    ℕ → Meanings → (Kind → Option TextSegment) → Option TextSegment → TextSegment → BodyTree → TextSegment
open_behind k names last named segment (Rseg name) = unwrap_or named segment
open_behind k names last named segment (Select kind (Some e)) = absolute (k + 2) kind (number_or_zero names e)
open_behind k names last named segment (Select kind None) = unwrap_or (last kind) (absolute (k + 2) kind 0)
open_behind k names last named segment (Org e) =
    if is_absolute segment.reloc then absolute (k + 2) segment.kind (number_or_zero names e) else segment
open_behind k names last named segment body = segment

abbrev pub named_by : {A : Type 0} → (List ℕ → Option A) → BodyTree → Option A
named_by declared (Rseg name) = declared name
named_by declared body = None

-- By what is kept, a line leaves open the segment that the definitions say.
abbrev pub OpenIsBehind : Type 0
OpenIsBehind =
    (lines : List LineTree) (a : Assignment) (k : ℕ)
    → open_behind k (above lines a k) (λ kind. last_absolute a.segment kind k)
    (named_by (λ name. declared lines name k) (body_at lines k)) (a.segment k) (body_at lines k)
    ≡ segment_behind lines a k

-- Whether a name is a declared segment follows from its first definition and the table of segments.
abbrev pub DeclaredIsTold : Type 0
DeclaredIsTold =
    (lines : List LineTree) (segments : List SegmentEntry) → HasDeclared lines segments
    → (name : List ℕ) (k : ℕ)
    → option_map (segment_in segments) (declared_first k (option_map first_definition (definition_of lines name)))
    ≡ declared lines name k
