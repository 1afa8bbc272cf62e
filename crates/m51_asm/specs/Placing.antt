-- The state after the lines above a line, and what follows for the line from it. The facts are those of the loop over
-- the lines of a text, by the assignment that fits it.
use Rattle.std.specs.Prelude.{◌≡◌, ℕ, suc, ◌+◌, ◌%◌, ◌==◌, ◌&&◌, ◌||◌, ◌≤◌, not, Bool, true, nat_lt, if◌then◌else◌}
use Rattle.std.specs.Prelude.{List, length}
use Rattle.std.specs.Prelude.{Option}
use Rattle.std.specs.Prelude.{Some, None, option_map, is_some}
use Rattle.m51_cells.specs.declared.fault.TheConstants.{BAD_FORM, PAST_THE_END, TOO_MANY}
use Rattle.m51_cells.specs.declared.kind.Base.TheVariants as base
use Rattle.m51_cells.specs.declared.kind.Kind.{Kind}
use Rattle.m51_cells.specs.declared.limits.TheConstants.{MOST_MODULE_SEGMENTS, MOST_EXTERNALS}
use Rattle.m51_cells.specs.Kinds.{is_absolute}
use Rattle.m51_expr.specs.declared.value.Part.TheVariants.{Whole}
use Rattle.m51_expr.specs.declared.value.Value.{Value}
use Rattle.m51_expr.specs.Meanings.{Meanings}
use Rattle.m51_isa.specs.declared.generics.Jump.{Jump}
use Rattle.m51_isa.specs.declared.instr.Instr.{Instr}
use Rattle.m51_isa.specs.Table.{decoded}
use Rattle.m51_emit.specs.Lines.{row_by}
use Rattle.m51_stmt.specs.Statement.{BodyTree, Segment}
use Rattle.m51_text.specs.Answer.{LineTree}
use Rattle.m51_asm.specs.declared.placing.PassOneState.{PassOneState}
use Rattle.m51_asm.specs.declared.counts.Counts.{Counts}
use Rattle.m51_asm.specs.declared.segment_table.SegmentEntry.{SegmentEntry}
use Rattle.m51_asm.specs.declared.segments.SegmentsAbove.{SegmentsAbove}
use Rattle.m51_asm.specs.declared.stepping.LinePlace.{LinePlace}
use Rattle.m51_asm.specs.declared.stepping.LineOutcome.{LineOutcome}
use Rattle.m51_asm.specs.declared.stepping.LineOutcome.TheVariants as outcome
use Rattle.m51_asm.specs.declared.line_facts.LineFacts.{LineFacts}
use Rattle.m51_asm.specs.Definitions.{definition_of}
use Rattle.m51_asm.specs.Assignment.{TextSegment, Assignment, body_at, segment_reloc, here_at, above}
use Rattle.m51_asm.specs.Fitting.{last_absolute, size_at, size_by, filled, bank_by, bank_before, externals_before}
use Rattle.m51_asm.specs.Fitting.{given_to, externals_in}
use Rattle.m51_asm.specs.PlacedFaults.{kind_end, segments_before, operand_fault, placed_fault}
use Rattle.m51_asm.specs.Table.{Table, first_in, first_definition}
use Rattle.m51_asm.specs.ValuesAbove.{value_above}
use Rattle.m51_expr.specs.Located.{located_value}
use Rattle.m51_asm.specs.Values.{value_in}
use Rattle.m51_asm.specs.OpenSegments.{text_segment, last_id, open_behind}
use Rattle.m51_asm.specs.LineFaults.{operand_fault_by}
use Rattle.m51_asm.specs.SegmentTable.{HasDeclared, entry_in, segment_in, size_in, saturated}
use Rattle.m51_asm.specs.GivenValues.{expression_given}
use Rattle.m51_asm.specs.Operands.{operand_number, IsOperand}

-- the table has the first definitions of the text
abbrev pub IsTableOf : List LineTree → Table → Type 0
IsTableOf lines table = (name : List ℕ) → first_in table name ≡ option_map first_definition (definition_of lines name)

-- the table has the segments down to line k, and what the lines above it give to each
pub record IsSegmentTableAt (lines : List LineTree) (a : Assignment) (k : ℕ) (entries : List SegmentEntry)
    : Type 0 where
  pub counted : length entries ≡ length lines + 2
  pub sizes : (id : ℕ) → size_in entries id ≡ filled lines a id k
  pub types : (id : ℕ) → (entry_in entries id).reloc ≡ segment_reloc lines id
  pub declared : HasDeclared lines entries
  pub begun : (j : ℕ) → j ≤ k → segment_in entries (a.segment j).id ≡ a.segment j

-- what is kept of segments is what the lines above line k make of them
pub record AreSegmentsAt (lines : List LineTree) (a : Assignment) (k : ℕ) (s : SegmentsAbove) : Type 0 where
  pub table : IsSegmentTableAt lines a k s.table
  pub current : s.current ≡ (a.segment k).id
  pub latest : (kind : Kind) → last_id s.last kind ≡ option_map (λ t. t.id) (last_absolute a.segment kind k)

-- what is kept is what the lines above line k give
pub record IsAt (lines : List LineTree) (a : Assignment) (k : ℕ) (s : PassOneState) : Type 0 where
  pub known : (name : List ℕ) → option_map located_value (value_in s.values name) ≡ value_above lines a k name
  pub segments : AreSegmentsAt lines a k s.segments
  pub selected : s.bank ≡ bank_before lines a k
  pub numbered : s.numbered ≡ segments_before lines a k
  pub declared : s.externals ≡ externals_before lines k

-- the place of a statement, as a value, from the size of its segment before it
abbrev pub here_of : TextSegment → ℕ → Value
here_of s before = record {
  number = (s.base + before) % 65536;
  class = s.kind;
  base = base.Segment s.id;
  part = Whole;
}

-- a row as it is kept, by its bytes
abbrev pub row_of_code : Option (List ℕ) → Option Instr
row_of_code (Some bytes) = decoded bytes
row_of_code None = None

-- these follow for line k from what names mean, its form, the last absolute segments, the segment that its RSEG names,
-- its own segment, and what it says
pub record AreFactsFrom (k : ℕ) (names : Meanings) (form : Jump) (last : Kind → Option TextSegment)
    (named : Option TextSegment) (segment : TextSegment) (body : BodyTree) (t : LineFacts) : Type 0 where
  pub here : located_value t.here ≡ names.here
  pub row : row_of_code t.code ≡ row_by form body
  pub size : t.size ≡ saturated (size_by names form body)
  pub next : text_segment t.next ≡ open_behind k names last named segment body
  pub operand : IsOperand (operand_fault_by names (is_some named) body) (operand_number names body)
      (expression_given names body) (λ bank. bank_by names bank body) t.operand

-- these are the place, the row and the size of line k, the segment that it leaves open, and its operand
pub record AreLineFacts (lines : List LineTree) (a : Assignment) (k : ℕ) (t : LineFacts) : Type 0 where
  pub here : located_value t.here ≡ here_at a k
  pub row : row_of_code t.code ≡ row_by (a.form k) (body_at lines k)
  pub size : t.size ≡ saturated (size_at lines a k)
  pub next : text_segment t.next ≡ a.segment (suc k)
  pub operand : IsOperand (operand_fault lines (above lines a k) k (body_at lines k))
      (operand_number (above lines a k) (body_at lines k)) (expression_given (above lines a k) (body_at lines k))
      (λ bank. bank_by (above lines a k) bank (body_at lines k)) t.operand

-- the line numbers a segment: it declares one, or gives one that is absolute its first byte or bit
abbrev pub numbers_one : TextSegment → ℕ → ℕ → BodyTree → Bool
numbers_one s before size (Segment name kind reloc overlayable) = true
numbers_one s before size body = is_absolute s.reloc && (before == 0 && not (size == 0))

-- these are counted after a line of this size, from the sizes of the segments, and the segments with a number and the
-- externals, above it
pub record AreCounts (sizes : ℕ → ℕ) (above declared : ℕ) (segment behind : TextSegment) (size : ℕ) (body : BodyTree)
    (c : Counts) : Type 0 where
  pub next : c.next ≡ saturated (sizes behind.id + given_to behind.id segment size)
  pub segments : c.segments ≡ above + (if numbers_one segment (sizes segment.id) size body then 1 else 0)
  pub externals : c.externals ≡ saturated (declared + externals_in body)

-- what is counted down to a line without a fault
pub record AreSmall (c : Counts) : Type 0 where
  pub next : c.next ≤ 65535
  pub segments : c.segments ≤ 255
  pub externals : c.externals ≤ 255

-- what is counted down to line k: the size of the segment that it leaves open, segments with a number, and externals
pub record IsCounted (lines : List LineTree) (a : Assignment) (k : ℕ) (c : Counts) : Type 0 where
  pub next : c.next ≡ saturated (filled lines a (a.segment (suc k)).id (suc k))
  pub segments : c.segments ≡ segments_before lines a (suc k)
  pub externals : c.externals ≡ saturated (externals_before lines (suc k))

-- a segment of this size passes the end of its kind or 65,535 bytes
abbrev pub exceeds_end : TextSegment → ℕ → Bool
exceeds_end s size = nat_lt (kind_end s.kind) (s.base + size) || nat_lt 65535 size

-- these are too many segments or externals
abbrev pub are_too_many : ℕ → ℕ → Bool
are_too_many segments externals = nat_lt MOST_MODULE_SEGMENTS segments || nat_lt MOST_EXTERNALS externals

-- the first fault of a line that repeats nothing: a place past its end, a misplaced statement, too many segments or
-- externals, or that of its operand
abbrev pub fault_by : Bool → Bool → Bool → Option ℕ → Option ℕ
fault_by past misplaced many operand =
    if past then Some PAST_THE_END
    else if misplaced then Some BAD_FORM
    else if many then Some TOO_MANY
    else operand

-- the place of line k: its segment, the size of that before it, its row, the banks before and after it, and the value
-- of its expression where that defines a name
pub record IsPlaceOf (lines : List LineTree) (a : Assignment) (k : ℕ) (p : LinePlace) : Type 0 where
  pub segment : p.segment ≡ (a.segment k).id
  pub offset : p.offset ≡ filled lines a (a.segment k).id k
  pub row : row_of_code p.code ≡ row_by (a.form k) (body_at lines k)
  pub bank : p.bank ≡ bank_before lines a k
  pub selected : p.selected ≡ bank_before lines a (suc k)
  pub given : option_map located_value p.given ≡ expression_given (above lines a k) (body_at lines k)

-- the outcome of a line: its fault; or none, its place, and this is the state after it
abbrev pub IsLineOutcome : List LineTree → Assignment → ℕ → PassOneState → LineOutcome → Type 0
IsLineOutcome lines a k placing (outcome.Fault number) = placed_fault lines a k ≡ Some number
IsLineOutcome lines a k placing (outcome.Placed place) =
    (placed_fault lines a k ≡ None) × IsAt lines a (suc k) placing × IsPlaceOf lines a k place
