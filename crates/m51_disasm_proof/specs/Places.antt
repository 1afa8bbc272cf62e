-- The spots of the lines of a disassembly: CSEG begins a segment at its base, and a statement is after the bytes of
-- those before it.
use Rattle.std.specs.Prelude.{◌≡◌, ℕ, suc, ◌+◌, List, [], ◌∷◌, length, flat_map}
use Rattle.m51_cells.specs.declared.kind.Kind.TheVariants as kind
use Rattle.m51_disasm.specs.declared.line.SourceLine.{SourceLine}
use Rattle.m51_disasm.specs.declared.line.SourceLine.TheVariants as line
use Rattle.m51_disasm.specs.declared.part.CodeRange.{CodeRange}
use Rattle.m51_disasm.specs.Lines.{part_lines}
use Rattle.m51_disasm.specs.Statements.{length_in}
use Rattle.m51_asm.specs.Assignment.{TextSegment, Assignment, absolute}

-- a segment, and an address in it
pub record Spot : Type 0 where
  pub segment : TextSegment
  pub address : ℕ

-- the segment after line k, which is in this one
abbrev pub segment_after : ℕ → TextSegment → SourceLine → TextSegment
segment_after k segment (line.Segment base) = absolute (k + 2) kind.Code base
segment_after k segment other = segment

-- how many bytes a line has
abbrev pub line_size : SourceLine → ℕ
line_size (line.Statement s) = length_in s.content
line_size other = 0

-- the address after a line at this one
abbrev pub place_after : ℕ → SourceLine → ℕ
place_after address (line.Segment base) = base
place_after address other = address + line_size other

-- the spots of these lines, the first of which is line k in this segment, at this address
abbrev pub spots_from : ℕ → TextSegment → ℕ → List SourceLine → List Spot
spots_from k segment address [] = []
spots_from k segment address (l ∷ lines) =
    record { segment = segment; address = address }
    ∷ spots_from (suc k) (segment_after k segment l) (place_after address l) lines

-- how many lines are before the CSEG of a part, from the parts before it
abbrev pub lines_before : List ℕ → List CodeRange → ℕ
lines_before image before = suc (length (flat_map (part_lines image) before))

-- line k is in this spot
pub record IsSpot (a : Assignment) (k : ℕ) (spot : Spot) : Type 0 where
  pub segment : a.segment k ≡ spot.segment
  pub address : a.place k ≡ spot.address
