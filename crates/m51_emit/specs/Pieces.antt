-- Runs of bytes, and the pieces and fixups that they become (this project's rules of content).
use Rattle.std.specs.Prelude.{ℕ, ◌+◌, ◌-◌, ◌*◌, ◌/◌, ◌==◌, if◌then◌else◌, List, [], ◌∷◌, ◌++◌, map, length, take, drop}
use Rattle.std.specs.Prelude.{Option, Some, None}
use Rattle.std.specs.List.{range_with_len}
use Rattle.m51_cells.specs.declared.kind.Base.{Base}
use Rattle.m51_cells.specs.declared.kind.Base.TheVariants as base
use Rattle.m51_cells.specs.declared.limits.TheConstants.{MOST_PIECE_BYTES}
use Rattle.m51_module.specs.declared.content.Fixup.{Fixup}
use Rattle.m51_module.specs.declared.content.Piece.{Piece}
use Rattle.m51_module.specs.declared.segment.Segment.{Segment}
use Rattle.m51_module.specs.Validity.{numbered}
use Rattle.m51_emit.specs.Content.{ReferenceAt}
use Rattle.m51_emit.specs.PublicNames.{from_base}

-- bytes that follow one another, with the place of the first
abbrev pub Run : Type 0
Run = ℕ × List ℕ

-- bytes before runs: in one with the next where they end at its first byte
abbrev pub before_runs : ℕ → List ℕ → List Run → List Run
before_runs at bytes [] = (at, bytes) ∷ []
before_runs at bytes (next ∷ more) =
    if at + length bytes == next.0 then (at, bytes ++ next.1) ∷ more else (at, bytes) ∷ next ∷ more

abbrev pub if_bytes : ℕ → List ℕ → List Run → List Run
if_bytes at [] runs = runs
if_bytes at (byte ∷ bytes) runs = before_runs at (byte ∷ bytes) runs

-- part `index` of a run that is cut into parts of `most` bytes
abbrev pub part_at : ℕ → ℕ → Run → ℕ → Piece
part_at most segment run index = record {
  segment = segment;
  offset = run.0 + most * index;
  bytes = take most (drop (most * index) run.1);
}

-- piece `index` of a run: it begins 1,024 * `index` bytes after the first byte
abbrev pub piece_at : ℕ → Run → ℕ → Piece
piece_at segment run index = part_at MOST_PIECE_BYTES segment run index

-- how many parts of `most` bytes a run of `bytes` bytes has; the last may be shorter
abbrev pub part_count : ℕ → ℕ → ℕ
part_count most bytes = (bytes + (most - 1)) / most

-- the pieces of a run: 1,024 bytes each, but for the last
abbrev pub pieces_of_run : ℕ → Run → List Piece
pieces_of_run segment run = map (piece_at segment run) (range_with_len 0 (part_count MOST_PIECE_BYTES (length run.1)))

abbrev pub base_or_zero : Option Segment → ℕ
base_or_zero (Some s) = s.base
base_or_zero None = 0

-- the address that a segment of the module begins at, 0 where the link places it
abbrev pub target_base : List Segment → Base → ℕ
target_base segments (base.Segment number) = base_or_zero (numbered segments number)
target_base segments target = 0

-- the fixup of a reference to a target with this base, in a segment, whose line lies at that place
abbrev pub fixup_to : ℕ → ℕ → ℕ → ReferenceAt → Fixup
fixup_to target segment at r = record {
  segment = segment;
  offset = at + r.0;
  form = r.1.form;
  bit = r.1.bit;
  target = r.1.base;
  addend = from_base target r.1.number;
}

-- the fixup of a reference in a segment of these, whose line lies at that place
abbrev pub fixup_of : List Segment → ℕ → ℕ → ReferenceAt → Fixup
fixup_of segments segment at r = fixup_to (target_base segments r.1.base) segment at r
