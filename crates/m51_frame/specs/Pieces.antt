-- Which pieces of one segment may follow each other: content is cut only where a piece has the most bytes.
use Rattle.std.specs.Prelude.{ℕ, ◌-◌, Bool, ◌==◌, nat_lt, if◌then◌else◌, length}
use Rattle.m51_cells.specs.declared.limits.TheConstants.{MOST_PIECE_BYTES}
use Rattle.m51_module.specs.declared.content.Piece.{Piece}

-- the piece ends below the offset, or has the most bytes of a piece and ends at it
abbrev pub ends_before : Piece → ℕ → Bool
ends_before p offset =
    if length p.bytes == offset - p.offset then length p.bytes == MOST_PIECE_BYTES
    else nat_lt (length p.bytes) (offset - p.offset)
