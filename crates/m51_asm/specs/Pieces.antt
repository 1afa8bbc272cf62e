-- The pieces and fixups that the lines give (this project's rules of content).
use Rattle.std.specs.Prelude.{ℕ, suc, ◌==◌, if◌then◌else◌, List, [], ◌∷◌, ◌++◌, map, flat_map}
use Rattle.m51_module.specs.declared.content.Fixup.{Fixup}
use Rattle.m51_module.specs.declared.content.Piece.{Piece}
use Rattle.m51_text.specs.Answer.{LineTree}
pub use Rattle.m51_emit.specs.Pieces.{Run, before_runs, if_bytes, piece_at, pieces_of_run, base_or_zero, target_base}
pub use Rattle.m51_emit.specs.Pieces.{fixup_of}
use Rattle.m51_emit.specs.declared.content.EmittedContent.{EmittedContent}
use Rattle.m51_emit.specs.Content.{content_by}
use Rattle.m51_asm.specs.Assignment.{Assignment, body_at}
use Rattle.m51_asm.specs.Fitting.{filled}
use Rattle.m51_asm.specs.ObjectSegments.{Kept, kept, object_segments, segment_number, final}

-- the bytes and references of line k
unfoldable pub content_at : List LineTree → Assignment → ℕ → EmittedContent
content_at lines a k = content_by (final lines a k) (a.form k) (body_at lines k)

-- the place of line k, from the base of its segment
abbrev pub offset_at : List LineTree → Assignment → ℕ → ℕ
offset_at lines a k = filled lines a (a.segment k).id k

-- the runs of the bytes that these lines, from line k on, give to a segment
abbrev pub runs_from : List LineTree → Assignment → ℕ → ℕ → List LineTree → List Run
runs_from lines a id k [] = []
runs_from lines a id k (line ∷ more) =
    if (a.segment k).id == id
    then if_bytes (offset_at lines a k) (content_at lines a k).bytes (runs_from lines a id (suc k) more)
    else runs_from lines a id (suc k) more

-- the pieces of a segment
abbrev pub segment_pieces : List LineTree → Assignment → Kept → List Piece
segment_pieces lines a s = flat_map (pieces_of_run (segment_number lines a s.id)) (runs_from lines a s.id 0 lines)

-- the pieces of a text, by segment and place
abbrev pub pieces : List LineTree → Assignment → List Piece
pieces lines a = flat_map (segment_pieces lines a) (kept lines a)

-- the fixups of line k in a segment
abbrev pub line_fixups : List LineTree → Assignment → ℕ → ℕ → List Fixup
line_fixups lines a segment k =
    map (fixup_of (object_segments lines a) segment (offset_at lines a k)) (content_at lines a k).references

-- the fixups that these lines, from line k on, give to a segment
abbrev pub fixups_from : List LineTree → Assignment → Kept → ℕ → List LineTree → List Fixup
fixups_from lines a s k [] = []
fixups_from lines a s k (line ∷ more) =
    if (a.segment k).id == s.id
    then line_fixups lines a (segment_number lines a s.id) k ++ fixups_from lines a s (suc k) more
    else fixups_from lines a s (suc k) more

-- the fixups of a text, by segment and place
abbrev pub fixups : List LineTree → Assignment → List Fixup
fixups lines a = flat_map (λ s. fixups_from lines a s 0 lines) (kept lines a)
