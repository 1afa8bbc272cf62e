-- How the content of a segment grows from line to line, and the content of a module (this project's rules of content).
use Rattle.std.specs.Prelude.{ℕ, List, [], ◌∷◌, ◌++◌, map, flat_map}
use Rattle.m51_module.specs.declared.content.Fixup.{Fixup}
use Rattle.m51_module.specs.declared.content.Piece.{Piece}
use Rattle.m51_module.specs.declared.segment.Segment.{Segment}
use Rattle.m51_emit.specs.Content.{EmittedContent}
use Rattle.m51_emit.specs.Pieces.{Run, before_runs, if_bytes, pieces_of_run, fixup_of}

-- what lines give to a segment of the module, which is known by its number: runs of bytes, and fixups
pub record Gathered : Type 0 where
  pub segment : ℕ
  pub runs : List Run
  pub fixups : List Fixup

-- content of a line, with its place in the segment
abbrev pub PlacedContent : Type 0
PlacedContent = ℕ × EmittedContent

abbrev pub run_of : PlacedContent → Run
run_of x = (x.0, x.1.bytes)

-- these bytes as runs: those that follow one another are one
abbrev pub runs_of : List Run → List Run
runs_of [] = []
runs_of (x ∷ xs) = if_bytes x.0 x.1 (runs_of xs)

-- the fixups of these lines of a segment
abbrev pub fixups_of : List Segment → ℕ → List PlacedContent → List Fixup
fixups_of segments segment xs = flat_map (λ x. map (fixup_of segments segment x.0) x.1.references) xs

-- what these lines give to a segment
abbrev pub gathered_of : List Segment → ℕ → List PlacedContent → Gathered
gathered_of segments segment xs =
    record { segment = segment; runs = runs_of (map run_of xs); fixups = fixups_of segments segment xs }

-- a run after a first one and others: in one with the last of them where it begins at its end
abbrev pub pushed_after : Run → List Run → Run → List Run
pushed_after last [] x = before_runs last.0 last.1 (x ∷ [])
pushed_after run (next ∷ more) x = run ∷ pushed_after next more x

abbrev pub run_appended : List Run → Run → List Run
run_appended [] x = x ∷ []
run_appended (run ∷ more) x = pushed_after run more x

-- runs with these bytes after them
abbrev pub with_run : List Run → ℕ → List ℕ → List Run
with_run runs at [] = runs
with_run runs at (byte ∷ bytes) = run_appended runs (at, byte ∷ bytes)

-- what is gathered, with one additional line
abbrev pub with_line : List Segment → Gathered → PlacedContent → Gathered
with_line segments g x = record {
  segment = g.segment;
  runs = with_run g.runs x.0 x.1.bytes;
  fixups = g.fixups ++ map (fixup_of segments g.segment x.0) x.1.references;
}

-- the pieces of a segment
abbrev pub pieces_in : Gathered → List Piece
pieces_in g = flat_map (pieces_of_run g.segment) g.runs

-- the pieces of these segments
abbrev pub all_pieces : List Gathered → List Piece
all_pieces segments = flat_map pieces_in segments

-- the fixups of these segments
abbrev pub all_fixups : List Gathered → List Fixup
all_fixups segments = flat_map (λ g. g.fixups) segments
