-- What is promised of gathering: lines that are added one by one at the end give what they give together.
use Rattle.std.specs.Prelude.{◌≡◌, ℕ, List, [], ◌∷◌, ◌++◌}
use Rattle.m51_module.specs.declared.segment.Segment.{Segment}
use Rattle.m51_emit.specs.Pieces.{Run}
use Rattle.m51_emit.specs.Gathering.{PlacedContent, runs_of, gathered_of, with_run, with_line}

-- The runs of bytes and others after them are those of the bytes, with these after them.
abbrev pub RunsGrow : Type 0
RunsGrow = (xs : List Run) (at : ℕ) (bytes : List ℕ) → runs_of (xs ++ (at, bytes) ∷ []) ≡ with_run (runs_of xs) at bytes

-- What lines and one more give to a segment is what they give, with that one.
abbrev pub ContentGrows : Type 0
ContentGrows =
    (segments : List Segment) (segment : ℕ) (lines : List PlacedContent) (line : PlacedContent)
    → gathered_of segments segment (lines ++ line ∷ []) ≡ with_line segments (gathered_of segments segment lines) line
