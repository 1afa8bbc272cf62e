-- The rows of the listing that a text gives: one for each line.
use Rattle.std.specs.Prelude.{ℕ, suc, List, [], ◌∷◌, Option}
use Rattle.m51_module.specs.declared.source.Row.{Row}
use Rattle.m51_text.specs.Answer.{LineTree}
pub use Rattle.m51_emit.specs.Rows.{has_place, place_in, first_three, is_any, row_in}
use Rattle.m51_emit.specs.declared.content.EmittedContent.{EmittedContent}
use Rattle.m51_asm.specs.Assignment.{Assignment}
use Rattle.m51_asm.specs.Pieces.{content_at}

-- the place of a line that has a label or gives something, modulo 65,536
abbrev pub place_of : Assignment → ℕ → LineTree → Option ℕ
place_of a k line = place_in line.stmt (a.place k)

-- the row of a line with this place and this content
abbrev pub listing_row : LineTree → Option ℕ → EmittedContent → Row
listing_row line place c = row_in line.file line.line place c

-- the rows of these lines, which begin with line k
abbrev pub rows_from : List LineTree → Assignment → ℕ → List LineTree → List Row
rows_from lines a k [] = []
rows_from lines a k (line ∷ more) =
    listing_row line (place_of a k line) (content_at lines a k) ∷ rows_from lines a (suc k) more

-- the rows of a text
abbrev pub rows : List LineTree → Assignment → List Row
rows lines a = rows_from lines a 0 lines
