-- The row of the listing that a line gives.
use Rattle.std.specs.Prelude.{ℕ, ◌%◌, ◌||◌, Bool, true, false, if◌then◌else◌, List, [], ◌∷◌, ◌++◌, length, take, min}
use Rattle.std.specs.Prelude.{replicate, Option, Some, None, is_some}
use Rattle.m51_module.specs.declared.source.Row.{Row}
use Rattle.m51_stmt.specs.Statement.{StmtTree, BodyTree, Code, Db, Dw, Ds, Dbit}
use Rattle.m51_emit.specs.Content.{EmittedContent, ReferenceAt}

-- an instruction, DB, DW, DS or DBIT
abbrev pub has_place : BodyTree → Bool
has_place (Code mnemonic operands) = true
has_place (Db items) = true
has_place (Dw words) = true
has_place (Ds e) = true
has_place (Dbit e) = true
has_place body = false

-- the place of a statement that has a label or gives something, modulo 65,536
abbrev pub place_in : StmtTree → ℕ → Option ℕ
place_in s place = if is_some s.label || has_place s.body then Some (place % 65536) else None

-- the first three bytes, with 0 past the last
abbrev pub first_three : List ℕ → List ℕ
first_three bytes = take 3 (bytes ++ replicate 3 0)

abbrev pub is_any : List ReferenceAt → Bool
is_any [] = false
is_any (r ∷ more) = true

-- the row of a line of a file, at this place and with this content
abbrev pub row_in : ℕ → ℕ → Option ℕ → EmittedContent → Row
row_in file line place c = record {
  file = file;
  line = line;
  place = place;
  count = min (length c.bytes) 3;
  bytes = first_three c.bytes;
  marked = is_any c.references;
}
