-- The instructions of an image, by their addresses.
use Rattle.std.specs.Prelude.{◌≡◌, ℕ, ◌<◌, List, length, slice_index_or}
use Rattle.m51_sim.specs.declared.program.Row.{Row}
use Rattle.m51_sim.specs.Plain.{row_of}

-- these are the instructions that begin at the first addresses of the image
pub record AreDecodedRows (image : List ℕ) (rows : List Row) (count : ℕ) : Type 0 where
  pub len : length rows ≡ count
  pub row : (a : ℕ) (d : Row) → a < count → slice_index_or rows a d ≡ row_of image a
