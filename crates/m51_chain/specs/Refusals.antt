-- The refusals of objects, libraries, HEX files and edits.
use Rattle.std.specs.Prelude.{ℕ, List, [], ◌++◌, codes, decimal, fold}
use Rattle.m51_cells.specs.Hex.{hex2}
use Rattle.m51_hex.specs.declared.error.HexError.{HexError}
use Rattle.m51_hex.specs.declared.error.HexError.TheVariants as hex
use Rattle.m51_module.specs.declared.library_error.LibError.{LibError}
use Rattle.m51_module.specs.declared.library_error.LibError.TheVariants as library
use Rattle.m51_module.specs.declared.object_error.ObjError.{ObjError}
use Rattle.m51_module.specs.declared.object_error.ObjError.TheVariants as object
use Rattle.m51_chain.specs.declared.work.Reason.TheVariants as reason
use Rattle.m51_chain.specs.Outcome.{Outcome, refused}

-- texts one after the other
abbrev pub joined_texts : List (List ℕ) → List ℕ
joined_texts parts = fold (λ (text : List ℕ) (part : List ℕ). text ++ part) [] parts

-- what is wrong with an object, and where; never used for out of memory
abbrev pub object_words : ObjError → List ℕ
object_words (object.O1 at) = codes "O1 AT " ++ decimal at
object_words (object.O2 record_no found needed) =
    codes "O2 RECORD " ++ decimal record_no ++ codes " FOUND " ++ hex2 found ++ codes " NEEDED " ++ hex2 needed
object_words (object.O3 at) = codes "O3 AT " ++ decimal at
object_words (object.O4 at) = codes "O4 AT " ++ decimal at
object_words (object.O5 at) = codes "O5 AT " ++ decimal at
object_words object.Memory = []

-- a file is refused, for this
abbrev pub file_refused : List ℕ → List ℕ → Outcome
file_refused file words = refused reason.Object (codes "OBJECT " ++ file ++ codes ": " ++ words ++ codes "\n")

-- an edit is refused, for this
abbrev pub edit_refused : List ℕ → Outcome
edit_refused words = refused reason.Object (codes "LIBRARY " ++ words ++ codes "\n")

-- a library is full
abbrev pub full : Outcome
full = refused reason.Limit (codes "LIMIT MODULES 255\n")

-- an object is refused
abbrev pub object_outcome : List ℕ → ObjError → Outcome
object_outcome file error = file_refused file (object_words error)

-- a library is refused; never used for out of memory
abbrev pub library_outcome : List ℕ → LibError → Outcome
library_outcome file (library.B1 name) = file_refused file (codes "B1 " ++ name)
library_outcome file (library.B2 name) = file_refused file (codes "B2 " ++ name)
library_outcome file (library.B3 name) = file_refused file (codes "B3 " ++ name)
library_outcome file (library.Object error) = object_outcome file error
library_outcome file library.Full = full
library_outcome file library.Memory = full

-- an edit of a library is refused; never used for out of memory
abbrev pub edit_outcome : LibError → Outcome
edit_outcome (library.B1 name) = edit_refused (codes "B1 " ++ name)
edit_outcome (library.B2 name) = edit_refused (codes "B2 " ++ name)
edit_outcome (library.B3 name) = edit_refused (codes "B3 " ++ name)
edit_outcome (library.Object error) = edit_refused (object_words error)
edit_outcome library.Full = full
edit_outcome library.Memory = full

-- what is wrong with a HEX file, and in which line; never used for out of memory
abbrev pub hex_words : HexError → List ℕ
hex_words (hex.H1 line) = codes "H1 LINE " ++ decimal line
hex_words (hex.H2 line) = codes "H2 LINE " ++ decimal line
hex_words (hex.H3 line) = codes "H3 LINE " ++ decimal line
hex_words (hex.H4 line) = codes "H4 LINE " ++ decimal line
hex_words hex.H5 = codes "H5"
hex_words hex.Memory = []

-- a HEX file is refused
abbrev pub hex_outcome : List ℕ → HexError → Outcome
hex_outcome file error = file_refused file (hex_words error)
