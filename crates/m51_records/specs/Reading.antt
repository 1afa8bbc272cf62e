-- Reading a module from the beginning of bytes, record by record, with the first refusal.
use Rattle.std.specs.Prelude.{ℕ, zero, suc, ◌+◌, ◌-◌, if◌then◌else◌, List, [], ◌∷◌, ◌++◌, length, Result, Ok}
use Rattle.m51_module.specs.declared.content.Fixup.{Fixup}
use Rattle.m51_module.specs.declared.content.Piece.{Piece}
use Rattle.m51_module.specs.declared.parts.ModuleParts.{ModuleParts}
use Rattle.m51_module.specs.declared.segment.Segment.{Segment}
use Rattle.m51_module.specs.declared.symbol.External.{External}
use Rattle.m51_module.specs.declared.symbol.Public.{Public}
use Rattle.m51_module.specs.declared.object_error.ObjError.{ObjError}
use Rattle.m51_records.specs.declared.types.TheConstants.{HEADER, END, CONTENT, FIXUP}
use Rattle.m51_records.specs.declared.types.TheConstants.{SEGMENT, PUBLIC, EXTERNAL}
use Rattle.m51_frame.specs.Fields.{◌>>=◌}
use Rattle.m51_frame.specs.Frame.{begins, record_at, checksum_place}
use Rattle.m51_records.specs.Ends.{header_in, end_in}
use Rattle.m51_records.specs.Segments.{segment_in}
use Rattle.m51_records.specs.Externals.{external_in}
use Rattle.m51_records.specs.Publics.{public_in}
use Rattle.m51_records.specs.Contents.{piece_in}
use Rattle.m51_records.specs.Fixups.{fixup_in}

-- What reads the contents of a record, which end at an offset of the file.
abbrev pub Reader : Type 0 → Type 0
Reader X = ℕ → List ℕ → Result X ObjError

-- a record of the type at the beginning of the bytes: the value of its contents, and the bytes after it
unfoldable pub one_at : {X : Type 0} → ℕ → Reader X → ℕ → ℕ → List ℕ → Result (X × List ℕ) ObjError
one_at type read total number bytes = do
  framed ← record_at type total number bytes
  value ← read (checksum_place total framed.1) framed.0
  Ok (value, framed.1)

-- Consecutive records of one type, up to the given number of them; what is read of each may depend on the values before
-- it. `number` is that of the first record.
unfoldable pub many_at : {X : Type 0} → ℕ → (List X → Reader X) → ℕ → ℕ → ℕ → List X → List ℕ
    → Result (List X × List ℕ) ObjError
many_at type read total number zero before bytes = Ok (before, bytes)
many_at type read total number (suc most) before bytes =
    if begins type bytes
    then (one_at type (read before) total number bytes >>= λ one.
    many_at type read total (number + 1) most (before ++ one.0 ∷ []) one.1)
    else Ok (before, bytes)

-- all of them: a record takes bytes, so there are no more records than bytes
abbrev pub all_at : {X : Type 0} → ℕ → (List X → Reader X) → ℕ → ℕ → List ℕ → Result (List X × List ℕ) ObjError
all_at type read total number bytes = many_at type read total number (length bytes) [] bytes

-- the records of each type
abbrev pub segments_at : ℕ → ℕ → ℕ → List ℕ → Result (List Segment × List ℕ) ObjError
segments_at version total number bytes = all_at SEGMENT (segment_in version) total number bytes

abbrev pub externals_at : ℕ → ℕ → List ℕ → Result (List External × List ℕ) ObjError
externals_at total number bytes = all_at EXTERNAL external_in total number bytes

abbrev pub publics_at : List Segment → ℕ → ℕ → List ℕ → Result (List Public × List ℕ) ObjError
publics_at segments total number bytes = all_at PUBLIC (public_in segments) total number bytes

abbrev pub pieces_at : List Segment → ℕ → ℕ → List ℕ → Result (List Piece × List ℕ) ObjError
pieces_at segments total number bytes = all_at CONTENT (piece_in segments) total number bytes

abbrev pub fixups_at : List Segment → List External → List Piece → ℕ → ℕ → List ℕ
    → Result (List Fixup × List ℕ) ObjError
fixups_at segments externals pieces total number bytes =
    all_at FIXUP (fixup_in segments externals pieces) total number bytes

abbrev pub header_at : ℕ → ℕ → List ℕ → Result ((List ℕ × ℕ) × List ℕ) ObjError
header_at total number bytes = one_at HEADER header_in total number bytes

abbrev pub end_at : List ℕ → ℕ → ℕ → List ℕ → Result (ℕ × List ℕ) ObjError
end_at name total number bytes = one_at END (end_in name) total number bytes

-- The module at the beginning of these bytes, and the bytes after it. They end with the file, at its total length, and
-- the first record has that number.
unfoldable pub module_at : ℕ → ℕ → List ℕ → Result (ModuleParts × List ℕ) ObjError
module_at total number bytes = do
  header ← header_at total number bytes
  segments ← segments_at header.0.1 total (number + 1) header.1
  externals ← externals_at total (number + 1 + length segments.0) segments.1
  publics ← publics_at segments.0 total (number + 1 + length segments.0 + length externals.0) externals.1
  pieces ← pieces_at segments.0 total (number + 1 + length segments.0 + length externals.0 + length publics.0) publics.1
  fixups ← fixups_at segments.0 externals.0 pieces.0 total
      (number + 1 + length segments.0 + length externals.0 + length publics.0 + length pieces.0) pieces.1
  banks ← end_at header.0.0 total
      (number + 1 + length segments.0 + length externals.0 + length publics.0
      + length pieces.0 + length fixups.0) fixups.1
  Ok (
    record {
      name = header.0.0;
      version = header.0.1;
      segments = segments.0;
      publics = publics.0;
      externals = externals.0;
      pieces = pieces.0;
      fixups = fixups.0;
      banks = banks.0;
    },
    banks.1,
  )

-- the module at the beginning of a file, and the length of its spelling
abbrev pub read_of : List ℕ → Result (ModuleParts × ℕ) ObjError
read_of file = do
  found ← module_at (length file) 0 file
  Ok (found.0, length file - length found.1)
