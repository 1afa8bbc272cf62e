-- The types of the records of objects and libraries. docs/OBJECTS.md has the same table; the numbers of kinds, of types
-- of segments and of forms are those of `Codes` in m51_records.
use Rattle.std.specs.Prelude.{◌≡◌, ℕ, List}
use Rattle.m51_module.specs.declared.content.Fixup.{Fixup}
use Rattle.m51_module.specs.declared.content.Piece.{Piece}
use Rattle.m51_module.specs.declared.segment.Segment.{Segment}
use Rattle.m51_module.specs.declared.symbol.External.{External}
use Rattle.m51_module.specs.declared.symbol.Public.{Public}
use Rattle.m51_frame.specs.Frame.{record_of}
use Rattle.m51_records.specs.declared.types.TheConstants.{LIBRARY_HEADER}
use Rattle.m51_records.specs.Contents.{piece_contents}
use Rattle.m51_records.specs.Ends.{header_contents, end_contents}
use Rattle.m51_records.specs.Externals.{external_contents}
use Rattle.m51_records.specs.Fixups.{fixup_contents}
use Rattle.m51_records.specs.Publics.{public_contents}
use Rattle.m51_records.specs.Segments.{segment_contents}
use Rattle.m51_records.specs.Spelling.{header_record, segment_record, external_record, public_record, piece_record}
use Rattle.m51_records.specs.Spelling.{fixup_record, end_record}

-- of a module, in the order in which they follow each other; and of a library
pub record RecordsHaveTypes : Type 0 where
  -- the name of the module, and the version of the object
  pub header : (name : List ℕ) (version : ℕ)
      → header_record name version ≡ record_of 0x02 (header_contents name version)
  -- a segment
  pub segment : (s : Segment) → segment_record s ≡ record_of 0x0E (segment_contents s)
  -- an external
  pub external : (e : External) → external_record e ≡ record_of 0x18 (external_contents e)
  -- a public
  pub public_name : (p : Public) → public_record p ≡ record_of 0x16 (public_contents p)
  -- a piece of content
  pub content : (p : Piece) → piece_record p ≡ record_of 0x06 (piece_contents p)
  -- a field that the linker fills
  pub fixup : (f : Fixup) → fixup_record f ≡ record_of 0x08 (fixup_contents f)
  -- the end of the module
  pub end_of_module : (name : List ℕ) (banks : ℕ) → end_record name banks ≡ record_of 0x04 (end_contents name banks)
  -- the header of a library: how many modules it has
  pub library : LIBRARY_HEADER ≡ 0x2C
