-- The one spelling of each valid module.
use Rattle.std.specs.Prelude.{ℕ, List, ◌++◌, ◌+◌, length}
use Rattle.std.specs.List.{flat_map}
use Rattle.m51_module.specs.declared.content.Fixup.{Fixup}
use Rattle.m51_module.specs.declared.content.Piece.{Piece}
use Rattle.m51_module.specs.declared.parts.ModuleParts.{ModuleParts}
use Rattle.m51_module.specs.declared.segment.Segment.{Segment}
use Rattle.m51_module.specs.declared.symbol.External.{External}
use Rattle.m51_module.specs.declared.symbol.Public.{Public}
use Rattle.m51_records.specs.declared.types.TheConstants.{HEADER, END, CONTENT, FIXUP}
use Rattle.m51_records.specs.declared.types.TheConstants.{SEGMENT, PUBLIC, EXTERNAL}
use Rattle.m51_frame.specs.Frame.{record_of}
use Rattle.m51_records.specs.Ends.{header_contents, end_contents}
use Rattle.m51_records.specs.Segments.{segment_contents}
use Rattle.m51_records.specs.Externals.{external_contents}
use Rattle.m51_records.specs.Publics.{public_contents}
use Rattle.m51_records.specs.Contents.{piece_contents}
use Rattle.m51_records.specs.Fixups.{fixup_contents}

-- a record of each
abbrev pub segment_record : Segment → List ℕ
segment_record s = record_of SEGMENT (segment_contents s)

abbrev pub external_record : External → List ℕ
external_record e = record_of EXTERNAL (external_contents e)

abbrev pub public_record : Public → List ℕ
public_record p = record_of PUBLIC (public_contents p)

abbrev pub piece_record : Piece → List ℕ
piece_record p = record_of CONTENT (piece_contents p)

abbrev pub fixup_record : Fixup → List ℕ
fixup_record f = record_of FIXUP (fixup_contents f)

abbrev pub header_record : List ℕ → ℕ → List ℕ
header_record name version = record_of HEADER (header_contents name version)

abbrev pub end_record : List ℕ → ℕ → List ℕ
end_record name banks = record_of END (end_contents name banks)

-- the records in their order
unfoldable pub bytes_of : ModuleParts → List ℕ
bytes_of m =
    header_record m.name m.version ++ (flat_map segment_record m.segments ++ (flat_map external_record m.externals
    ++ (flat_map public_record m.publics ++ (flat_map piece_record m.pieces
    ++ (flat_map fixup_record m.fixups ++ end_record m.name m.banks)))))

-- how many records there are
abbrev pub records_in : ModuleParts → ℕ
records_in m = 2 + length m.segments + length m.externals + length m.publics + length m.pieces + length m.fixups
