-- Content and fields lie in program memory.
use Rattle.std.proofs.Common.{◌≡◌, ℕ, ◌+◌, ◌≤◌, List, length, Some, subst, ◌∙◌, arith}
use Rattle.std.specs.Prelude.{slice_get}
use Rattle.std.specs.List.{Contains}
use Rattle.std.proofs.lemmas.List.Elements.{All-contains, All-get_or}
use Rattle.std.proofs.lemmas.Option.{get_or_from_slice_get, slice_get_within}
use Rattle.m51_cells.specs.declared.kind.Kind.TheVariants.{Code}
use Rattle.m51_module.specs.declared.content.Fixup.{Fixup}
use Rattle.m51_module.specs.declared.content.Form.{Form}
use Rattle.m51_module.specs.declared.content.Form.TheVariants.{Conv}
use Rattle.m51_module.specs.declared.content.Piece.{Piece}
use Rattle.m51_module.specs.declared.parts.ModuleParts.{ModuleParts}
use Rattle.m51_module.specs.declared.segment.Segment.{Segment}
use Rattle.m51_module.proofs.FieldLengths.{some_byte}
use Rattle.m51_module.specs.Validity.{IsBitNumber, IsFixupValid, IsPieceValid, IsValid, numbered}
use Rattle.m51_resolve.specs.Joining.{part_of}
use Rattle.m51_resolve.proofs.Referring.{field_in, fixup_there, IsFieldIn}
use Rattle.m51_place.specs.declared.placing.Placing.{Placing}
use Rattle.m51_linker.specs.Ready.{ArePlaced, IsFixupPlaced}
use Rattle.m51_linker.specs.Targets.{address_of, part_address}
use Rattle.m51_linker.proofs.PartsInside.{IsPartOf, part_inside}

small_bit : (form : Form) (bit : ℕ) → IsBitNumber form bit → bit ≤ 7
small_bit Conv bit h = h
small_bit form bit h = omega (arith, h)

module _ (modules : List ModuleParts) (placing : Placing) (placed : ArePlaced modules placing) (m : ℕ)
    (parts : ModuleParts) (here : slice_get modules m ≡ Some parts) where
  valid : IsValid parts
  valid =
      subst (λ (x : ModuleParts). IsValid x) (get_or_from_slice_get modules m parts parts here)
      (All-get_or IsValid modules m parts (slice_get_within modules m parts here) placed.valid)

  -- a segment of program memory ends in it
  segment_room : (s : ℕ) (segment : Segment) → numbered parts.segments s ≡ Some segment → segment.kind ≡ Code
      → part_address placing (part_of modules m s) + segment.size ≤ 65536
  segment_room s segment is code =
      let part : IsPartOf modules m s segment = part_inside modules placed.resolved m parts here s segment is in
      let at = placed.bases.each (part_of modules m s).0 part.j part.at in
      let room : at.placed.base + at.placed.size ≤ 65536 = at.is.room (at.is.kind ∙ part.kind ∙ code) in
      omega (arith, at.begins, room, at.is.size, part.inside)

  pub piece_room : (p : Piece) → Contains parts.pieces p
      → address_of modules placing m p.segment p.offset + length p.bytes ≤ 65536
  piece_room p is =
      let piece = All-contains (IsPieceValid parts.segments) parts.pieces p valid.pieces is in
      omega (arith, segment_room p.segment piece.segment piece.is piece.code, piece.inside)

  pub fixup_placed : (f : Fixup) → Contains parts.fixups f → IsFixupPlaced modules placing m f
  fixup_placed f is =
      let h = All-contains (IsFixupValid parts.segments parts.externals parts.pieces) parts.fixups f valid.fixups is in
      let field : IsFieldIn parts f = field_in parts f valid h in
      let part : IsPartOf modules m f.segment field.segment =
      part_inside modules placed.resolved m parts here f.segment field.segment field.is in
      record {
        there = fixup_there modules m parts here f valid is;
        bit = small_bit f.form f.bit h.bit;
        inside = omega (arith, segment_room f.segment field.segment field.is field.code, field.inside);
        offset = omega (arith, part.inside, part.small, field.inside, some_byte f.form);
      }
