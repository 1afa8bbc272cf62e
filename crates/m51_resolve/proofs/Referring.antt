-- A valid module has what its fixups name.
use Rattle.m51_resolve.proofs.Common.{◌≡◌, ℕ, ◌+◌, ◌≤◌, List, Some, arith, slice_get, ModuleParts, Segment, Contains}
use Rattle.std.proofs.Common.{◌-◌}
use Rattle.std.proofs.lemmas.List.Elements.{All-contains}
use Rattle.m51_cells.specs.declared.kind.Kind.TheVariants.{Code}
use Rattle.m51_module.specs.declared.content.Fixup.{Fixup}
use Rattle.m51_module.specs.Validity.{field_len, IsFixupValid, IsHeld, IsValid, numbered}
use Rattle.m51_module.proofs.FieldLengths.{some_byte}
use Rattle.m51_resolve.specs.Referents.{IsFixupThere}

-- the segment of program memory in which a field lies
pub record IsFieldIn (parts : ModuleParts) (f : Fixup) : Type 0 where
  pub segment : Segment
  pub is : numbered parts.segments f.segment ≡ Some segment
  pub code : segment.kind ≡ Code
  pub inside : f.offset + field_len f.form ≤ segment.size

-- a piece holds the last byte of the field
pub field_in : (parts : ModuleParts) (f : Fixup) → IsValid parts
    → IsFixupValid parts.segments parts.externals parts.pieces f → IsFieldIn parts f
field_in parts f valid h =
    let some = some_byte f.form in
    let held : IsHeld parts.pieces f.segment (f.offset + (field_len f.form - 1)) =
    omega arith in
    grind arith

module _ (modules : List ModuleParts) (m : ℕ) (parts : ModuleParts) (here : slice_get modules m ≡ Some parts) where
  pub fixup_there : (f : Fixup) → IsValid parts → Contains parts.fixups f → IsFixupThere modules m f
  fixup_there f valid is =
      let h = All-contains (IsFixupValid parts.segments parts.externals parts.pieces) parts.fixups f valid.fixups is in
      let field = field_in parts f valid h in
      grind arith
