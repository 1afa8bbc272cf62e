-- Of the code: what its steps ask of placed modules and of their fixups, and what the step that refuses answers.
use Rattle.std.specs.Prelude.{◌≡◌, ℕ, ◌+◌, ◌<◌, ◌≤◌, List, Option, Some, None, Result, Ok, Err}
use Rattle.std.specs.List.{All}
use Rattle.m51_module.specs.declared.content.Fixup.{Fixup}
use Rattle.m51_module.specs.declared.linked.Refusal.{Refusal}
use Rattle.m51_module.specs.declared.parts.ModuleParts.{ModuleParts}
use Rattle.m51_module.specs.Validity.{field_len, IsValid}
use Rattle.m51_resolve.specs.Joining.{part_of, segments_of}
use Rattle.m51_resolve.specs.Referents.{IsFixupThere}
use Rattle.m51_resolve.specs.Rules.{AreResolved, but_memory}
use Rattle.m51_place.specs.declared.placing.Placing.{Placing}
use Rattle.m51_place.specs.Places.{ArePlaces}
use Rattle.m51_linker.specs.Targets.{address_of}

-- the modules are valid, meet the rules of joining, and are placed
pub record ArePlaced (modules : List ModuleParts) (placing : Placing) : Type 0 where
  pub valid : All IsValid modules
  pub resolved : AreResolved modules
  pub bases : ArePlaces (segments_of modules) placing

-- the module has what its fixup names, and the field lies in program memory
pub record IsFixupPlaced (modules : List ModuleParts) (placing : Placing) (m : ℕ) (f : Fixup) : Type 0 where
  pub there : IsFixupThere modules m f
  pub bit : f.bit ≤ 7
  pub inside : address_of modules placing m f.segment f.offset + field_len f.form ≤ 65536
  pub offset : (part_of modules m f.segment).1 + f.offset < 65536

-- the refusal is that of the rule; out of memory, which is none, says nothing
abbrev pub MayRefuse : Option Refusal → Option Refusal → Type 0
MayRefuse rule None = Unit {0}
MayRefuse rule (Some refusal) = rule ≡ Some refusal

-- a step passes where no rule fails, else it fails with the refusal
abbrev pub Checks : {T : Type 0} → Option Refusal → Result T Refusal → Type 0
Checks rule (Ok _) = rule ≡ None
Checks rule (Err error) = MayRefuse rule (but_memory error)
