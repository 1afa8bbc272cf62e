-- The addresses to which fixups refer: where a part begins, and the address of a target. Modules are counted from 0,
-- segments of a module from 1.
use Rattle.std.specs.Prelude.{ℕ, ◌+◌, ◌%◌, List, slice_index}
use Rattle.std.specs.Option.{option_map_or}
use Rattle.m51_module.specs.declared.content.Fixup.{Fixup}
use Rattle.m51_module.specs.declared.parts.ModuleParts.{ModuleParts}
use Rattle.m51_resolve.specs.declared.referent.Referent.{Referent}
use Rattle.m51_resolve.specs.Joining.{part_of}
use Rattle.m51_resolve.specs.Referents.{referent}
use Rattle.m51_place.specs.declared.placing.Placing.{Placing}

-- Where a part begins: the base of its joined segment, and its offset there. The part of an absolute segment is the
-- whole, so that it begins at its own base.
abbrev pub part_address : Placing → ℕ × ℕ → ℕ
part_address placing part = slice_index placing.bases part.0 + part.1

-- the address of that offset in a segment of a module
abbrev pub address_of : List ModuleParts → Placing → ℕ → ℕ → ℕ → ℕ
address_of modules placing m s offset = part_address placing (part_of modules m s) + offset

-- The address to which a base refers, which may lie past the end of the memory.
abbrev pub referent_address : Placing → Referent → ℕ
referent_address placing r = option_map_or (part_address placing) r.part 0 + r.number

-- The address T to which a fixup of the module refers, modulo 65,536.
abbrev pub fixup_target : List ModuleParts → Placing → ℕ → Fixup → ℕ
fixup_target modules placing m f = (referent_address placing (referent modules m f.target) + f.addend) % 65536
