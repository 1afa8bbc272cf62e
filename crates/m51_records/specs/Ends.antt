-- The first record of a module, and its last one.
use Rattle.std.specs.Prelude.{ℕ, ◌%◌, Bool, ◌&&◌, ◌||◌, ◌==◌, nat_lt, List, [], ◌∷◌, ◌++◌, Result, Ok}
use Rattle.m51_module.specs.declared.object_error.ObjError.{ObjError}
use Rattle.m51_frame.specs.Fields.{◌>>=◌, checked, or_broken, byte_at, text_field, text_at, upper_name, same, ended}

-- the name of the module, and the version of the object
abbrev pub header_contents : List ℕ → ℕ → List ℕ
header_contents name version = text_field name ++ version ∷ []

-- version 1 or 2
abbrev pub is_version : ℕ → Bool
is_version version = (version == 1) || (version == 2)

abbrev pub version_at : ℕ → List ℕ → Result (ℕ × List ℕ) ObjError
version_at end bytes = do
  version ← byte_at end bytes
  checked (is_version version.0) end bytes version

-- a name, in upper case
abbrev pub name_at : ℕ → List ℕ → Result (List ℕ × List ℕ) ObjError
name_at end bytes = do
  text ← text_at end bytes
  name ← or_broken (upper_name text.0) end bytes
  Ok (name, text.1)

-- the name and the version
unfoldable pub header_in : ℕ → List ℕ → Result (List ℕ × ℕ) ObjError
header_in end bytes = do
  name ← name_at end bytes
  version ← version_at end name.1
  ended end version.1 (name.0, version.0)

-- the name once more, and the banks in use
abbrev pub end_contents : List ℕ → ℕ → List ℕ
end_contents name banks = text_field name ++ banks ∷ []

-- the name of the header
abbrev pub again_at : List ℕ → ℕ → List ℕ → Result (List ℕ × List ℕ) ObjError
again_at name end bytes = do
  text ← text_at end bytes
  checked (same name text.0) end bytes text

-- bit 0 is set, and none above bit 3
abbrev pub are_banks : ℕ → Bool
are_banks banks = (banks % 2 == 1) && nat_lt banks 16

abbrev pub banks_at : ℕ → List ℕ → Result (ℕ × List ℕ) ObjError
banks_at end bytes = do
  banks ← byte_at end bytes
  checked (are_banks banks.0) end bytes banks

unfoldable pub end_in : List ℕ → ℕ → List ℕ → Result ℕ ObjError
end_in name end bytes = do
  text ← again_at name end bytes
  banks ← banks_at end text.1
  ended end banks.1 banks.0
