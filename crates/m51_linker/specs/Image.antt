-- The bytes of program memory: content where it is placed, with the fields of fixups in it, and FFH elsewhere.
use Rattle.std.specs.Prelude.{◌≡◌, ℕ, ◌<◌, true, List, [], flat_map, length, map, slice_get, slice_index, is_some}
use Rattle.std.specs.Prelude.{unwrap_or, Option, option_map}
use Rattle.std.specs.List.{filter_map, range_with_len}
use Rattle.std.specs.Option.{option_map_or, option_or}
use Rattle.m51_module.specs.declared.content.Fixup.{Fixup}
use Rattle.m51_module.specs.declared.content.Piece.{Piece}
use Rattle.m51_module.specs.declared.image.TheConstants.{IMAGE_LEN}
use Rattle.m51_module.specs.declared.parts.ModuleParts.{ModuleParts}
use Rattle.m51_place.specs.declared.placing.Placing.{Placing}
use Rattle.m51_fields.specs.declared.fields.FieldBytes.{FieldBytes}
use Rattle.m51_fields.specs.Fields.{field_of}
use Rattle.m51_linker.specs.Stretches.{Stretch, byte_among, stretch_at}
use Rattle.m51_linker.specs.Targets.{address_of, fixup_target}

-- what the modules have, each its own, in module order
abbrev pub of_modules : {A : Type 0} → (ℕ → List A) → List ModuleParts → List A
of_modules items modules = flat_map items (range_with_len 0 (length modules))

-- a piece of the module, where it is placed
abbrev pub placed_piece : List ModuleParts → Placing → ℕ → Piece → Stretch
placed_piece modules placing m p = record { at = address_of modules placing m p.segment p.offset; bytes = p.bytes }

-- the content of the module of that number, and of all modules
abbrev pub module_content : List ModuleParts → Placing → ℕ → List Stretch
module_content modules placing m =
    option_map_or (λ (parts : ModuleParts). map (placed_piece modules placing m) parts.pieces) (slice_get modules m) []

abbrev pub content_of : List ModuleParts → Placing → List Stretch
content_of modules placing = of_modules (module_content modules placing) modules

-- the byte of content at the address, FFH where there is none
abbrev pub content_byte : List ModuleParts → Placing → ℕ → ℕ
content_byte modules placing address = unwrap_or (byte_among (content_of modules placing) address) 0xFF

-- the field of a fixup of the module; none where its rule fails
abbrev pub fixup_field : List ModuleParts → Placing → ℕ → Fixup → Option FieldBytes
fixup_field modules placing m f =
    let address : ℕ = address_of modules placing m f.segment f.offset in
    field_of f.form f.bit (fixup_target modules placing m f) address (content_byte modules placing address)

-- the same, where it is placed
abbrev pub placed_field : List ModuleParts → Placing → ℕ → Fixup → Option Stretch
placed_field modules placing m f =
    option_map (stretch_at (address_of modules placing m f.segment f.offset)) (fixup_field modules placing m f)

-- the fields of the module of that number, and of all modules
abbrev pub module_fields : List ModuleParts → Placing → ℕ → List Stretch
module_fields modules placing m =
    option_map_or (λ (parts : ModuleParts). filter_map (placed_field modules placing m) parts.fixups)
    (slice_get modules m) []

abbrev pub fields_of : List ModuleParts → Placing → List Stretch
fields_of modules placing = of_modules (module_fields modules placing) modules

-- The byte at an address: that of a field which lies there, else that of content, else FFH.
abbrev pub byte_at : List ModuleParts → Placing → ℕ → ℕ
byte_at modules placing address =
    unwrap_or (option_or (byte_among (fields_of modules placing) address)
    (byte_among (content_of modules placing) address)) 0xFF

-- the image of the placed modules
pub record IsImage (modules : List ModuleParts) (placing : Placing) (image : List ℕ) : Type 0 where
  pub len : length image ≡ IMAGE_LEN
  pub each : (address : ℕ) → address < IMAGE_LEN → slice_index image address ≡ byte_at modules placing address

-- content fills the address
pub record IsFilled (modules : List ModuleParts) (placing : Placing) (address : ℕ) : Type 0 where
  pub inside : address < IMAGE_LEN
  pub filled : is_some (byte_among (content_of modules placing) address) ≡ true
