-- Two laws of the format.
use Rattle.std.specs.Prelude.{◌≡◌, ◌↔◌, ℕ, ◌<◌, false, Bool, ◌&&◌, nat_le, nat_lt, List, length, map, All, Ok}
use Rattle.std.specs.Prelude.{slice_index}
use Rattle.std.specs.Char.{to_ascii_uppercase}
use Rattle.std.specs.List.{list_any}
use Rattle.m51_module.specs.declared.linked.Run.{Run}
use Rattle.m51_hex.specs.Memory.{memory_in}
use Rattle.m51_hex.specs.Line.{hex_record_of}
use Rattle.m51_hex.specs.Reading.{memory_from}
use Rattle.m51_hex.specs.Record.{HexRecord, IsRecord, hex_record_text}
use Rattle.m51_hex.specs.Writing.{IsRunWithin, end_of, hex_of}

-- the address is one of the run
abbrev pub is_in_run : ℕ → Run → Bool
is_in_run address run = nat_le run.first address && nat_lt address (end_of run)

-- the address is one of some run
abbrev pub is_in_runs : ℕ → List Run → Bool
is_in_runs address runs = list_any (is_in_run address) runs

-- an image whose bytes outside its runs are FFH
pub record IsErasedOutside (image : List ℕ) (runs : List Run) : Type 0 where
  pub whole : length image ≡ 0x10000
  pub bytes : All (λ byte. byte < 256) image
  pub within : All IsRunWithin runs
  pub outside : (address : ℕ) → address < 0x10000 → is_in_runs address runs ≡ false → slice_index image address ≡ 0xFF

-- what is written of such an image is read, and is the image
abbrev pub WrittenIsRead : Type 0
WrittenIsRead =
    (image : List ℕ) (runs : List Run) → IsErasedOutside image runs
    → memory_from (hex_of image runs) ≡ Ok (memory_in image)

-- a line is accepted as a record exactly if it is the text of that record, in either case of letters
abbrev pub LinesAreRecords : Type 0
LinesAreRecords = (number : ℕ) (line : List ℕ) (r : HexRecord)
    → (hex_record_of number line ≡ Ok r) ↔ (IsRecord r × (map to_ascii_uppercase line ≡ hex_record_text r))
