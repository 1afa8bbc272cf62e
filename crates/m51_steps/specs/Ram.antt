-- Internal RAM in the line of a state: what is shown of each byte, and which bytes are not as they were.
use Rattle.std.specs.Prelude.{ℕ, ◌+◌, ◌*◌, ◌-◌, ◌/◌, ◌%◌, ◌==◌, nat_lt}
use Rattle.std.specs.Prelude.{if◌then◌else◌}
use Rattle.std.specs.Prelude.{List, [], ◌++◌, codes, length}
use Rattle.m51_cells.specs.Hex.{hex2}
use Rattle.m51_flat.specs.States.{States, bit_seen, byte_seen}
use Rattle.m51_flat.specs.declared.state.Seen.{Seen}
use Rattle.m51_flat.specs.declared.state.Seen.TheVariants.{Value, Outside, Unset}
use Rattle.m51_module.specs.declared.parts.LayoutParts.{LayoutParts}
use Rattle.m51_monitor.specs.Records.{Records, naming}
use Rattle.m51_print.specs.Map.{unit_title}
use Rattle.m51_sim.specs.Runs.{State}
use Rattle.m51_sim.specs.SeparateMachine.{Separate, cells_of}
use Rattle.m51_steps.specs.Lines.{state_text, tab}
use Rattle.m51_steps.specs.Listing.{listed_from}

-- what is shown of a bit: its value, 2 where it is unset, 3 where it is outside
abbrev pub bit_code : Seen → ℕ
bit_code (Value v) = if v == 0 then 0 else 1
bit_code (Unset c) = 2
bit_code (Outside c) = 3

-- the same of the bit at a bit address
abbrev pub bit_at : States → ℕ → ℕ
bit_at s address = bit_code (bit_seen s (256 + address))

-- what is shown of four bits, of which the lowest has the bit address `first`
unfoldable pub four_code : States → ℕ → ℕ
four_code s first =
    4 * (4 * (4 * bit_at s (first + 3) + bit_at s (first + 2)) + bit_at s (first + 1)) + bit_at s first

-- what is shown of eight
unfoldable pub bits_code : States → ℕ → ℕ
bits_code s first = 256 * four_code s (first + 4) + four_code s first

-- what is shown of a byte that has no value: of one whose bits have addresses it is what is shown of each of them
abbrev pub blank_code : States → ℕ → ℕ → ℕ
blank_code s address whole =
    if nat_lt address 32 then whole
    else (if nat_lt 47 address then whole else 258 + bits_code s (8 * (address - 32)))

-- What is shown of a byte, as a number: its value; 256 where it is unset; 257 where it is outside; 258 and more where
-- its bits are shown one by one.
abbrev pub seen_code : States → ℕ → Seen → ℕ
seen_code s address (Value v) = v
seen_code s address (Unset c) = blank_code s address 256
seen_code s address (Outside c) = blank_code s address 257

abbrev pub byte_code : States → ℕ → ℕ
byte_code s address = seen_code s address (byte_seen s address)

-- nothing was shown of a byte
abbrev pub nothing_shown : ℕ
nothing_shown = 65794

-- the character of a bit
abbrev pub bit_text : ℕ → List ℕ
bit_text code =
    if code == 0 then codes "0" else (if code == 1 then codes "1" else (if code == 2 then codes "?" else codes "-"))

-- four bits, the highest first
unfoldable pub four_text : ℕ → List ℕ
four_text n = bit_text (n / 64 % 4) ++ bit_text (n / 16 % 4) ++ bit_text (n / 4 % 4) ++ bit_text (n % 4)

-- the eight bits of a byte, bit 7 first
unfoldable pub bits_text : ℕ → List ℕ
bits_text n = four_text (n / 256) ++ four_text (n % 256)

-- a byte without a value, of which the bits are looked at: ? where all are unset, - where all are outside, else each
unfoldable pub partial_text : ℕ → List ℕ
partial_text code =
    if code == 43948 then codes "?" else (if code == 65793 then codes "-" else bits_text (code - 258))

-- a byte without a value
unfoldable pub blank_text : ℕ → List ℕ
blank_text code = if code == 256 then codes "?" else (if code == 257 then codes "-" else partial_text code)

-- the text of what is shown of a byte
unfoldable pub code_text : ℕ → List ℕ
code_text code = if nat_lt code 256 then hex2 code else blank_text code

-- a byte that is not as it was shown: its address and what it is now
abbrev pub change_text : (ℕ → ℕ) → (ℕ → ℕ) → ℕ → List ℕ
change_text shown now address =
    if now address == shown address then [] else hex2 address ++ codes "=" ++ code_text (now address)

-- the bytes that are not as they were shown
abbrev pub changes_text : (ℕ → ℕ) → (ℕ → ℕ) → List ℕ
changes_text shown now = listed_from (change_text shown now) tab (codes " ") 256 0

-- the title of a unit, if it is active
abbrev pub active_title : LayoutParts → Records → ℕ → List ℕ
active_title l records unit = if naming records unit == 0 then [] else unit_title l unit

-- the titles of the active units, in their order
abbrev pub active_text : LayoutParts → Records → List ℕ
active_text l records = listed_from (active_title l records) tab (codes ",") (length l.units) 0

-- the bytes of internal RAM of a state that are not as they were shown
unfoldable pub bytes_text : LayoutParts → (ℕ → ℕ) → State Separate → List ℕ
bytes_text l shown s = changes_text shown (byte_code (cells_of l s.memory))

-- the line of a state with the active units and these bytes
unfoldable pub ram_line : LayoutParts → List ℕ → ℕ → (ℕ → ℕ) → State Separate → List ℕ
ram_line l image steps shown s =
    state_text l image steps s ++ active_text l s.memory.records ++ bytes_text l shown s ++ codes "\n"
