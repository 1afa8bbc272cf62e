-- Reading a file line by line.
use Rattle.std.proofs.Common.{◌≡◌, ℕ, ◌+◌, List, [], ◌∷◌, fold, Result, Ok, Err, refl, sym, ◌∙◌}
use Rattle.std.specs.Str.Lines.{lines}
use Rattle.m51_cells.specs.Outcome.{◌>>=◌, RefusesWith}
use Rattle.m51_hex.specs.declared.error.HexError.{HexError}
use Rattle.m51_hex.specs.declared.error.HexError.TheVariants.{H5, Memory as WantsMemory}
use Rattle.m51_hex.specs.declared.records.RecordType.{RecordType}
use Rattle.m51_hex.specs.declared.records.RecordType.TheVariants.{Data, EndOfFile}
use Rattle.m51_hex.specs.Memory.{Memory, erased, stored}
use Rattle.m51_hex.specs.Line.{hex_record_of}
use Rattle.m51_hex.specs.Reading.{records_after, records_from, line_read, memory_from, image_refusal}
use Rattle.m51_hex.specs.Record.{HexRecord}

-- what a line with this record gives over a memory
abbrev line_answer : Memory → HexRecord → Result (RecordType × Memory) HexError
line_answer memory r = Ok (r.kind, stored memory r)

-- what comes after a record of this type: the other lines, or the end with the memory as it is
abbrev after_line : RecordType → Memory → Result Memory HexError → Result Memory HexError
after_line Data memory others = others
after_line EndOfFile memory others = Ok memory

-- the memory after lines, which count from that number, are read over a memory one after the other
abbrev pub read_on : Memory → ℕ → List (List ℕ) → Result Memory HexError
read_on memory number [] = Err H5
read_on memory number (line ∷ lines) =
    line_read memory number line >>= λ read. after_line read.0 read.1 (read_on read.1 (number + 1) lines)

-- it is the memory of the records of all lines
read_on_is : (memory : Memory) (number : ℕ) (text : List (List ℕ))
    → read_on memory number text ≡ (records_from number text >>= λ records. Ok (fold stored memory records))
unfolding line_read
read_on_is memory number [] = refl
read_on_is memory number (line ∷ text) =
    by_record (hex_record_of number line) (λ r. read_on_is (stored memory r) (number + 1) text) where
      by_rest : (r : HexRecord) (kind : RecordType) (others : Result (List HexRecord) HexError)
          → read_on (stored memory r) (number + 1) text
          ≡ (others >>= λ records. Ok (fold stored (stored memory r) records))
          → after_line kind (stored memory r) (read_on (stored memory r) (number + 1) text)
          ≡ ((records_after kind others >>= λ records. Ok (r ∷ records)) >>= λ records. Ok (fold stored memory records))
      by_rest r Data (Ok records) h = h
      by_rest r Data (Err e) h = h
      by_rest r EndOfFile others h = refl

      by_record : (one : Result HexRecord HexError)
          → ((r : HexRecord) → read_on (stored memory r) (number + 1) text
          ≡ (records_from (number + 1) text >>= λ records. Ok (fold stored (stored memory r) records)))
          → ((one >>= line_answer memory) >>= λ read. after_line read.0 read.1 (read_on read.1 (number + 1) text))
          ≡ ((one >>= λ r. records_after r.kind (records_from (number + 1) text) >>= λ others. Ok (r ∷ others))
          >>= λ records. Ok (fold stored memory records))
      by_record (Ok r) others = by_rest r r.kind (records_from (number + 1) text) (others r)
      by_record (Err e) others = refl

-- a file is read from its first line on, over an erased memory
pub begins : (memory : Memory) (text : List ℕ) → memory ≡ erased → read_on memory 1 (lines text) ≡ memory_from text
unfolding memory_from
begins memory text e = rw e (read_on_is erased 1 (lines text))

-- a line that is refused is the answer
pub refused : (e : HexError) (memory : Memory) (number : ℕ) (line : List ℕ) (more all : List (List ℕ))
    (whole : Result Memory HexError) → all ≡ line ∷ more → RefusesWith (image_refusal e) (line_read memory number line)
    → read_on memory number all ≡ whole → RefusesWith (image_refusal e) whole
refused WantsMemory memory number line more all whole front h so_far = tt
refused e memory number line more all whole front h so_far = sym so_far ∙ rw (front, h) refl
