-- What sources give and what objects have are bytes, and so is the image.
use Rattle.m51_build_proof.proofs
use proofs.Common.{Value, IsTree, ModuleParts, SourceFile, option_map_or, Placing, Instr, IsBytes, fit_back, fit_front}
use proofs.Common.{Tree, AllByRecursion, flat_map, All, range_with_len, cons_option, filter_map, Piece, Row, option_map}
use proofs.Common.{slice_get, All-head, All-tail, All-from_get_or, byte_among, Stretch, stretch_at, IsValid}
use proofs.Common.{IsBitNumber, IsFixupValid, cases_Bool, IsRead, Meanings, IsByte, Each, IsItem, IsOperand}
use proofs.Common.{MOST_PIECE_BYTES, placed_fault, FieldBytes, address_of, Fixup, Form}
use proofs.ReadBodies.{IsSmallBody, IsTextItem, AreSmall, IfSmall, IsSmall, counted_small, value_small, SmallTree}
use proofs.ReadBodies.{lines_small, body_small, final_small}
use Rattle.std.proofs.Common.{ℕ, ◌<◌, arith, ◌≡◌, zero, suc, Bool, false, cond, List, [], ◌∷◌, ◌++◌, length, map, drop}
use Rattle.std.proofs.Common.{Option, Some, None, Ok, Err, refl, sym, ◌+◌, ◌*◌, subst, take, ◌==◌, inl, inr}
use Rattle.m51_expr.specs.Value.{Valued}
use Rattle.m51_stmt.specs.Statement.{BodyTree}
use Rattle.m51_text.specs.Answer.{LineTree, Lines, TextTree, Faults as TextFaults, text_of as source_text}
use Rattle.m51_asm.specs.Answer.{Gives, IsAnswer, IsAnswerOf, answer_of_lines, first_fault}
use Rattle.m51_linker.specs.Image.{IsImage, byte_at, content_of, fields_of, fixup_field, module_content, module_fields}
use Rattle.m51_linker.specs.Image.{placed_field, placed_piece}
use Rattle.m51_cells.proofs.Members.{Every, In, every_in, every_map, every_of, got_in, in_flat}
use Rattle.m51_isa.specs.declared.instr.Instr.TheVariants.{Nop}
use Rattle.m51_isa.specs.declared.look.Look.{Look}
use Rattle.m51_isa.specs.Filling.{with_numbers}
use Rattle.m51_isa.specs.Spelling.{look_of, text_of}
use Rattle.m51_isa.specs.Table.{encoded, padded}
use Rattle.m51_isa.specs.declared.generics.Jump.{Jump}
use Rattle.m51_isa.specs.declared.slot.Field.{Field}
use Rattle.m51_isa.specs.declared.slot.FieldSlot.{FieldSlot}
use Rattle.m51_isa.proofs.RowsFilled.{texts_are_rows}
use Rattle.m51_expr.specs.Evaluation.{value_of}
use Rattle.m51_expr.specs.Operand.{OperandTree, ItemTree, Value as ValueItem}
use Rattle.m51_encode.specs.declared.reference.FieldValue.{FieldValue}
use Rattle.m51_encode.specs.declared.reference.FieldValue.TheVariants.{Number}
use Rattle.m51_encode.specs.declared.item.Width.{Width}
use Rattle.m51_encode.specs.declared.item.Width.TheVariants.{Byte, Word}
use Rattle.m51_encode.specs.Coding.{Line, coded, coded_by, coded_line, gathered, instruction_line, line_row, look_in}
use Rattle.m51_encode.specs.FieldValues.{field_of, is_taken, taken_of}
use Rattle.m51_encode.specs.Filling.{Answer, and_then, expression, fielded, filled, filled_by, or_out_of_range, valued}
use Rattle.m51_encode.specs.Items.{item_field}
use Rattle.m51_emit.specs.Content.{coded_content, content_by, item_content, item_given, joined}
use Rattle.m51_asm.proofs.ContentFields.{Held}
use Rattle.m51_asm.specs.Assignment.{Assignment, body_at}
use Rattle.m51_asm.specs.ContentFaults.{content_faults}
use Rattle.m51_asm.specs.ObjectSegments.{final, kept, segment_number}
use Rattle.m51_asm.specs.Parts.{parts}
use Rattle.m51_asm.specs.Pieces.{Run, content_at, if_bytes, offset_at, piece_at, pieces, pieces_of_run, runs_from}
use Rattle.m51_asm.specs.Pieces.{segment_pieces}
use Rattle.m51_asm.specs.ValidTexts.{IsFaultless}
use Rattle.m51_asm.proofs.AnAssignment.{fits, fitting}
use Rattle.m51_asm.proofs.GoodLines.{IsClean, clean}
use Rattle.m51_fields.specs.Fields.{bytes_of_field as field_bytes, field_of as placed_field_of}
use Rattle.m51_records.specs.Contents.{piece_contents}
use Rattle.m51_frame.specs.Fields.{pair}
use Rattle.m51_frame.specs.Frame.{checksummed_bytes, record_of}
use Rattle.m51_records.specs.Spelling.{bytes_of, external_record, header_record, piece_record, public_record}
use Rattle.m51_records.specs.Spelling.{segment_record}
use Rattle.m51_isa.specs.declared.look.Look.TheVariants as look
use Rattle.m51_isa.specs.declared.slot.Field.TheVariants as field
use Rattle.m51_stmt.specs.Statement as body

-- a register is one of R0 to R7, a pointer is R0 or R1
abbrev pub LookFits : Look → Type 0
LookFits (look.R n) = n < 8
LookFits (look.AtR n) = n < 2
LookFits _ = Unit {0}

-- numbers of 16 bits in the fields
pub row_bytes : (i : Instr) (a b c : ℕ) → LookFits (look_of (text_of i).first) → LookFits (look_of (text_of i).second)
    → LookFits (look_of (text_of i).third) → a < 65536 → b < 65536
    → IsBytes (encoded (with_numbers i a b c))
row_bytes Nop a b c one two three small_a small_b = search (arith, one, two, small_a, small_b)
row_bytes i a b c one two three small_a small_b = search (arith, one, two, small_a, small_b)

-- lists of bytes
pub bytes_append : (xs ys : List ℕ) → IsBytes xs → IsBytes ys → IsBytes (xs ++ ys)
bytes_append [] ys h k = k
bytes_append (x ∷ xs) ys h k = (h.0, bytes_append xs ys h.1 k)

pub bytes_take : (n : ℕ) (xs : List ℕ) → IsBytes xs → IsBytes (take n xs)
bytes_take zero xs h = tt
bytes_take (suc n) [] h = tt
bytes_take (suc n) (x ∷ xs) h = (h.0, bytes_take n xs h.1)

pub bytes_drop : (n : ℕ) (xs : List ℕ) → IsBytes xs → IsBytes (drop n xs)
bytes_drop zero xs h = h
bytes_drop (suc n) [] h = tt
bytes_drop (suc n) (x ∷ xs) h = bytes_drop n xs h.1

each_bytes : (xs : List ℕ) → Each IsByte xs → IsBytes xs
each_bytes [] h = tt
each_bytes (x ∷ xs) h = (h.0, each_bytes xs h.1)

-- what is held where a test is passed
cond_some : (b : Bool) (o : Option FieldValue) (held : FieldValue) → cond b o None ≡ Some held → o ≡ Some held
cond_some b o held h = grind arith

-- the number in a field
record IfField (o : Option FieldValue) : Type 0 where
  holds : (n : ℕ) → o ≡ Some (Number n) → n < 65536

taken_small : (names : Meanings) (at : Field) (next : ℕ) (v : Value) (n : ℕ) → IsSmall v
    → taken_of names at next v ≡ Some (Number n) → n < 65536
taken_small names at next v n h e = grind (arith, counted_small v h)

field_small : (names : Meanings) (at : Field) (next : ℕ) (v : Value) → IsSmall v → IfField (field_of names at next v)
unfolding field_of
field_small names at next v h = record {
  holds = λ n e.
      taken_small names at next v n h (cond_some (is_taken names at v) (taken_of names at next v) (Number n) e);
}

-- what an operand gives in its field
record IfHeld (r : Answer Held) : Type 0 where
  holds : (x : Held) → r ≡ Ok x → x.number < 65536

valued_small : (names : Meanings) (next : ℕ) (at : Field) (byte : ℕ) (v : Valued Value) → IfSmall v
    → IfHeld (valued names next at byte v)
valued_small names next at byte (Ok v) h =
    record { holds = λ x e. grind (arith, field_small names at next v (h.holds v refl)) }
valued_small names next at byte (Err e) h = grind arith

abbrev IfTree : Option Tree → Type 0
IfTree None = Unit {0}
IfTree (Some e) = IsTree e

abbrev IfOperand : Option OperandTree → Type 0
IfOperand None = Unit {0}
IfOperand (Some o) = IsOperand o

by_tree : (names : Meanings) → AreSmall names → (next : ℕ) (slot : FieldSlot) (t : Option Tree) → IfTree t
    → IfHeld (filled_by names next slot t)
by_tree names are next slot None h = grind arith
by_tree names are next slot (Some e) h =
    valued_small names next slot.field slot.byte (value_of names e) (value_small names are e h)

filled_small : (names : Meanings) → AreSmall names → (next : ℕ) (slot : Option FieldSlot) (o : Option OperandTree)
    → IfOperand o → IfHeld (filled names next slot o)
filled_small names are next (Some slot) (Some o) h = by_tree names are next slot (expression o) (grind arith)
filled_small names are next slot o h = grind arith

-- an instruction
zeros : IsBytes (0 ∷ 0 ∷ 0 ∷ [])
zeros = (omega arith, (omega arith, (omega arith, tt)))

front_bytes : (xs : List ℕ) → IsBytes xs → IsBytes (take (length xs) (padded xs))
front_bytes xs h = bytes_take (length xs) (padded xs)
    (bytes_take 3 (xs ++ 0 ∷ 0 ∷ 0 ∷ []) (bytes_append xs (0 ∷ 0 ∷ 0 ∷ []) h zeros))

-- what the operands of a row look like
record LooksFit (i : Instr) : Type 0 where
  first : LookFits (look_of (text_of i).first)
  second : LookFits (look_of (text_of i).second)
  third : LookFits (look_of (text_of i).third)

gathered_bytes : (i : Instr) → LooksFit i → (x y z : Answer Held) → IfHeld x → IfHeld y → IfHeld z
    → IsBytes (coded_content (gathered i x y z)).bytes
gathered_bytes i fit (Ok a) (Ok b) (Ok c) hx hy hz =
    front_bytes (encoded (with_numbers i a.number b.number c.number))
    (row_bytes i a.number b.number c.number fit.first fit.second fit.third (hx.holds a refl) (hy.holds b refl))
gathered_bytes i fit x y z hx hy hz = tt

look_fits : (o : Option OperandTree) → LookFits (look_in o)
look_fits o = grind arith

abbrev OperandsAre : Line → Type 0
OperandsAre l = IfOperand l.first × (IfOperand l.second × IfOperand l.third)

row_coded : (names : Meanings) → AreSmall names → (l : Line) → OperandsAre l → (o : Option Instr) → line_row l ≡ o
    → IsBytes (coded_content (coded_by names l o)).bytes
row_coded names are l h None is = tt
row_coded names are l h (Some i) is =
    grind (arith, texts_are_rows.meant l.mnemonic l.jump, look_fits, gathered_bytes, filled_small names are)

abbrev IfLine : Option Line → Type 0
IfLine None = Unit {0}
IfLine (Some l) = OperandsAre l

line_operands : (mnemonic : List ℕ) (operands : List OperandTree) (jump : Jump) → Each IsOperand operands
    → IfLine (instruction_line mnemonic operands jump)
line_operands mnemonic operands jump h = grind arith

content_line_bytes : (names : Meanings) → AreSmall names → (o : Option Line) → IfLine o
    → IsBytes (coded_content (coded_line names o)).bytes
content_line_bytes names are o h = grind (arith, row_coded names are)

-- items of DB and DW
byte_bytes : (item : ItemTree) (r : Answer (Option FieldValue)) → IsTextItem item
    → IsBytes (item_given Byte item r).bytes
byte_bytes item r h = grind (arith, each_bytes)

items_bytes : (names : Meanings) (width : Width) (P : ItemTree → Type 0)
    → ((item : ItemTree) → P item → IsBytes (item_content names width item).bytes) → (items : List ItemTree)
    → Each P items → IsBytes (joined (map (item_content names width) items)).bytes
items_bytes names width P is [] h = tt
items_bytes names width P is (item ∷ items) h = grind (arith, bytes_append, is item, items_bytes names width P is items)

word_field : (e : Tree) (o : Option FieldValue) → IfField o
    → IsBytes (item_given Word (ValueItem e) (and_then (or_out_of_range o) (λ held. Ok (Some held)))).bytes
word_field e o h = grind arith

word_by : (names : Meanings) (e : Tree) (v : Valued Value) → IfSmall v
    → IsBytes (item_given Word (ValueItem e) (and_then (fielded names 0 field.Data16 v) (λ held. Ok (Some held)))).bytes
word_by names e v h = grind (arith, word_field, field_small names field.Data16 0)

word_bytes : (names : Meanings) → AreSmall names → (item : ItemTree) → IsItem false item
    → IsBytes (item_content names Word item).bytes
word_bytes names are item h = grind (arith, word_by names, value_small names are)

-- a line
pub content_bytes : (names : Meanings) → AreSmall names → (jump : Jump) (b : BodyTree) → IsSmallBody b
    → IsBytes (content_by names jump b).bytes
unfolding coded
content_bytes names are jump (body.Code mnemonic operands) h =
    content_line_bytes names are (instruction_line mnemonic operands jump) (line_operands mnemonic operands jump h)
content_bytes names are jump (body.Db items) h =
    items_bytes names Byte IsTextItem (λ item. byte_bytes item (item_field names Byte item)) items h
content_bytes names are jump (body.Dw items) h =
    items_bytes names Word (IsItem false) (word_bytes names are) items h
content_bytes names are jump b h = tt

-- each piece is of bytes
abbrev pub HasOwn : Piece → Type 0
HasOwn p = IsBytes p.bytes

-- what holds of all that each element gives holds of all
pub every_flat : {A B : Type 0} (P : B → Type 0) (f : A → List B) (xs : List A) → ((x : A) → In x xs → Every P (f x))
    → Every P (flat_map f xs)
every_flat P f xs each = every_of P (flat_map f xs)
    (λ y h. let of = in_flat f xs y h in every_in P (f of.0) y (each of.0 of.1) of.2)

-- runs
abbrev IsRun : Run → Type 0
IsRun r = IsBytes r.1

runs_before : (at : ℕ) (bytes : List ℕ) (runs : List Run) → IsBytes bytes → Every IsRun runs
    → Every IsRun (if_bytes at bytes runs)
runs_before at bytes runs h k = grind (arith, bytes_append)

all_pieces : (segment : ℕ) (runs : List Run) → Every IsRun runs
    → Every HasOwn (flat_map (pieces_of_run segment) runs)
all_pieces segment runs h = every_flat HasOwn (pieces_of_run segment) runs (λ run there.
    every_map (piece_at segment run) HasOwn _ (every_of _ _ (λ k _.
    bytes_take MOST_PIECE_BYTES (drop (MOST_PIECE_BYTES * k) run.1)
    (bytes_drop (MOST_PIECE_BYTES * k) run.1 (every_in IsRun runs run h there)))))

module _ (lines : List LineTree) (a : Assignment) (c : IsClean lines a) (all : AllByRecursion SmallTree lines) where
  line_bytes : (k : ℕ) → IsBytes (content_at lines a k).bytes
  unfolding content_at
  line_bytes k = content_bytes (final lines a k) (final_small lines a c all k) (a.form k) (body_at lines k)
      (body_small lines a c all k)

  all_runs : (id k : ℕ) (ls : List LineTree) → Every IsRun (runs_from lines a id k ls)
  all_runs id k [] = tt
  all_runs id k (l ∷ ls) = elim (cases_Bool ((a.segment k).id == id)) [
    | inl here ↦ rw here (runs_before (offset_at lines a k) (content_at lines a k).bytes _ (line_bytes k)
        (all_runs id (suc k) ls))
    | inr other ↦ rw other (all_runs id (suc k) ls)
  ]

  pub parts_pieces : (file : List ℕ) → Every HasOwn (parts file lines a).pieces
  unfolding parts
  parts_pieces file = every_flat HasOwn (segment_pieces lines a) (kept lines a)
      (λ s _. all_pieces (segment_number lines a s.id) (runs_from lines a s.id 0 lines) (all_runs s.id 0 lines))

-- a module that is given is that of the parts of the lines, none of which has a fault
given_by : (file : List ℕ) (lines : List LineTree) (a : Assignment) (m : ModuleParts) (rows : List Row)
    → answer_of_lines file lines a ≡ Gives m rows
    → (first_fault (placed_fault lines a) 0 lines ≡ None) × (content_faults lines a ≡ []) × (m ≡ parts file lines a)
unfolding answer_of_lines
given_by file lines a m rows h = grind arith

module _ (source : SourceFile) (includes : List SourceFile) (m : ModuleParts) (rows : List Row) where
  of_text : (text : TextTree) → source_text source includes ≡ text → IsAnswerOf source.name text (Gives m rows)
      → Every HasOwn m.pieces
  of_text (TextFaults faults) read h = absurd (cc h)
  of_text (Lines lines) read h =
      let a = fitting lines in
      let by = given_by source.name lines a m rows (sym (h a (fits lines))) in
      let faultless : IsFaultless lines a = record {
        source = source;
        includes = includes;
        read = read;
        fits = fits lines;
        placed = by.0;
        content = by.1;
      } in
      rw by.2 (parts_pieces lines a (clean lines a faultless) (lines_small source includes lines read) source.name)

  pub source_pieces : IsAnswer source includes (Gives m rows) → Every HasOwn m.pieces
  source_pieces h = of_text (source_text source includes) refl h

-- an object that is of bytes spells pieces of bytes
framed : (type : ℕ) (contents : List ℕ) → IsBytes (record_of type contents) → IsBytes contents
framed type contents h =
    fit_back (type ∷ pair (length contents + 1)) contents (fit_front (checksummed_bytes type contents) _ h)

one_piece : (p : Piece) → IsBytes (piece_record p) → IsBytes p.bytes
one_piece p h = fit_back (pair p.offset) p.bytes (framed _ (piece_contents p) h).1

pieces_bytes : (pieces : List Piece) → IsBytes (flat_map piece_record pieces) → Every HasOwn pieces
pieces_bytes [] h = tt
pieces_bytes (p ∷ pieces) h =
    grind (arith, one_piece p, fit_front (piece_record p), fit_back (piece_record p), pieces_bytes pieces)

module_pieces : (m : ModuleParts) → IsBytes (bytes_of m) → Every HasOwn m.pieces
unfolding bytes_of
module_pieces m h =
    let one = fit_back (header_record m.name m.version) _ h in
    let two = fit_back (flat_map segment_record m.segments) _ one in
    let three = fit_back (flat_map external_record m.externals) _ two in
    let four = fit_back (flat_map public_record m.publics) _ three in
    pieces_bytes m.pieces (fit_front (flat_map piece_record m.pieces) _ four)

pub object_pieces : (bytes : List ℕ) (m : ModuleParts) (rest : List ℕ) → IsBytes bytes → IsRead bytes m rest
    → Every HasOwn m.pieces
object_pieces bytes m rest fits is =
    module_pieces m (fit_front (bytes_of m) rest (subst IsBytes is.bytes_are fits))

-- stretches of bytes
abbrev IsStretch : Stretch → Type 0
IsStretch s = IsBytes s.bytes

record IfByte (o : Option ℕ) : Type 0 where
  holds : (byte : ℕ) → o ≡ Some byte → byte < 256

no_byte : IfByte None
no_byte = grind arith

get_byte : (xs : List ℕ) (k : ℕ) → IsBytes xs → IfByte (slice_get xs k)
get_byte [] k h = grind arith
get_byte (x ∷ xs) zero h = grind arith
get_byte (x ∷ xs) (suc k) h = get_byte xs k h.1

among_byte : (xs : List Stretch) (address : ℕ) → Every IsStretch xs → IfByte (byte_among xs address)
among_byte [] address h = grind arith
among_byte (s ∷ more) address h = grind (arith, get_byte, among_byte more address)

-- fields are of bytes
record IfFieldBytes (o : Option FieldBytes) : Type 0 where
  holds : (field : FieldBytes) → o ≡ Some field → IsBytes (field_bytes field)

field_is_bytes : (shape : Form) (bit target address first : ℕ) → target < 65536 → IsBitNumber shape bit
    → IfFieldBytes (placed_field_of shape bit target address first)
field_is_bytes shape bit target address first h n = grind arith

-- what holds of a module
pub record HasBytes (m : ModuleParts) : Type 0 where
  pub valid : IsValid m
  pub pieces : Every HasOwn m.pieces

module _ (modules : List ModuleParts) (placing : Placing) (all : Every HasBytes modules) where
  known_at : (m : ℕ) (parts : ModuleParts) → slice_get modules m ≡ Some parts → HasBytes parts
  known_at m parts is = every_in HasBytes modules parts all (got_in modules m parts is)

  content_of_module : (m : ℕ) (o : Option ModuleParts) → slice_get modules m ≡ o
      → Every IsStretch (option_map_or (λ (parts : ModuleParts). map (placed_piece modules placing m) parts.pieces) o
      [])
  content_of_module m None is = tt
  content_of_module m (Some parts) is =
      every_map (placed_piece modules placing m) IsStretch parts.pieces (known_at m parts is).pieces

  content_are : Every IsStretch (content_of modules placing)
  content_are = every_flat IsStretch (module_content modules placing) (range_with_len 0 (length modules))
      (λ m _. content_of_module m (slice_get modules m) refl)

  fixup_bytes : (m : ℕ) (f : Fixup) → IsBitNumber f.form f.bit → IfFieldBytes (fixup_field modules placing m f)
  fixup_bytes m f bit = grind (arith, field_is_bytes)

  option_bytes : (at : ℕ) (o : Option FieldBytes) (rest : List Stretch) → IfFieldBytes o → Every IsStretch rest
      → Every IsStretch (cons_option (option_map (stretch_at at) o) rest)
  option_bytes at o rest h k = grind arith

  fixups_bytes : (m : ℕ) (parts : ModuleParts) (fixups : List Fixup)
      → All (IsFixupValid parts.segments parts.externals parts.pieces) fixups
      → Every IsStretch (filter_map (placed_field modules placing m) fixups)
  fixups_bytes m parts [] valid = tt
  fixups_bytes m parts (f ∷ fixups) valid =
      option_bytes (address_of modules placing m f.segment f.offset) (fixup_field modules placing m f)
      (filter_map (placed_field modules placing m) fixups)
      (fixup_bytes m f (All-head (IsFixupValid parts.segments parts.externals parts.pieces) f fixups valid).bit)
      (fixups_bytes m parts fixups (All-tail (IsFixupValid parts.segments parts.externals parts.pieces) f fixups valid))

  fields_by : (m : ℕ) (o : Option ModuleParts) → slice_get modules m ≡ o
      → Every IsStretch (option_map_or (λ (parts : ModuleParts).
      filter_map (placed_field modules placing m) parts.fixups) o [])
  fields_by m None is = tt
  fields_by m (Some parts) is = fixups_bytes m parts parts.fixups (known_at m parts is).valid.fixups

  fields_are : Every IsStretch (fields_of modules placing)
  fields_are = every_flat IsStretch (module_fields modules placing) (range_with_len 0 (length modules))
      (λ m _. fields_by m (slice_get modules m) refl)

  byte_is : (address : ℕ) → byte_at modules placing address < 256
  byte_is address = grind (
    arith,
    among_byte (fields_of modules placing) address fields_are,
    among_byte (content_of modules placing) address content_are,
  )

  pub image_bytes : (image : List ℕ) → IsImage modules placing image → All (λ byte. byte < 256) image
  image_bytes image is =
      All-from_get_or (λ byte. byte < 256) image 0 (grind (arith, byte_is))
