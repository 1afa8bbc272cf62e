-- A disassembled instruction is cut into the words of the instruction that is meant, and has the length of its row; the
-- label of an address is a name. So each line of a disassembly is short, and is read as the statement that is meant.
use Rattle.m51_disasm_proof.proofs
use proofs.Common.{AreSlots, AtR, BodyTree, Content, Field, IfSome, Imm, Instr, IsAddress, IsContent, IsLabel, IsSlot}
use proofs.Common.{IsSound, IsTarget, Jump, List, Meanings, None, Nop, NotBit, Ok, Option, Plain, R, Slot, Some}
use proofs.Common.{SourceLine, Target, [], ap, append-nil, append_assoc, arith, body_of, codes, common_steps, cond}
use proofs.Common.{false, is_character, label_text, length, length-append, length_in, line_size, list_all, map, meant}
use proofs.Common.{not, operand_of, operands_of, option_map, refl, row_length, target_operand, text_of, texts_are_rows}
use proofs.Common.{true, ℕ, ◌%◌, ◌&&◌, ◌++◌, ◌+◌, ◌/◌, ◌<◌, ◌||◌, ◌∙◌, ◌∷◌, ◌≡◌, ◌≤◌}
use Rattle.m51_asm.specs.Fitting.{size_by}
use Rattle.m51_cells.proofs.NameLaws.{named_is_name}
use Rattle.m51_cells.specs.Name.{name_of}
use Rattle.m51_disasm.specs.Texts.{byte_text, content_text, data_text, digit_text, label_front, line_text}
use Rattle.m51_disasm.specs.Texts.{operand_after, operand_text, plain_text, spelled, statement_text, target_text}
use Rattle.m51_disasm.specs.Texts.{word_text}
use Rattle.m51_disasm_proof.specs.Meaning.{address_operand, data_number, without_label}
use Rattle.m51_encode.specs.Coding.{Line, instruction_line, length_of, line, line_row, look_in}
use Rattle.m51_expr.specs.Looks.{has_form}
use Rattle.m51_expr.specs.Symbol.{arithmetic_word, operator_of, prefix_word, relation_word, word_symbol}
use Rattle.m51_expr.specs.Words.{is_language_word, is_reserved}
use Rattle.m51_isa.specs.Search.{has_row, search}
use Rattle.m51_isa.specs.Spelling.{look_of}
use Rattle.m51_isa.specs.declared.slot.Slot.TheVariants.{ADptr, APc, AtDptr, Nothing}
use Rattle.m51_lex.specs.Characters.{is_name_byte, is_sign}
use Rattle.m51_lex.specs.Number.{number_of}
use Rattle.m51_stmt.proofs.Derives.{statement_reads}
use Rattle.m51_stmt.proofs.LineCuts.{IsCutInto, Stands, Word, after_blank, after_word, no_words, symbol, words_read}
use Rattle.m51_stmt.proofs.ListWords.{Each, comma_word, list_words}
use Rattle.m51_stmt.proofs.PrintedBodies.{IsBody, IsCode, body_said, body_words}
use Rattle.m51_stmt.proofs.PrintedExterns.{IsFree}
use Rattle.m51_stmt.proofs.PrintedOperands.{IsOperand, operand_words, register_written}
use Rattle.m51_stmt.proofs.PrintedParts.{name_symbol}
use Rattle.m51_stmt.proofs.PrintedStatements.{labelled, name_line}
use Rattle.m51_stmt.proofs.WordCuts.{Ends, name_stands, name_word, number_word, run_stands, sign_stands, sign_word}
use Rattle.m51_stmt.proofs.WordCuts.{word_stands}
use Rattle.m51_stmt.specs.Directives.{directive_of, select_of}
use Rattle.m51_stmt.specs.Lines.{any_line, statement, token_line}
use Rattle.m51_stmt.specs.Printing.{register_word}
use Rattle.m51_stmt.specs.Statement.{Code, OperandTree}
use Rattle.std.proofs.Common.{nat_eq}
use Rattle.std.proofs.lemmas.List.Folds.{list_all-append}
use Rattle.std.specs.Char.{to_ascii_uppercase}
use Rattle.std.specs.Fmt.{digit_glyph}
use Rattle.std.specs.List.{cons_option}
use Rattle.std.specs.Prelude.{is_some}
use Rattle.m51_cells.specs.Name as cells
use Rattle.m51_disasm.specs.declared.statement.Content.TheVariants as content
use Rattle.m51_stmt.specs.Control as control
use Rattle.m51_isa.specs.declared.slot.Field.TheVariants as field
use Rattle.m51_stmt.specs.Grammar as grammar
use Rattle.m51_cells.specs.declared.kind.Kind.TheVariants as kind
use Rattle.m51_stmt.specs.Statement as meant
use Rattle.m51_disasm.specs.declared.line.SourceLine.TheVariants as source
use Rattle.m51_expr.specs.declared.symbol.Symbol.TheVariants as symbols
use Rattle.m51_disasm.specs.declared.line.Target.TheVariants as target
use Rattle.m51_expr.specs.Tree as tree
use Rattle.m51_lex.specs.declared.token.What.TheVariants as what

-- ---- labels

-- a hexadecimal digit in upper case
record IsGlyph (c : ℕ) : Type 0 where
  name : cells.is_name_byte c ≡ true
  upper : to_ascii_uppercase c ≡ c
  letter : nat_eq 0x4C c ≡ false

glyph : (d : ℕ) → d < 16 → IsGlyph (digit_glyph true d)
glyph d h = grind (arith, common_steps)

module _ (p q r s : ℕ) (a : IsGlyph p) (b : IsGlyph q) (c : IsGlyph r) (d : IsGlyph s) where
  abbrev label : List ℕ
  label = 0x4C ∷ p ∷ q ∷ r ∷ s ∷ []

  no_word : is_language_word label ≡ false
  unfolding is_language_word
  no_word = grind (arith, common_steps)

  free_name : IsFree label
  unfolding operator_of prefix_word relation_word arithmetic_word is_reserved
  free_name = grind (arith, common_steps, no_word)

-- a statement may define the name of a label, and an expression may have it
pub label_is_free : (address : ℕ) → address < 65536 → IsFree (label_text address)
label_is_free address h =
    free_name _ _ _ _ (glyph (address / 256 / 16) (omega arith)) (glyph (address / 256 % 16) (omega arith))
    (glyph (address % 256 / 16) (omega arith)) (glyph (address % 256 % 16) (omega arith))

-- ---- words

-- a line of words that continues no name and no number
record IsRest (rest : List ℕ) (ws : List Word) : Type 0 where
  ends : Ends rest
  cut : IsCutInto rest (map symbol ws)

no_rest : IsRest [] []
no_rest = record { ends = refl; cut = no_words }

-- a text that is cut into words before such a line
record IsFirst (text : List ℕ) (words : List Word → List Word) : Type 0 where
  before : (rest : List ℕ) (ws : List Word) → IsRest rest ws → IsCutInto (text ++ rest) (map symbol (words ws))

name_first : {text : List ℕ} → name_of text ≡ Some text → IsFirst text (λ ws. name_word text ∷ ws)
name_first is = record { before = λ rest ws r. after_word (name_stands is r.ends) r.cut }

sign_first : {c : ℕ} {text : List ℕ} {words : List Word → List Word} → is_sign c ≡ true → IsFirst text words
    → IsFirst (c ∷ text) (λ ws. sign_word c ∷ words ws)
sign_first is first = record { before = λ rest ws r. after_word (sign_stands is) (first.before rest ws r) }

sum : {word : List ℕ} → name_of word ≡ Some word
    → IsFirst (0x40 ∷ 0x41 ∷ 0x2B ∷ word)
    (λ ws. sign_word 0x40 ∷ name_word (codes "A") ∷ sign_word 0x2B ∷ name_word word ∷ ws)
sum is = sign_first refl (record {
  before = λ rest ws r.
      after_word (name_stands {text = codes "A"} refl refl) ((sign_first refl (name_first is)).before rest ws r);
})

word_first : {n : ℕ} → n < 65536 → IsFirst (word_text n) (λ ws. number_word n ∷ ws)
word_first low = record { before = λ rest ws r. after_word (word_stands low r.ends) r.cut }

-- a number of two digits
abbrev pub byte_word : ℕ → Word
byte_word n = record { what = what.Number n; text = byte_text n }

pub byte_stands : {n : ℕ} {rest : List ℕ} → n < 256 → Ends rest → Stands (byte_word n) rest
unfolding number_of
byte_stands low ends = run_stands (grind (arith, common_steps)) (grind (arith, common_steps)) ends

byte_first : (n : ℕ) → IsFirst (byte_text (n % 256)) (λ ws. number_word (n % 256) ∷ ws)
byte_first n = record { before = λ rest ws r. after_word (byte_stands {n = n % 256} (omega arith) r.ends) r.cut }

register_text : (n : ℕ) → n < 8 → codes "R" ++ digit_text n ≡ register_word n
register_text n low = grind (arith, common_steps)

register_first : {n : ℕ} → n < 8 → IsFirst (codes "R" ++ digit_text n) (λ ws. name_word (register_word n) ∷ ws)
register_first {n} low = rw (register_text n low) (name_first (register_written n low))

-- the words of an operand that may be missing, after those before it and before others
abbrev words_of : List Word → Option OperandTree → List Word → List Word
words_of front None ws = ws
words_of front (Some o) ws = front ++ operand_words o ws

-- the operand that is meant, and its text, cut into its words
record IsOne (text : List ℕ) (o : Option OperandTree) : Type 0 where
  good : IfSome o IsOperand
  first : IsFirst text (words_of [] o)

target_one : (t : Target) → IsTarget t → IsOne (target_text t) (target_operand t)
unfolding target_text
target_one target.Nowhere is = absurd is
target_one (target.Label address) is =
    let leaf = (label_is_free address is).leaf in record { good = leaf; first = name_first leaf.written }
target_one (target.Number address) is = record { good = is; first = word_first is }

plain_one : (t : Target) (f : Field) (n : ℕ) → IsAddress t f → IsOne (plain_text t f n) (address_operand t f n)
unfolding plain_text
plain_one t f n is = grind (arith, common_steps, byte_first n, target_one t)

data_one : (f : Field) (n : ℕ) → n < 65536
    → IsOne (codes "#" ++ data_text f n) (Some (meant.Imm (tree.Number (data_number f n))))
unfolding data_text
data_one field.Data16 n low = record { good = low; first = sign_first refl (word_first low) }
data_one f n low = record { good = omega arith; first = sign_first refl (byte_first n) }

slot_one : (t : Target) (s : Slot) → IsSlot t s → IsOne (operand_text t s) (operand_of t s)
unfolding operand_text
slot_one t Nothing is = record { good = tt; first = record { before = λ rest ws r. r.cut } }
slot_one t APc is = record { good = tt; first = sum refl }
slot_one t ADptr is = record { good = tt; first = sum refl }
slot_one t AtDptr is = record { good = tt; first = sign_first refl (name_first refl) }
slot_one t (R n) is = record { good = is; first = register_first is }
slot_one t (AtR n) is = record { good = is; first = sign_first refl (register_first {n = n} (omega arith)) }
slot_one t (Imm f) is = data_one f.field f.number is
slot_one t (Plain f) is = plain_one t f.field f.number is
slot_one t (NotBit f) is = record { good = omega arith; first = sign_first refl (byte_first f.number) }
slot_one t s is = record { good = tt; first = name_first refl }

-- an operand of a row as one of a line
record IsReadSlot (t : Target) (s : Slot) (o : Option OperandTree) : Type 0 where
  one : IsOne (operand_text t s) o
  look : look_in o ≡ look_of s
  after : (sign : List ℕ) → operand_after sign t s ≡ cond (is_some o) (sign ++ operand_text t s) []

slot_read : (t : Target) (s : Slot) → IsSlot t s → IsReadSlot t s (operand_of t s)
unfolding operand_after
slot_read t s is = grind (arith, common_steps, slot_one t s is)

-- the operands that there are
abbrev given : Option OperandTree → Option OperandTree → Option OperandTree → List OperandTree
given a b c = cons_option a (cons_option b (cons_option c []))

-- operands of which none follows a missing one
record AreGiven (m : List ℕ) (a b c : Option OperandTree) : Type 0 where
  form : has_form m (given a b c) ≡ has_row m (look_in a) (look_in b) (look_in c)
  line : (form : Jump) → instruction_line m (given a b c) form ≡ Some (line m form a b c)
  words : words_of [] a (words_of (comma_word ∷ []) b (words_of (comma_word ∷ []) c []))
      ≡ list_words operand_words (given a b c)

in_order : (m : List ℕ) (a b c : Option OperandTree)
    → ((is_some a || not (is_some b)) && (is_some b || not (is_some c))) ≡ true → AreGiven m a b c
in_order m a b c h = grind (arith, common_steps)

-- an operand and the sign before it, before a line of words
after_sign : {t : Target} {s : Slot} {o : Option OperandTree} {rest : List ℕ} {ws : List Word} (sign : ℕ)
    (front : List Word) → is_name_byte sign ≡ false
    → ((more : List ℕ) (us : List Word) → IsCutInto more (map symbol us)
    → IsCutInto (sign ∷ more) (map symbol (front ++ us)))
    → IsReadSlot t s o → IsRest rest ws → IsRest (operand_after (sign ∷ []) t s ++ rest) (words_of front o ws)
after_sign {o = None} sign front ends joins r more = rw (r.after (sign ∷ [])) more
after_sign {o = Some o} {rest} {ws} sign front ends joins r more =
    rw (r.after (sign ∷ [])) (record { ends = ends; cut = joins _ _ (r.one.first.before rest ws more) })

after_comma : {t : Target} {s : Slot} {o : Option OperandTree} {rest : List ℕ} {ws : List Word}
    → IsReadSlot t s o → IsRest rest ws
    → IsRest (operand_after (codes ",") t s ++ rest) (words_of (comma_word ∷ []) o ws)
after_comma r more = after_sign 0x2C (comma_word ∷ []) refl (λ l us c. after_word (sign_stands refl) c) r more

each_given : {t : Target} {s : Slot} {o : Option OperandTree} → IsReadSlot t s o → (os : List OperandTree)
    → Each IsOperand os → Each IsOperand (cons_option o os)
each_given {o = o} r os each = grind arith

-- the mnemonic of a row is a word of the language
mnemonic_is : (i : Instr) → let m = (text_of i).mnemonic in (name_of m ≡ Some m) × (word_symbol m ≡ symbols.Word m)
unfolding operator_of prefix_word relation_word arithmetic_word is_language_word
mnemonic_is Nop = (refl, refl)
mnemonic_is i = (refl, refl)

-- the row that is found for the text of a row
abbrev pub found_row : Instr → Option Instr
found_row i = let x = text_of i in search x.mnemonic (look_of x.first) (look_of x.second) (look_of x.third)

-- it has the length of the row
found_length : (i : Instr) → option_map row_length (found_row i) ≡ Some (row_length i)
unfolding search
found_length Nop = refl
found_length i = refl

-- the line of an instruction of a row
abbrev pub own_line : Target → Instr → Jump → Line
own_line t i form =
    let x = text_of i in line x.mnemonic form (operand_of t x.first) (operand_of t x.second) (operand_of t x.third)

module _ (t : Target) (i : Instr) (h : AreSlots t (text_of i)) where
  all_given : let x = text_of i in
      AreGiven x.mnemonic (operand_of t x.first) (operand_of t x.second) (operand_of t x.third)
  all_given = in_order _ _ _ _ (grind (arith, common_steps))

  first_read : IsReadSlot t (text_of i).first (operand_of t (text_of i).first)
  first_read = slot_read t (text_of i).first h.first

  second_read : IsReadSlot t (text_of i).second (operand_of t (text_of i).second)
  second_read = slot_read t (text_of i).second h.second

  third_read : IsReadSlot t (text_of i).third (operand_of t (text_of i).third)
  third_read = slot_read t (text_of i).third h.third

  pub line_is : (form : Jump) → instruction_line (text_of i).mnemonic (operands_of t (text_of i)) form
      ≡ Some (own_line t i form)
  line_is form = all_given.line form

  pub row_is : (form : Jump) → line_row (own_line t i form) ≡ found_row i
  row_is form = grind (arith, common_steps, first_read.look, second_read.look, third_read.look, texts_are_rows.apart i)

  -- an instruction of a row is one of the grammar
  pub is_code : IsCode (text_of i).mnemonic (operands_of t (text_of i))
  unfolding has_row
  is_code =
      let last = cons_option (operand_of t (text_of i).third) [] in
      let given = all_given in
      record {
        written = (mnemonic_is i).0;
        word = (mnemonic_is i).1;
        form = grind (arith, common_steps, first_read.look, second_read.look, third_read.look, found_length i);
        each = each_given first_read (cons_option (operand_of t (text_of i).second) last)
            (each_given second_read last (each_given third_read [] tt));
      }

  -- and its text is cut into its words
  pub code_cut : IsCutInto (spelled t (text_of i))
      (map symbol (body_words (Code (text_of i).mnemonic (operands_of t (text_of i)))))
  unfolding spelled
  code_cut =
      let last = rw append-nil at (after_comma third_read no_rest) in
      let rest = after_sign 0x20 [] refl (λ l us c. after_blank c) first_read (after_comma second_read last) in
      simp append_assoc (rw (← all_given.words) (after_word (name_stands (mnemonic_is i).0 rest.ends) rest.cut))

content_size : (names : Meanings) (form : Jump) (t : Target) (c : Content) → IsContent t c
    → size_by names form (body_of t c) ≡ length_in c
unfolding length_of
content_size names form t c h = grind (arith, common_steps, line_is t, row_is t, found_length)

-- the size of a line of a disassembly
pub size_is : (names : Meanings) (form : Jump) (l : SourceLine) → IsSound l
    → size_by names form (meant l).body ≡ line_size l
size_is names form l h = grind (arith, common_steps, content_size names form)

-- ---- each line is short

-- a text of at most this number of bytes, all of which are allowed in a line
pub record IsShort (most : ℕ) (text : List ℕ) : Type 0 where
  pub few : length text ≤ most
  pub allowed : list_all is_character text ≡ true

joined : {m n : ℕ} {a b : List ℕ} → IsShort m a → IsShort n b → IsShort (m + n) (a ++ b)
joined {a} {b} p q = record {
  few = simp length-append (omega arith);
  allowed = list_all-append is_character a b ∙ (λ i. p.allowed i && q.allowed i);
}

word_short : (n : ℕ) → n < 65536 → IsShort 6 (word_text n)
word_short n low = record { few = omega arith; allowed = grind (arith, common_steps) }

byte_short : (n : ℕ) → n < 256 → IsShort 6 (byte_text n)
byte_short n low = record { few = omega arith; allowed = grind (arith, common_steps) }

label_short : (address : ℕ) → address < 65536 → IsShort 6 (label_text address)
label_short address low = record { few = omega arith; allowed = grind (arith, common_steps) }

target_short : (t : Target) → IsTarget t → IsShort 6 (target_text t)
unfolding target_text
target_short t is = grind (arith, common_steps, label_short, word_short)

data_short : (f : Field) (n : ℕ) → n < 65536 → IsShort 6 (data_text f n)
unfolding data_text
data_short f n low = grind (arith, common_steps, word_short n, byte_short (n % 256))

plain_short : (t : Target) (f : Field) (n : ℕ) → IsAddress t f → IsShort 6 (plain_text t f n)
unfolding plain_text
plain_short t f n is = grind (arith, common_steps, byte_short (n % 256), target_short t)

sign_short : (c : ℕ) → is_character c ≡ true → IsShort 1 (c ∷ [])
sign_short c is = record { few = omega arith; allowed = ap (λ b. b && true) is }

operand_short : (t : Target) (s : Slot) → IsSlot t s → IsShort 7 (operand_text t s)
unfolding operand_text
operand_short t (Imm f) is = joined (sign_short 0x23 refl) (data_short f.field f.number is)
operand_short t (Plain f) is =
    grind (arith, plain_short t f.field f.number is)
operand_short t (NotBit f) is = joined (sign_short 0x2F refl) (byte_short (f.number % 256) (omega arith))
operand_short t s is = record { few = omega arith; allowed = grind (arith, common_steps) }

after_short : (c : ℕ) (t : Target) (s : Slot) → is_character c ≡ true → IsSlot t s
    → IsShort 8 (operand_after (c ∷ []) t s)
unfolding operand_after
after_short c t Nothing sign is = record { few = omega arith; allowed = refl }
after_short c t s sign is = joined (sign_short c sign) (operand_short t s is)

mnemonic_short : (i : Instr) → IsShort 5 (text_of i).mnemonic
mnemonic_short Nop = record { few = omega arith; allowed = refl }
mnemonic_short i = record { few = omega arith; allowed = refl }

content_short : (t : Target) (c : Content) → IsContent t c → IsShort 29 (content_text t c)
unfolding content_text spelled
content_short t (content.Byte byte) is = record { few = omega arith; allowed = (byte_short byte is).allowed }
content_short t (content.Code i) is =
    joined (joined (joined (mnemonic_short i) (after_short 0x20 t (text_of i).first refl is.first))
    (after_short 0x2C t (text_of i).second refl is.second)) (after_short 0x2C t (text_of i).third refl is.third)

front_short : (label : Option ℕ) → IsLabel label → IsShort 8 (label_front label)
unfolding label_front
front_short None is = record { few = omega arith; allowed = refl }
front_short (Some address) is = joined {n = 2} (label_short address is) (record { few = omega arith; allowed = refl })

-- no line has more bytes than one may have
pub line_short : (l : SourceLine) → IsSound l → IsShort 37 (line_text l)
unfolding line_text statement_text
line_short source.Nomod51 is = record { few = omega arith; allowed = refl }
line_short (source.Segment base) is = record { few = omega arith; allowed = (word_short base is).allowed }
line_short (source.Statement s) is = joined (front_short s.label is.label) (content_short s.target s.content is.content)
line_short source.End is = record { few = omega arith; allowed = refl }

-- a line that begins with a name is one of tokens
named_line : (name rest : List ℕ) → name_of name ≡ Some name → any_line (name ++ rest) ≡ token_line (name ++ rest)
named_line name rest is = name_line name rest (named_is_name name name is)

-- what a line says after its label: its words are those of a body of the grammar
record IsReadBody (text : List ℕ) (b : BodyTree) : Type 0 where
  tokens : any_line text ≡ token_line text
  good : (at : ℕ) → IsBody at b
  cut : IsCutInto text (map symbol (body_words b))

-- without a label
bare_read : {text : List ℕ} {b : BodyTree} → IsReadBody text b → any_line text ≡ Ok (without_label b)
bare_read {text} {b} r =
    r.tokens
    ∙ words_read (without_label b) r.cut
    (statement_reads (map symbol (body_words b)) (without_label b)
    (grammar.Bare (body_said false 0 (λ _. refl) b (r.good 0))))

labelled_read : (address : ℕ) {text : List ℕ} {b : BodyTree} → address < 65536 → IsReadBody text b
    → any_line ((label_text address ++ codes ": ") ++ text) ≡ Ok (labelled (label_text address) b)
labelled_read address {text} {b} h r =
    let name = label_text address in
    let free = label_is_free address h in
    let said = map symbol (body_words b) in
    ap any_line (append_assoc name (codes ": ") text) ∙ named_line name (codes ": " ++ text) free.leaf.written
    ∙ words_read (labelled name b)
    (after_word (name_stands free.leaf.written refl) (after_word (sign_stands {c = 0x3A} refl) (after_blank r.cut)))
    (ap (λ s. statement (s ∷ symbols.Colon ∷ said)) (name_symbol name free.leaf)
    ∙ statement_reads (symbols.Name name ∷ symbols.Colon ∷ said) (labelled name b)
    (grammar.Labelled free.free (body_said true 2 (λ e. absurd (cc e)) b (r.good 2))))

-- a word at the end of a line
last_word : {w : Word} → Stands w [] → IsCutInto w.text (symbol w ∷ [])
last_word is = rw append-nil at (after_word is no_words)

content_read : (t : Target) (c : Content) → IsContent t c → IsReadBody (content_text t c) (body_of t c)
unfolding content_text spelled
content_read t (content.Byte byte) h = record {
  tokens = named_line (codes "DB") _ refl;
  good = λ at. (omega arith, tt);
  cut = after_word (name_stands {text = codes "DB"} refl refl) (after_blank (last_word (byte_stands h refl)));
}
content_read t (content.Code i) h = record {
  tokens = simp append_assoc (named_line (text_of i).mnemonic _ (is_code t i h).written);
  good = λ at. is_code t i h;
  cut = code_cut t i h;
}

statement_read : (label : Option ℕ) (t : Target) (c : Content) → IsLabel label → IsContent t c
    → any_line (label_front label ++ content_text t c)
    ≡ Ok (record { label = option_map label_text label; body = body_of t c })
unfolding label_front
statement_read None t c l h = bare_read (content_read t c h)
statement_read (Some address) t c l h = labelled_read address l (content_read t c h)

-- CSEG AT
segment_read : (base : ℕ) → base < 65536
    → IsReadBody (codes "CSEG AT " ++ word_text base) (meant.Select kind.Code (Some (tree.Number base)))
unfolding any_line directive_of select_of
segment_read base h = record {
  tokens = refl;
  good = λ at. (refl, h);
  cut = after_word (name_stands {text = codes "CSEG"} refl refl)
      (after_blank (after_word (name_stands {text = codes "AT"} refl refl)
      (after_blank (last_word (word_stands h refl)))));
}

end_read : IsReadBody (codes "END") meant.End
unfolding any_line
end_read = record {
  tokens = refl;
  good = λ at. tt;
  cut = last_word (name_stands {text = codes "END"} refl refl);
}

-- each line that can be written is read as the statement that is meant
pub line_read : (l : SourceLine) → IsSound l → any_line (line_text l) ≡ Ok (meant l)
unfolding line_text statement_text any_line control.body_by_word
line_read source.Nomod51 h = refl
line_read (source.Segment base) h = bare_read (segment_read base h)
line_read (source.Statement s) h = statement_read s.label s.target s.content h.label h.content
line_read source.End h = bare_read end_read
