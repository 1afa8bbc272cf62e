-- What lines of a text say, as far as modules ask for it, and that no line of a text without faults has one.
use Rattle.m51_asm.proofs
use Rattle.m51_asm.specs
use proofs.Common.{above, ◌≡◌, ◌≢◌, ℕ, zero, suc, ◌+◌, ◌<◌, Bool, true, false, cond, List, [], ◌∷◌, length, Option}
use proofs.Common.{Some, None, Result, Ok, Err, refl, subst, arith, and_parts, Kind, Reloc, Fault, SourceFile, BodyTree}
use proofs.Common.{StmtTree, Each, LineTree, Assignment, body_at, Fits, is_misplaced, if_fault, content_faults, AreFree}
use proofs.Common.{AllByRecursion, list_all, some_each, IsItem}
use Rattle.m51_cells.specs.Name.{IsWritten}
use Rattle.m51_text.specs.Answer.{Lines, text_of, faults_or_lines, statements_of, with_statement}
use specs.PlacedFaults.{operand_fault, is_past, is_too_many, placed_fault}
use specs.ContentFaults.{faults_from, content_fault}
use specs.Answer.{first_fault, fault_or}
use Rattle.std.proofs.lemmas.List.Elements.{All-from_recursion}
use Rattle.m51_expr.specs.Looks.{has_form}
use Rattle.m51_stmt.specs.Kinds.{reloc_of}
use Rattle.m51_stmt.specs.Definitions.{is_allowed}
use Rattle.m51_stmt.specs.Directives.{select_of, directive_of}
use Rattle.m51_stmt.specs.Lines.{any_line}
use Rattle.m51_stmt.specs.Printing.{reloc_word}
use Rattle.m51_stmt.specs.Laws.{IsByte}
use Rattle.m51_stmt.proofs.PrintedBodies.{IsBody}
use Rattle.m51_stmt.proofs.PrintedStatements.{IsLine}
use Rattle.m51_stmt.proofs.ReadStatements.{written_is_good}
use Rattle.m51_text.specs.Said.{is_character, said}
use Rattle.m51_text.specs.Text.{TextLine}
use specs.Repeats.{is_repeated}
use specs.ValidTexts.{IsFaultless}
use Rattle.m51_cells.specs.declared.kind.Kind.TheVariants as kind
use Rattle.m51_cells.specs.declared.kind.Reloc.TheVariants as reloc
use Rattle.m51_stmt.specs.Statement as body

-- a segment that can be declared
pub record IsDeclared (name : List ℕ) (k : Kind) (r : Reloc) (overlayable : Bool) : Type 0 where
  pub name_is : IsWritten name
  pub kind_is : k ≢ kind.Number
  pub reloc_is : r ≢ reloc.Abs
  pub allowed : is_allowed k r overlayable ≡ true

-- what a line says has names that are written, and kinds, types and operands that are allowed
abbrev pub IsGood : BodyTree → Type 0
IsGood (body.Code mnemonic operands) = has_form mnemonic operands ≡ true
IsGood (body.Dw items) = Each (IsItem false) items
IsGood (body.Segment name k r overlayable) = IsDeclared name k r overlayable
IsGood (body.Select k e) = k ≢ kind.Number
IsGood (body.Public names) = Each IsWritten names
IsGood (body.Extrn externs) = Each (λ e. IsWritten e.0) externs
IsGood (body.ModuleName name) = IsWritten name
IsGood b = Unit {0}

each_weaker : {A : Type 0} (P Q : A → Type 0) → ((x : A) → P x → Q x) → (xs : List A) → Each P xs → Each Q xs
each_weaker P Q w [] h = tt
each_weaker P Q w (x ∷ xs) h = (w x h.0, each_weaker P Q w xs h.1)

good_body : (at : ℕ) (b : BodyTree) → IsBody at b → IsGood b
unfolding reloc_of select_of directive_of
good_body at (body.Code mnemonic operands) is = is.form
good_body at (body.Dw items) is = some_each _ _ is
good_body at (body.Segment name k r overlayable) is = record {
  name_is = is.1.name_is.leaf.written;
  kind_is = λ e. cc (subst (λ j. is_allowed j r overlayable ≡ true) e is.1.allowed);
  reloc_is = λ e. cc (subst (λ t. reloc_of (reloc_word t) ≡ Some t) e is.1.reloc_is);
  allowed = is.1.allowed;
}
good_body at (body.Select k e) is = grind arith
good_body at (body.Public names) is = each_weaker _ _ (λ name h. h.written) names (some_each _ _ is)
good_body at (body.Extrn externs) is = grind (arith, each_weaker)
good_body at (body.ModuleName name) is = cc
good_body at b is = tt

good_line : (label : Option (List ℕ)) (b : BodyTree) → IsLine label b → IsGood b
good_line c b is = grind (arith, good_body)

character_byte : (b : ℕ) → is_character b ≡ true → b < 256
character_byte b h = grind arith

pub bytes_all : (line : List ℕ) → list_all is_character line ≡ true → AllByRecursion IsByte line
bytes_all [] h = tt
bytes_all (b ∷ line) h = let p = and_parts _ _ h in
    (character_byte b p.0, bytes_all line p.1)

abbrev read_as : StmtTree → Result StmtTree ℕ
read_as s = Ok s

pub passes : (b : Bool) (k : ℕ) (r : Result StmtTree ℕ) (s : StmtTree) → cond b r (Err k) ≡ read_as s
    → (b ≡ true) × (r ≡ Ok s)
passes b k r s h = grind arith

pub short : (b : Bool) (k : ℕ) (r : Result StmtTree ℕ) (s : StmtTree) → cond b (Err k) r ≡ read_as s → r ≡ Ok s
short b k r s h = grind arith

good_said : (line : List ℕ) (s : StmtTree) → said line ≡ Ok s → IsGood s.body
unfolding said
good_said line s h =
    let p = passes _ _ _ s h in
    let reads : any_line line ≡ Ok s = short _ _ _ s p.1 in
    good_line s.label s.body
    (written_is_good line s (record { bytes = All-from_recursion IsByte line (bytes_all line p.0); reads = reads }))

one_good : (line : TextLine) (r : Result StmtTree ℕ) (more : List LineTree) → said line.bytes ≡ r
    → ((k : ℕ) → IsGood (body_at more k)) → (k : ℕ) → IsGood (body_at (with_statement line r more) k)
one_good line b more e all k = grind (arith, good_said)

all_good : (ls : List TextLine) (k : ℕ) → IsGood (body_at (statements_of ls) k)
all_good [] k = tt
all_good (l ∷ ls) k = one_good l _ _ refl (all_good ls) k

pub found_are : (faults : List Fault) (ls found : List LineTree) → faults_or_lines faults ls ≡ Lines found → ls ≡ found
found_are b ls found h = grind arith

-- a text in which no line has a fault by the lines above it
pub record IsFreeText (lines : List LineTree) (a : Assignment) : Type 0 where
  pub fits : Fits lines a
  pub good : (k : ℕ) → IsGood (body_at lines k)
  pub placed : (k : ℕ) → k < length lines → placed_fault lines a k ≡ None

-- a text without faults
pub record IsClean (lines : List LineTree) (a : Assignment) : Type 0 where
  pub fits : Fits lines a
  pub good : (k : ℕ) → IsGood (body_at lines k)
  pub placed : (k : ℕ) → k < length lines → placed_fault lines a k ≡ None
  pub content : (k : ℕ) → k < length lines → content_fault lines a k ≡ None

none_first : (l : LineTree) (o : Option ℕ) (later : Option Fault) → fault_or l o later ≡ None
    → (o ≡ None) × (later ≡ None)
none_first l o later h = grind arith

no_more : (l : LineTree) (o : Option ℕ) (more : List Fault) → if_fault l o more ≡ [] → (o ≡ None) × (more ≡ [])
no_more l o more h = grind arith

-- none of these lines has a fault, where what says so says it of the first and of the others
none_from : (fault : ℕ → Option ℕ) (P : ℕ → List LineTree → Type 0)
    → ((n : ℕ) (l : LineTree) (ls : List LineTree) → P n (l ∷ ls) → (fault n ≡ None) × P (suc n) ls)
    → (ls : List LineTree) (n j k : ℕ) → k ≡ n + j → P n ls → j < length ls → fault k ≡ None
none_from fault P parts [] n j k is h below = absurd (omega arith)
none_from fault P parts (l ∷ ls) n zero k is h below = grind arith
none_from fault P parts (l ∷ ls) n (suc j) k is h below =
    none_from fault P parts ls (suc n) j k (omega arith) (parts n l ls h).1 (omega arith)

pub free_text : (lines : List LineTree) (a : Assignment) → IsClean lines a → IsFreeText lines a
free_text lines a c = record { fits = c.fits; good = c.good; placed = c.placed }

module _ (source : SourceFile) (includes : List SourceFile) (lines : List LineTree) (a : Assignment)
    (read : text_of source includes ≡ Lines lines) (fits : Fits lines a) (placed : AreFree lines a (length lines)) where
  pub free_where : IsFreeText lines a
  free_where = grind (arith, all_good)

  -- the lines of a text, of which none has a fault
  pub clean_where : content_faults lines a ≡ [] → IsClean lines a
  clean_where content = record {
    fits = fits;
    good = free_where.good;
    placed = placed;
    content = λ k. none_from (content_fault lines a) (λ n ls. faults_from (content_fault lines a) n ls ≡ [])
        (λ n l ls. no_more l _ _) lines 0 k k (omega arith) content;
  }

pub clean : (lines : List LineTree) (a : Assignment) → IsFaultless lines a → IsClean lines a
clean lines a f = clean_where f.source f.includes lines a f.read f.fits
    (λ k. none_from (placed_fault lines a) (λ n ls. first_fault (placed_fault lines a) n ls ≡ None)
    (λ n l ls. none_first l _ _) lines 0 k k (omega arith) f.placed) f.content

-- a line that has no fault by the lines above it
pub record IsFaultFree (lines : List LineTree) (a : Assignment) (k : ℕ) : Type 0 where
  pub once : is_repeated lines k ≡ false
  pub inside : is_past lines a k ≡ false
  pub stands : is_misplaced (a.segment k) (body_at lines k) ≡ false
  pub few : is_too_many lines a k ≡ false
  pub operand : operand_fault lines (above lines a k) k (body_at lines k) ≡ None

pub test_none : (b : Bool) (n : ℕ) (o : Option ℕ) → cond b (Some n) o ≡ None → (b ≡ false) × (o ≡ None)
test_none b n o h = grind arith

pub free : (lines : List LineTree) (a : Assignment) (k : ℕ) → placed_fault lines a k ≡ None → IsFaultFree lines a k
unfolding placed_fault
free lines a k h = grind (arith, test_none)
