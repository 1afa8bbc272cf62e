-- What is found by a mnemonic and by what the operands look like is written so, and is at its place in the table.
use Rattle.std.proofs.Common.{◌≡◌, ℕ, Bool, true, false, cond, nat_eq, List, [], ◌∷◌, Some, refl, sym, ap, ◌∙◌, map}
use Rattle.std.proofs.Common.{arith, ◌<◌, ◌%◌, Option, None, nat_lt, subst}
use Rattle.std.specs.Prelude.{IfSome, ◌&&◌, slice_index_or, is_some, length}
use Rattle.std.specs.List.{find}
use Rattle.std.specs.Str.{bytes_eq}
use Rattle.std.proofs.lemmas.Grind.{common_steps}
use Rattle.std.proofs.lemmas.Slice.Eq.{bytes_eq-Decides}
use Rattle.m51_isa.specs.declared.instr.Instr.{Instr}
use Rattle.m51_isa.specs.declared.look.Look.{Look}
use Rattle.m51_isa.specs.declared.look.Look.TheVariants.{Nothing, A, Ab, C, Dptr, APc, ADptr, AtDptr, R, AtR, Imm}
use Rattle.m51_isa.specs.declared.look.Look.TheVariants.{Plain, NotBit, Other}
use Rattle.m51_isa.specs.Looks.{look_kind, number_in}
use Rattle.m51_isa.specs.Spelling.{look_of, text_of, Text}
use Rattle.m51_isa.specs.Search.{forms, is_written, search}
use Rattle.m51_isa.specs.TextLaws.{HasRowText}
use Rattle.m51_isa.specs.declared.instr.Instr.TheVariants.{Nop}
use Rattle.m51_isa.specs.declared.table.Columns.{Columns}
use Rattle.m51_isa.specs.declared.table.Operand.{Operand}
use Rattle.m51_isa.specs.declared.table.Operand.TheVariants as operand
use Rattle.m51_isa.specs.Filling.{with_numbers}
use Rattle.m51_isa.specs.Operands.{kept}
use Rattle.m51_isa.specs.Rows.{IsRegister, columns_at, filled_at, fits, fits_at, found, made_at, mnemonic_at}
use Rattle.m51_isa.specs.Rows.{operand_kind, place, refilled, room, row_among, row_count, rows, rows_at, slot_of}
use Rattle.m51_isa.proofs.NumberedRows.{numbers_at, text_at}

-- a row is written as it is
pub as_is : (i : Instr)
    → HasRowText (text_of i).mnemonic (look_of (text_of i).first) (look_of (text_of i).second)
    (look_of (text_of i).third) i
as_is i = record { mnemonic = refl; first = refl; second = refl; third = refl }

-- a look with this number of a register
abbrev pub relook : ℕ → Look → Look
relook n (R m) = R n
relook n (AtR m) = AtR n
relook n l = l

abbrev of_kind : ℕ → ℕ → Look
of_kind kind n = slice_index_or
    (Nothing ∷ A ∷ Ab ∷ C ∷ Dptr ∷ APc ∷ ADptr ∷ AtDptr ∷ R n ∷ AtR n ∷ Imm ∷ Plain ∷ NotBit ∷ []) kind Other

by_kind : (n : ℕ) (l : Look) → of_kind (look_kind l) n ≡ relook n l
by_kind n Nothing = refl
by_kind n l = refl

own : (l : Look) → relook (number_in l) l ≡ l
own Nothing = refl
own l = refl

-- a look of the kind of another, with its register, is that
pub same_look : (l a : Look) → relook (number_in a) l ≡ l → look_kind l ≡ look_kind a → l ≡ a
same_look l a h k =
    let n : ℕ = number_in a in
    sym h ∙ sym (by_kind n l) ∙ ap (λ kind. of_kind kind n) k ∙ by_kind n a ∙ own a

pub four_true : (p q s t : Bool) → (p && q && s && t) ≡ true
    → (p ≡ true) × (q ≡ true) × (s ≡ true) × (t ≡ true)
four_true true true true t h = (refl, refl, refl, h)
four_true true true false t h = absurd (cc h)
four_true true false s t h = absurd (cc h)
four_true false q s t h = absurd (cc h)

pub same_number : (m n : ℕ) → nat_eq m n ≡ true → m ≡ n
same_number m n h = grind (arith, common_steps, h)

-- the looks of a row, and the looks with these registers
abbrev Looks : Type 0
Looks = Look × Look × Look

abbrev looks_of : Instr → Looks
looks_of i = (look_of (text_of i).first, look_of (text_of i).second, look_of (text_of i).third)

abbrev relooks : ℕ → ℕ → ℕ → Instr → Looks
relooks x y z i = (relook x (looks_of i).0, relook y (looks_of i).1, relook z (looks_of i).2)

are_formed : (x y z : ℕ) → map (relooks x y z) (forms x y) ≡ map looks_of (forms x y)
are_formed x y z = refl

module _ (word : List ℕ) (a b c : Look) where
  abbrev test : Instr → Bool
  test = is_written word (look_kind a) (look_kind b) (look_kind c)

  abbrev formed : Instr → Looks
  formed = relooks (number_in a) (number_in b) (number_in c)

  written : (i : Instr) → formed i ≡ looks_of i → test i ≡ true → HasRowText word a b c i
  written i h k =
      let each = four_true (nat_eq (look_kind (looks_of i).0) (look_kind a))
      (nat_eq (look_kind (looks_of i).1) (look_kind b)) (nat_eq (look_kind (looks_of i).2) (look_kind c))
      (bytes_eq (text_of i).mnemonic word) k in
      record {
        mnemonic = (bytes_eq-Decides (text_of i).mnemonic word).0 each.3;
        first = same_look (looks_of i).0 a (ap (λ (l : Looks). l.0) h) (same_number _ _ each.0);
        second = same_look (looks_of i).1 b (ap (λ (l : Looks). l.1) h) (same_number _ _ each.1);
        third = same_look (looks_of i).2 c (ap (λ (l : Looks). l.2) h) (same_number _ _ each.2);
      }

  by_test : (i : Instr) (among : List Instr) (hit : Bool) → test i ≡ hit → formed i ≡ looks_of i
      → IfSome (find test among) (HasRowText word a b c)
      → IfSome (cond hit (Some i) (find test among)) (HasRowText word a b c)
  by_test i among true e h more = written i h e
  by_test i among false e h more = more

  found_among : (among : List Instr) → map formed among ≡ map looks_of among
      → IfSome (find test among) (HasRowText word a b c)
  found_among [] h = tt
  found_among (i ∷ among) h = by_test i among (test i) refl (cc h) (found_among among (cc h))

pub found_rows_are_written : (word : List ℕ) (a b c : Look) → IfSome (search word a b c) (HasRowText word a b c)
unfolding search
found_rows_are_written word a b c =
    found_among word a b c (forms (number_in a) (number_in b))
    (are_formed (number_in a) (number_in b) (number_in c))

-- what is said of the mnemonic and the looks of a row
abbrev of_text : {X : Type 0} → (List ℕ → Look → Look → Look → X) → Instr → X
of_text f i =
    f (text_of i).mnemonic (look_of (text_of i).first) (look_of (text_of i).second) (look_of (text_of i).third)

abbrev found_by : List ℕ → Look → Look → Look → Option ℕ
found_by word a b c = found word (look_kind a) (look_kind b) (look_kind c)

-- each instruction has a row at its place
some_found : (i : Instr) → of_text (λ word a b c. is_some (found_by word a b c)) i ≡ true
some_found Nop = refl
some_found i = refl

-- each instruction is found by its text, with 0 in its fields
by_text : (i : Instr) → of_text search i ≡ Some (with_numbers i 0 0 0)
unfolding search
by_text Nop = refl
by_text i = refl

written_alike : {X : Type 0} (f : List ℕ → Look → Look → Look → X) (word : List ℕ) (a b c : Look) (i : Instr)
    → HasRowText word a b c i → of_text f i ≡ f word a b c
written_alike f word a b c i h = cc (h.mnemonic, h.first, h.second, h.third)

none_by : (word : List ℕ) (a b c : Look) (o : Option Instr) → IfSome o (HasRowText word a b c)
    → None ≡ found_by word a b c → None ≡ o
none_by word a b c None h k = refl
none_by word a b c (Some i) h k =
    let one = sym (written_alike (λ word a b c. is_some (found_by word a b c)) word a b c i h) ∙ some_found i in
    absurd (cc (one, ap is_some k))

-- where no row is at the place, nothing is found
pub none_is_found : (word : List ℕ) (a b c : Look) → None ≡ found_by word a b c → None ≡ search word a b c
none_is_found word a b c none =
    none_by word a b c (search word a b c) (found_rows_are_written word a b c) none

either_holds : (p : ℕ → Bool) (m n : ℕ) (on_m on_n : Bool) → p m ≡ on_m → p n ≡ on_n
    → IfSome (cond on_m (Some m) (cond on_n (Some n) None)) (λ k. p k ≡ true)
either_holds p m n true on_n e f = e
either_holds p m n false true e f = f
either_holds p m n false false e f = tt

two_true : (p q : Bool) → (p && q) ≡ true → (p ≡ true) × (q ≡ true)
two_true true q h = (refl, h)
two_true false q h = absurd (cc h)

-- what is at the place is a row of the table, and fits
record IsFit (word : List ℕ) (a b c n : ℕ) : Type 0 where
  below : n < row_count
  fits : fits word a b c (row_among rows n) ≡ true

is_fit : (word : List ℕ) (a b c n : ℕ) → fits_at word a b c n ≡ true → IsFit word a b c n
is_fit word a b c n h =
    let each = two_true (nat_lt n row_count) (fits word a b c (row_among rows n)) h in
    record { below = grind (arith, common_steps, each.0); fits = each.1 }

fit_of : (word : List ℕ) (a b c n : ℕ) → Some n ≡ found word a b c → IsFit word a b c n
fit_of word a b c n is =
    let p : ℕ → Bool = fits_at word a b c in
    let at : ℕ × ℕ = rows_at (place (slice_index_or word 0 0) (length word) a b) in
    is_fit word a b c n (subst (λ o. IfSome o (λ m. p m ≡ true)) (sym is)
    (either_holds p at.0 at.1 (p at.0) (p at.1) refl refl))

below_is : (count n : ℕ) → n < count → n % count ≡ n
below_is count n h = grind (arith, h)

-- the number of a look, in an operand of its kind, looks so
own_look : (o : Operand) (n : ℕ) → relook n (look_of (slot_of o n)) ≡ look_of (slot_of o n)
own_look operand.Nothing n = refl
own_look o n = refl

own_kind : (o : Operand) (n : ℕ) → look_kind (look_of (slot_of o n)) ≡ operand_kind o
own_kind operand.Nothing n = refl
own_kind o n = refl

looks_so : (o : Operand) (l : Look) → nat_eq (operand_kind o) (look_kind l) ≡ true
    → look_of (slot_of o (number_in l)) ≡ l
looks_so o l h =
    same_look _ l (own_look o (number_in l)) (own_kind o (number_in l) ∙ same_number (operand_kind o) _ h)

-- it has room for that of a register, and its field is 0
room_by : (o : Operand) (n : ℕ) → IsRegister (look_of (slot_of o n)) → number_in (look_of (slot_of o n)) ≡ n
    → room o n ≡ refilled o n 0
room_by operand.R n h e = below_is 8 n h
room_by operand.AtR n h e = below_is 2 n h
room_by (operand.Imm f byte) n h e = ap (kept f) (sym e)
room_by (operand.Plain f byte) n h e = ap (kept f) (sym e)
room_by (operand.NotBit f byte) n h e = ap (kept f) (sym e)
room_by o n h e = refl

has_room : (o : Operand) (l : Look) → nat_eq (operand_kind o) (look_kind l) ≡ true → IsRegister l
    → room o (number_in l) ≡ refilled o (number_in l) 0
has_room o l h on =
    room_by o (number_in l) (subst IsRegister (sym (looks_so o l h)) on) (ap number_in (looks_so o l h))

module _ (word : List ℕ) (a b c : Look) (n : ℕ) (found : Some n ≡ found_by word a b c) where
  abbrev r : Columns
  r = columns_at n

  fit : IsFit word (look_kind a) (look_kind b) (look_kind c) n
  fit = fit_of word (look_kind a) (look_kind b) (look_kind c) n found

  each : (nat_eq (operand_kind r.first) (look_kind a) ≡ true) × (nat_eq (operand_kind r.second) (look_kind b) ≡ true)
      × (nat_eq (operand_kind r.third) (look_kind c) ≡ true) × (bytes_eq (mnemonic_at n) word ≡ true)
  each = four_true _ _ _ _ fit.fits

  abbrev made : Instr
  made = made_at n (number_in a) (number_in b) (number_in c)

  made_so : HasRowText word a b c made
  made_so =
      let t = text_at n (number_in a) (number_in b) (number_in c) fit.below in
      record {
        mnemonic = ap (λ (t : Text). t.mnemonic) t ∙ (bytes_eq-Decides (mnemonic_at n) word).0 each.3;
        first = ap (λ (t : Text). look_of t.first) t ∙ looks_so r.first a each.0;
        second = ap (λ (t : Text). look_of t.second) t ∙ looks_so r.second b each.1;
        third = ap (λ (t : Text). look_of t.third) t ∙ looks_so r.third c each.2;
      }

  -- the row with the registers of the line, and 0 in its fields, is searched
  made_searched : search word a b c
      ≡ Some (made_at n (refilled r.first (number_in a) 0) (refilled r.second (number_in b) 0)
      (refilled r.third (number_in c) 0))
  made_searched =
      sym (written_alike search word a b c made made_so) ∙ by_text made
      ∙ ap Some (numbers_at n (number_in a) (number_in b) (number_in c) fit.below 0 0 0)

  -- so it is what the row gives with the numbers of the operands
  pub row_is_found : (x y z : ℕ) → x ≡ number_in a → y ≡ number_in b → z ≡ number_in c
      → IsRegister a → IsRegister b → IsRegister c → Some (filled_at n x y z) ≡ search word a b c
  row_is_found x y z e f g on_a on_b on_c =
      rw e (rw f (rw g (rw (has_room r.first a each.0 on_a) (rw (has_room r.second b each.1 on_b)
      (rw (has_room r.third c each.2 on_c) (sym made_searched))))))

-- there is a row at the place of a line exactly if one is searched
pub found_some : (word : List ℕ) (a b c : Look) (o : Option ℕ) → o ≡ found_by word a b c
    → is_some o ≡ is_some (search word a b c)
found_some word a b c None is = ap is_some (none_is_found word a b c is)
found_some word a b c (Some n) is = sym (ap is_some (made_searched word a b c n is))
