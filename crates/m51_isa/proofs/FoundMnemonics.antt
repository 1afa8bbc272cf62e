-- The mnemonics are those of the rows, and CALL: lines that have a row begin with one, and have a row in each form.
use Rattle.std.proofs.Common.{◌≡◌, ℕ, Bool, true, false, cond, List, Option, Some, None, refl, subst, sym, [], ◌∷◌}
use Rattle.std.proofs.Common.{map, ◌⊎◌, inl, inr}
use Rattle.std.specs.Prelude.{IfSome, codes, ◌||◌, is_some}
use Rattle.std.specs.Str.{bytes_eq}
use Rattle.std.proofs.lemmas.Slice.Eq.{bytes_eq-Decides}
use Rattle.m51_isa.specs.declared.instr.Instr.{Instr}
use Rattle.m51_isa.specs.declared.instr.Instr.TheVariants.{Nop}
use Rattle.m51_isa.specs.declared.look.Look.{Look}
use Rattle.m51_isa.specs.declared.look.Look.TheVariants.{Nothing, Plain}
use Rattle.m51_isa.specs.declared.generics.Jump.{Jump}
use Rattle.m51_isa.specs.declared.generics.Verb.{Verb}
use Rattle.m51_isa.specs.declared.generics.Verb.TheVariants.{Jmp, Call}
use Rattle.m51_isa.specs.Spelling.{text_of}
use Rattle.m51_isa.specs.Generic.{generic}
use Rattle.m51_isa.specs.Search.{row_or, search, has_row, row_for, forms}
use Rattle.m51_isa.specs.Mnemonics.{is_mnemonic, each_once, mnemonics}
use Rattle.m51_isa.specs.TextLaws.{HasRowText}
use Rattle.m51_isa.proofs.RowsSearched.{found_rows_are_written}
use Rattle.std.specs.List.{AllByRecursion, filter, list_any}
use Rattle.m51_isa.specs.MnemonicLaws.{IsOfRow, MnemonicsAreOfRows}

-- the mnemonic of a row is one
pub row_has_mnemonic : (i : Instr) → is_mnemonic (text_of i).mnemonic ≡ true
unfolding is_mnemonic
row_has_mnemonic Nop = refl
row_has_mnemonic i = refl

found_has_mnemonic : (word : List ℕ) (a b c : Look) (o : Option Instr) → IfSome o (HasRowText word a b c)
    → is_some o ≡ true → is_mnemonic word ≡ true
found_has_mnemonic word a b c (Some i) h s = subst (λ w. is_mnemonic w ≡ true) h.mnemonic (row_has_mnemonic i)
found_has_mnemonic word a b c None h s = absurd (cc s)

jmp_is_mnemonic : is_mnemonic (codes "JMP") ≡ true
unfolding is_mnemonic
jmp_is_mnemonic = refl

pub call_is_mnemonic : is_mnemonic (codes "CALL") ≡ true
unfolding is_mnemonic
call_is_mnemonic = refl

by_verb : (word : List ℕ) (x y : Bool) → bytes_eq word (codes "JMP") ≡ x → bytes_eq word (codes "CALL") ≡ y
    → is_some (cond x (Some Jmp) (cond y (Some Call) None)) ≡ true → is_mnemonic word ≡ true
by_verb word true y e f s =
    subst (λ w. is_mnemonic w ≡ true) (sym ((bytes_eq-Decides word (codes "JMP")).0 e)) jmp_is_mnemonic
by_verb word false true e f s = subst (λ w. is_mnemonic w ≡ true) (sym ((bytes_eq-Decides word (codes "CALL")).0 f))
    call_is_mnemonic
by_verb word false false e f s = absurd (cc s)

generic_has_mnemonic : (word : List ℕ) (a b c : Look) → is_some (generic word a b c) ≡ true → is_mnemonic word ≡ true
generic_has_mnemonic word Plain Nothing Nothing s =
    by_verb word (bytes_eq word (codes "JMP")) (bytes_eq word (codes "CALL")) refl refl s
generic_has_mnemonic word a b c s = absurd (cc s)

either : (x y z : Bool) → (x ≡ true → z ≡ true) → (y ≡ true → z ≡ true) → (x || y) ≡ true → z ≡ true
either true y z f g h = f refl
either false y z f g h = g h

-- a word that may have operands is a mnemonic
pub has_mnemonic : (word : List ℕ) (a b c : Look) → has_row word a b c ≡ true → is_mnemonic word ≡ true
unfolding has_row
has_mnemonic word a b c h =
    either (is_some (search word a b c)) (is_some (generic word a b c)) (is_mnemonic word)
    (found_has_mnemonic word a b c (search word a b c) (found_rows_are_written word a b c))
    (generic_has_mnemonic word a b c) h

some_row : (o : Option Instr) (v : Option Verb) (form : Jump) → (is_some o || is_some v) ≡ true
    → is_some (row_or form v o) ≡ true
some_row o (Some verb) form h = refl
some_row (Some i) None form h = refl
some_row None None form h = absurd (cc h)

-- a line that has a row has one in each form of a jump
pub row_in_each_form : (word : List ℕ) (form : Jump) (a b c : Look) → has_row word a b c ≡ true
    → is_some (row_for word form a b c) ≡ true
unfolding has_row
row_in_each_form word form a b c h = some_row (search word a b c) (generic word a b c) form h

abbrev Named : List ℕ → Type 0
Named word = (word ≡ codes "CALL") ⊎ IsOfRow word

abbrev AllNamed : List (List ℕ) → Type 0
AllNamed words = AllByRecursion Named words

rows_named : (rows : List Instr) → AllNamed (map (λ i. (text_of i).mnemonic) rows)
rows_named [] = tt
rows_named (i ∷ rows) = (inr (record { row = i; is = refl }), rows_named rows)

kept_named : (keep : Bool) (word : List ℕ) (words : List (List ℕ)) → Named word → AllNamed words
    → AllNamed (cond keep (word ∷ words) words)
kept_named true word words h all = (h, all)
kept_named false word words h all = all

some_named : (keep : List ℕ → Bool) (words : List (List ℕ)) → AllNamed words → AllNamed (filter keep words)
some_named keep [] all = tt
some_named keep (word ∷ words) all = kept_named (keep word) word _ all.0 (some_named keep words all.1)

once_named : (words : List (List ℕ)) → AllNamed words → AllNamed (each_once words)
once_named [] all = tt
once_named (word ∷ words) all = (all.0, some_named _ (each_once words) (once_named words all.1))

named_by : (word w : List ℕ) (hit more : Bool) → bytes_eq w word ≡ hit → Named w → (more ≡ true → Named word)
    → (hit || more) ≡ true → Named word
named_by word w true more e named go h = subst Named ((bytes_eq-Decides w word).0 e) named
named_by word w false more e named go h = go h

named_among : (word : List ℕ) (words : List (List ℕ)) → AllNamed words
    → list_any (λ w. bytes_eq w word) words ≡ true → Named word
named_among word [] all h = absurd (cc h)
named_among word (w ∷ words) all h = named_by word w _ _ refl all.0 (named_among word words all.1) h

mnemonic_named : (word : List ℕ) → is_mnemonic word ≡ true → Named word
unfolding is_mnemonic
mnemonic_named word h =
    named_among word mnemonics
    (inl refl, once_named (map (λ i. (text_of i).mnemonic) (forms 0 0)) (rows_named (forms 0 0))) h

pub mnemonics_are_of_rows : MnemonicsAreOfRows
mnemonics_are_of_rows = record { rows = row_has_mnemonic; call = call_is_mnemonic; named = mnemonic_named }
