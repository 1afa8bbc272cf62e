-- A field that is read is the field that was written, and what was written is read again.
use Rattle.std.proofs.Common.{◌≡◌, ℕ, suc, ◌+◌, ◌*◌, ◌<◌, Bool, true, cond, List, [], ◌∷◌, ◌++◌, length, get_or, take}
use Rattle.std.proofs.Common.{drop, Option, Some, Ok, Err, refl, sym, ap, subst, ◌∙◌, arith, length-append}
use Rattle.std.specs.Prelude.{nat_le}
use Rattle.std.specs.Cmp.Lexicographic.{bytes_decides}
use Rattle.std.proofs.lemmas.Bool.{le-leb}
use Rattle.std.proofs.lemmas.List.{take_at, drop_at, take-append-drop, length-take}
use Rattle.std.proofs.Math.Nat.{mod-add-div}
use Rattle.m51_cells.specs.declared.kind.Kind.{Kind}
use Rattle.m51_cells.specs.declared.kind.Reloc.{Reloc}
use Rattle.m51_cells.specs.Name.{name_of, IsWritten}
use Rattle.m51_module.specs.declared.content.Form.{Form}
use Rattle.m51_module.specs.declared.object_error.ObjError.{ObjError}
use Rattle.m51_records.specs.Codes.{kind_number, kind_of, reloc_number, reloc_by_code, form_number, form_by_code}
use Rattle.m51_frame.specs.Fields.{offset_of, pair, pair_at, text_field, text_at, same, if_same, upper_name}
use Rattle.m51_records.proofs.Tools.{ok_is}

-- each is a byte
abbrev pub IsBytes : List ℕ → Type 0
IsBytes [] = Unit {0}
IsBytes (b ∷ bytes) = (b < 256) × IsBytes bytes

pub bytes_fit : (bytes : List ℕ) → ((i : ℕ) → get_or bytes i 0 < 256) → IsBytes bytes
bytes_fit [] h = tt
bytes_fit (b ∷ bytes) h = (h 0, bytes_fit bytes (λ i. h (suc i)))

pub fit_front : (xs ys : List ℕ) → IsBytes (xs ++ ys) → IsBytes xs
fit_front [] ys h = tt
fit_front (x ∷ xs) ys h = (h.0, fit_front xs ys h.1)

pub fit_back : (xs ys : List ℕ) → IsBytes (xs ++ ys) → IsBytes ys
fit_back [] ys h = h
fit_back (x ∷ xs) ys h = fit_back xs ys h.1

-- two bytes are a number below 65,536, and each number is two bytes
pub pair_back : (low high : ℕ) → low < 256 → pair (low + 256 * high) ≡ low ∷ high ∷ []
pair_back low high h = grind arith

pub pair_read : (end n : ℕ) (rest : List ℕ) → pair_at end (pair n ++ rest) ≡ Ok (n, rest)
pair_read end n rest = ap (λ m. Ok (m, rest)) (mod-add-div n 256)

pub pair_takes : (end : ℕ) (bytes : List ℕ) (x : ℕ × List ℕ) → IsBytes bytes → pair_at end bytes ≡ Ok x
    → (bytes ≡ pair x.0 ++ x.1) × IsBytes x.1
pair_takes end [] x fits e = absurd cc
pair_takes end (low ∷ []) x fits e = absurd cc
pair_takes end (low ∷ high ∷ rest) x fits e =
    subst (λ (x : ℕ × List ℕ). (low ∷ high ∷ rest ≡ pair x.0 ++ x.1) × IsBytes x.1) (ok_is (low + 256 * high, rest) x e)
    (ap (λ (p : List ℕ). p ++ rest) (sym (pair_back low high fits.0)), fits.1.1)

-- texts
pub text_read : (end : ℕ) (text rest : List ℕ) → text_at end (text_field text ++ rest) ≡ Ok (text, rest)
text_read end text rest =
    let fits = le-leb (length text) (length (text ++ rest)) (omega (arith, length-append text rest)) in
    rw (fits, take_at text rest (length text) refl, drop_at text rest (length text) refl) refl

text_split : (end len : ℕ) (rest : List ℕ) (b : Bool) (x : List ℕ × List ℕ) → nat_le len (length rest) ≡ b
    → cond b (Ok (take len rest, drop len rest))
    (Err (Rattle.m51_module.specs.declared.object_error.ObjError.TheVariants.O4 (offset_of end (len ∷ rest)))) ≡ Ok x
    → len ∷ rest ≡ text_field x.0 ++ x.1
text_split end len rest b x h e = grind (arith, length-take, ok_is, take-append-drop)

pub text_takes : (end : ℕ) (bytes : List ℕ) (x : List ℕ × List ℕ) → text_at end bytes ≡ Ok x → bytes
    ≡ text_field x.0 ++ x.1
text_takes end [] x e = absurd cc
text_takes end (len ∷ rest) x e = text_split end len rest (nat_le len (length rest)) x refl e

-- names
pub same_is : (one two : List ℕ) → same one two ≡ true → one ≡ two
same_is one two h = (bytes_decides one two).0 h

pub same_of : (one two : List ℕ) → one ≡ two → same one two ≡ true
same_of one two h = (bytes_decides one two).1 h

if_same_is : (text name : List ℕ) (o : Option (List ℕ)) → if_same text o ≡ Some name → (o ≡ Some name) × (name ≡ text)
if_same_is text name o e = grind (arith, same_is)

-- a name in upper case is the text itself
pub upper_takes : (text name : List ℕ) → upper_name text ≡ Some name → (text ≡ name) × IsWritten name
upper_takes text name e = let p = if_same_is text name (name_of text) e in
    (sym p.1, subst (λ t. name_of t ≡ Some name) (sym p.1) p.0)

pub upper_read : (name : List ℕ) → IsWritten name → upper_name name ≡ Some name
upper_read name h = ap (if_same name) h ∙ rw (same_of name name refl) refl

-- numbers of kinds, types and forms
pub kind_takes : (n : ℕ) (k : Kind) → kind_of n ≡ Some k → n ≡ kind_number k
kind_takes n k e = grind arith

pub kind_read : (k : Kind) → kind_of (kind_number k) ≡ Some k
kind_read k = grind arith

pub reloc_takes : (n : ℕ) (r : Reloc) → reloc_by_code n ≡ Some r → n ≡ reloc_number r
reloc_takes n r e = grind arith

pub reloc_read : (r : Reloc) → reloc_by_code (reloc_number r) ≡ Some r
reloc_read r = grind arith

pub form_takes : (n : ℕ) (f : Form) → form_by_code n ≡ Some f → n ≡ form_number f
form_takes n f e = grind arith

pub form_read : (f : Form) → form_by_code (form_number f) ≡ Some f
form_read f = grind arith
