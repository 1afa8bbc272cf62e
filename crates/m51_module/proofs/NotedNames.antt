-- Tables of the names of publics: of the modules of a list, and without those of one of them.
use Rattle.std.proofs.lemmas.Grind.{common_steps}
use Rattle.std.proofs.Common.{◌≡◌, ◌≢◌, inl, inr, ℕ, zero, suc, ◌+◌, ◌<◌, ◌≤◌, Bool, true, ◌||◌, List, [], ◌∷◌, ◌++◌}
use Rattle.std.proofs.Common.{length, take, get_or, Option, Some, None, refl, sym, ap, ◌∙◌, append_assoc, arith, false}
use Rattle.std.proofs.Math.Bool.{or_assoc, or_comm, or-false}
use Rattle.std.specs.Prelude.{IfSome, option_map, remove, slice_set}
use Rattle.std.specs.List.{Any, list_any}
use Rattle.std.specs.Str.{bytes_eq}
use Rattle.std.proofs.lemmas.Bool.{cases_lt, false_from_ne_true}
use Rattle.std.proofs.lemmas.Slice.Eq.{bytes_eq-Decides}
use Rattle.std.proofs.lemmas.List.{get_or_default, set-get_or, take_all, take_more}
use Rattle.std.proofs.lemmas.List.Edits.{length-remove, get_or-remove_below, get_or-remove_above}
use Rattle.std.proofs.lemmas.List.Folds.{Any-from_list_any, list_any-append}
use Rattle.m51_module.specs.declared.parts.ModuleParts.{ModuleParts}
use Rattle.m51_module.specs.declared.symbol.Public.{Public}
use Rattle.m51_module.specs.Library.{IsLibrary, ShareNoPublic, has_public}
use Rattle.m51_module.specs.WorkNames.{AreNames, IsBeside, LacksNames, NotesNames}
use Rattle.m51_module.proofs.Held.{apart_back, each_other}

pub or_last : (a b : Bool) → (a || b) ≡ (a || (b || false))
or_last a b = grind arith

-- a table with the names of the publics of one more module, where one is kept
pub names_more : {S : Type 0} (keys : S → List (List ℕ)) (ms : List ModuleParts) (m : ModuleParts)
    (before : Option (List (List ℕ))) (old : List (List ℕ)) (publics : List Public) (found : Option S)
    → before ≡ Some old → IfSome found (λ s. NotesNames (λ (p : Public). p.name) old publics (keys s)) → publics
    ≡ m.publics → AreNames ms before → AreNames (ms ++ m ∷ []) (option_map keys found)
names_more keys ms m before old publics None is noted are names = tt
names_more keys ms m before old publics (Some s) is noted are names = grind (arith, common_steps)

-- and one without those of a module
pub names_less : {S : Type 0} (keys : S → List (List ℕ)) (modules others : List ModuleParts) (m : ModuleParts)
    (before : Option (List (List ℕ))) (old : List (List ℕ)) (publics : List Public) (found : S)
    → before ≡ Some old → LacksNames (λ (p : Public). p.name) old publics (keys found) → publics ≡ m.publics
    → IsBeside modules others m → AreNames modules before
    → AreNames others (option_map keys (Some found))
names_less keys modules others m before old publics found is lacks publics_are beside are = grind arith

-- with the modules of a list one after another
abbrev pub HasAll : Option (List (List ℕ)) → List ModuleParts → ℕ → Option (List (List ℕ)) → Type 0
HasAll before members count now = (ms : List ModuleParts) → AreNames ms before → AreNames (ms ++ take count members) now

pub has_more : (before now next : Option (List (List ℕ))) (members : List ModuleParts) (count : ℕ) (m : ModuleParts)
    → HasAll before members count now → count < length members → m ≡ get_or members count m
    → ((ms : List ModuleParts) → AreNames ms now → AreNames (ms ++ m ∷ []) next)
    → HasAll before members (count + 1) next
has_more before now next members count m all below is one ms names = grind (arith, append_assoc, take_more)

pub has_all : (before now : Option (List (List ℕ))) (members : List ModuleParts) (count : ℕ)
    → HasAll before members count now → length members ≤ count
    → (ms : List ModuleParts) → AreNames ms before → AreNames (ms ++ members) now
has_all before now members count all past ms names = grind (arith, take_all)

-- the next module of a list
pub names_next : (ms : List ModuleParts) (i : ℕ) (m : ModuleParts) (next : Option (List (List ℕ))) → i < length ms → m
    ≡ get_or ms i m
    → AreNames (take i ms ++ m ∷ []) next → AreNames (take (i + 1) ms) next
names_next ms i m next below is names = grind (arith, take_more)

-- a test over a list with another item in the place of one
any_set : {X : Type 0} (p : X → Bool) (xs : List X) (i : ℕ) (x : X) → i < length xs → list_any p (slice_set xs i x)
    ≡ (list_any p (remove xs i) || p x)
any_set p [] i x below = absurd (omega (arith, below))
any_set p (y ∷ ys) zero x below = or_comm (p x) (list_any p ys)
any_set p (y ∷ ys) (suc i) x below = ap (λ b. p y || b) (any_set p ys i x (omega (arith, below)))
    ∙ sym (or_assoc (p y) (list_any p (remove ys i)) (p x))

-- a list with its own item in the place of that
pub set_again : {X : Type 0} (xs : List X) (i : ℕ) (x : X) → x ≡ get_or xs i x → xs ≡ slice_set xs i x
set_again xs i x is = sym (ap (slice_set xs i) is ∙ set-get_or xs i x)

-- the names of the modules with another one in the place of one, from those of the others
pub names_put : (ms new : List ModuleParts) (i : ℕ) (x : ModuleParts) (names next : Option (List (List ℕ)))
    → i < length ms → new ≡ slice_set ms i x → AreNames (remove ms i) names
    → ((modules : List ModuleParts) → AreNames modules names → AreNames (modules ++ x ∷ []) next)
    → AreNames new next
names_put ms new i x names None below is are more = tt
names_put ms new i x names (Some next) below is are more = record {
  each = λ name. (more (remove ms i) are).each name
      ∙ rw (
        is,
        any_set (has_public name) ms i x below,
        list_any-append (has_public name) (remove ms i) (x ∷ []),
        or-false,
      ) refl;
}

-- two modules that share no public
no_both : (m n : ModuleParts) (name : List ℕ) → ShareNoPublic m n → has_public name m ≡ true → has_public name n ≡ true
    → ⊥
no_both m n name apart in_m in_n =
    by (Any-from_list_any (λ (p : Public). bytes_eq p.name name) m.publics in_m)
    (Any-from_list_any (λ (p : Public). bytes_eq p.name name) n.publics in_n)
  where
    by : Any (λ (p : Public). bytes_eq p.name name ≡ true) m.publics
        → Any (λ (p : Public). bytes_eq p.name name ≡ true) n.publics → ⊥
    by (k, p, below, at, one) (j, q, inside, is, two) =
        apart p q (k, below, at) (j, inside, is)
        ((bytes_eq-Decides p.name name).0 one ∙ sym ((bytes_eq-Decides q.name name).0 two))

-- a module of a library beside the others
beside_others : (ms : List ModuleParts) (i : ℕ) (m : ModuleParts) → IsLibrary ms → i < length ms → m ≡ get_or ms i m
    → IsBeside ms (remove ms i) m
beside_others ms i m library below is = record {
  each = λ name. ap (list_any (has_public name)) (set_again ms i m is) ∙ any_set (has_public name) ms i m below;
  apart = λ name has. false_from_ne_true _
      (λ e. none name has (Any-from_list_any (has_public name) (remove ms i) e));
}
  where
    other : (j : ℕ) (x : ModuleParts) (name : List ℕ) → x ≡ get_or ms j x → j < length ms → j ≢ i
        → has_public name m ≡ true → has_public name x ≡ true → ⊥
    other j x name at inside ne in_m in_x = no_both (get_or ms j x) m name
        (each_other ShareNoPublic apart_back ms i m library.publics below (λ d. get_or_default ms i d m below ∙ sym is)
        j x inside ne) (rw (← at) in_x) in_m

    none : (name : List ℕ) → has_public name m ≡ true
        → Any (λ (x : ModuleParts). has_public name x ≡ true) (remove ms i) → ⊥
    none name has (k, x, low, at, has_x) = elim (cases_lt k i) [
      | inl less ↦ other k x name (sym at ∙ get_or-remove_below ms i x k less below) (omega (arith, less, below))
          (λ e. omega (arith, e, less)) has has_x
      | inr more ↦ other (k + 1) x name (sym at ∙ get_or-remove_above ms i x k more below)
          (omega (arith, low, length-remove ms i below)) (λ e. omega (arith, e, more)) has has_x
    ]

-- so a table of the names of all becomes one of the names of the others
pub names_others : (ms all : List ModuleParts) (i : ℕ) (m : ModuleParts) (before now : Option (List (List ℕ)))
    → IsLibrary ms → i < length ms → m ≡ get_or ms i m → all ≡ ms → AreNames all before
    → ((modules others : List ModuleParts) → IsBeside modules others m → AreNames modules before → AreNames others now)
    → AreNames (remove ms i) now
names_others ms all i m before now library below is same known less =
    less ms (remove ms i) (beside_others ms i m library below is) (rw same at known)
