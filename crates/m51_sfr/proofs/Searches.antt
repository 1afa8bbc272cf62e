-- What a search of the table finds.
use Rattle.std.proofs.Common.{◌≡◌, ℕ, ◌+◌, ◌<◌, length, get_or, drop, Bool, true, false, cond, List, [], ◌∷◌, ◌++◌, map}
use Rattle.std.proofs.Common.{Some, None, refl, sym, ap, ◌∙◌}
use Rattle.std.specs.Prelude.{Option, option_map}
use Rattle.std.specs.Option.{option_or}
use Rattle.std.specs.List.{find}
use Rattle.std.specs.Str.{bytes_eq}
use Rattle.std.proofs.lemmas.List.{drop_more}
use Rattle.m51_sfr.specs.Registers.{Row, address_in, bits_among, bits_of}
use Rattle.m51_sfr.specs.Coded.{CodedRow, register_in}

found_step : {A : Type 0} (f : A → ℕ) (b : Bool) (x : A) (rest : Option A) (o : Option ℕ) → option_map f rest ≡ o
    → option_map f (cond b (Some x) rest) ≡ cond b (Some (f x)) o
found_step f true x rest o e = refl
found_step f false x rest o e = e

-- what a search of the code's rows finds
pub found : {A : Type 0} (row_of : A → Row) (xs : List A) (name : List ℕ)
    → option_map (λ x. (row_of x).address) (find (λ x. bytes_eq (row_of x).name name) xs)
    ≡ address_in (map row_of xs) name
found row_of [] name = refl
found row_of (x ∷ xs) name =
    found_step (λ x. (row_of x).address) (bytes_eq (row_of x).name name) x
    (find (λ x. bytes_eq (row_of x).name name) xs)
    (address_in (map row_of xs) name) (found row_of xs name)

or_step : (b : Bool) (n : ℕ) (one other both : Option ℕ) → both ≡ option_or one other
    → cond b (Some n) both ≡ option_or (cond b (Some n) one) other
or_step true n one other both e = refl
or_step false n one other both e = e

-- a search of two lists, one after the other
pub address_or : (xs ys : List Row) (name : List ℕ) → address_in (xs ++ ys) name
    ≡ option_or (address_in xs name) (address_in ys name)
address_or [] ys name = refl
address_or (x ∷ xs) ys name =
    or_step (bytes_eq x.name name) x.address (address_in xs name) (address_in ys name) (address_in (xs ++ ys) name)
    (address_or xs ys name)

-- what a search finds of rows that are made in two steps
pub found_twice : {A : Type 0} (row_of : Row → Row) (made : A → Row) (xs : List A) (name : List ℕ)
    → option_map (λ x. (row_of (made x)).address) (find (λ x. bytes_eq (row_of (made x)).name name) xs)
    ≡ address_in (map row_of (map made xs)) name
found_twice row_of made [] name = refl
found_twice row_of made (x ∷ xs) name =
    found_step (λ x. (row_of (made x)).address) (bytes_eq (row_of (made x)).name name) x
    (find (λ x. bytes_eq (row_of (made x)).name name) xs)
    (address_in (map row_of (map made xs)) name) (found_twice row_of made xs name)

-- the search among registers of which the first is at hand
first_of : (rows : List CodedRow) (i : ℕ) (d : CodedRow) (name : List ℕ) → i < length rows
    → address_in (bits_among (map register_in (drop i rows))) name
    ≡ option_or (address_in (bits_of (register_in (get_or rows i d))) name)
    (address_in (bits_among (map register_in (drop (i + 1) rows))) name)
first_of rows i d name below =
    ap (λ (rest : List CodedRow). address_in (bits_among (map register_in rest)) name) (drop_more rows i d below)
    ∙ address_or (bits_of (register_in (get_or rows i d))) (bits_among (map register_in (drop (i + 1) rows))) name

-- it has the bit
pub among_here : (rows : List CodedRow) (i : ℕ) (d : CodedRow) (name : List ℕ) (address : ℕ) (o : Option ℕ)
    → i < length rows
    → address_in (bits_among (map register_in rows)) name ≡ address_in (bits_among (map register_in (drop i rows))) name
    → o ≡ address_in (bits_of (register_in (get_or rows i d))) name → o ≡ Some address
    → Some address ≡ address_in (bits_among (map register_in rows)) name
among_here rows i d name address o below so_far is some =
    sym (so_far ∙ first_of rows i d name below
    ∙ ap (λ p. option_or p (address_in (bits_among (map register_in (drop (i + 1) rows))) name)) (sym is ∙ some))

-- it has not
pub among_later : (rows : List CodedRow) (i : ℕ) (d : CodedRow) (name : List ℕ) (o : Option ℕ) → i < length rows
    → address_in (bits_among (map register_in rows)) name ≡ address_in (bits_among (map register_in (drop i rows))) name
    → o ≡ address_in (bits_of (register_in (get_or rows i d))) name → o ≡ None
    → address_in (bits_among (map register_in rows)) name
    ≡ address_in (bits_among (map register_in (drop (i + 1) rows))) name
among_later rows i d name o below so_far is none =
    so_far ∙ first_of rows i d name below
    ∙ ap (λ p. option_or p (address_in (bits_among (map register_in (drop (i + 1) rows))) name)) (sym is ∙ none)
