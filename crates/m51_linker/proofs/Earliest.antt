-- The first spot of two lists of them is the earlier of their first ones.
use Rattle.std.proofs.Common.{◌≡◌, ℕ, ◌+◌, ◌<◌, List, [], ◌∷◌, ◌++◌, length, take, get_or, Option, Some, None, refl}
use Rattle.std.proofs.Common.{sym, ap, ◌∙◌, arith}
use Rattle.std.specs.Prelude.{flat_map, option_to_list}
use Rattle.std.specs.List.{filter_map, range_with_len}
use Rattle.std.proofs.lemmas.Bool.Decides.{nat_tests}
use Rattle.m51_linker.specs.declared.checking.Spot.{Spot}
use Rattle.m51_linker.specs.Broken.{earlier_of, earlier_spot, least_of}
use Rattle.m51_linker.proofs.Steps.{modules_more, options_more}

first_first : (one two : Spot) (other : Option Spot)
    → earlier_spot one (Some (earlier_spot two other)) ≡ earlier_spot (earlier_spot one (Some two)) other
first_first one two None = refl
first_first one two (Some three) = grind (arith, nat_tests)

earlier_first : (one : Spot) (two other : Option Spot)
    → earlier_spot one (earlier_of two other) ≡ earlier_spot (earlier_spot one two) other
earlier_first one None other = refl
earlier_first one (Some two) other = first_first one two other

pub least-append : (xs ys : List Spot) → least_of (xs ++ ys) ≡ earlier_of (least_of xs) (least_of ys)
least-append [] ys = refl
least-append (x ∷ xs) ys =
    ap (λ (o : Option Spot). Some (earlier_spot x o)) (least-append xs ys)
    ∙ ap (λ (s : Spot). Some s) (earlier_first x (least_of xs) (least_of ys))

-- one more spot, which may be missing
least_option : (o : Option Spot) → least_of (option_to_list o) ≡ o
least_option None = refl
least_option (Some spot) = refl

pub least_more : {X : Type 0} (f : X → Option Spot) (xs : List X) (i : ℕ) (d : X) (now next new : Option Spot)
    → i < length xs
    → now ≡ least_of (filter_map f (take i xs)) → next ≡ f (get_or xs i d) → new ≡ earlier_of now next
    → new ≡ least_of (filter_map f (take (i + 1) xs))
least_more f xs i d now next new below before one is =
    let first : List Spot = filter_map f (take i xs) in
    let last : Option Spot = f (get_or xs i d) in
    is ∙ ap (λ (o : Option Spot). earlier_of o next) before
    ∙ ap (earlier_of (least_of first)) (one ∙ sym (least_option last))
    ∙ sym (least-append first (option_to_list last)) ∙ sym (ap least_of (options_more f xs i d below))

-- one more module
pub least_modules : (items : ℕ → List Spot) (m : ℕ) (now next new : Option Spot)
    → now ≡ least_of (flat_map items (range_with_len 0 m)) → next ≡ least_of (items m)
    → new ≡ earlier_of now next → new ≡ least_of (flat_map items (range_with_len 0 (m + 1)))
least_modules items m now next new before one is =
    let first : List Spot = flat_map items (range_with_len 0 m) in
    is ∙ ap (λ (o : Option Spot). earlier_of o next) before ∙ ap (earlier_of (least_of first)) one
    ∙ sym (least-append first (items m)) ∙ sym (ap least_of (modules_more items m))
