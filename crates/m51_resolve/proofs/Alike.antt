-- Segments that are parts of one.
use Rattle.m51_resolve.proofs
use proofs.Common.{arith, ◌≡◌, Bool, true, false, ◌&&◌, ◌||◌, List, [], ◌∷◌, ◌++◌, refl, ◌∙◌, filter, list_any}
use proofs.Common.{bytes_eq, list_any-append, bytes_eq-Decides, Segment, are_parts, is_relocatable}
use Rattle.std.proofs.lemmas.Bool.{and_parts}

-- what is not true is false
pub not_true : (x : Bool) → (x ≡ true → ⊥) → x ≡ false
not_true x h = grind arith

-- neither is true
pub none_of : (x y : Bool) → (x || y) ≡ false → (x ≡ false) × (y ≡ false)
none_of x y h = grind arith

-- both are relocatable, and they have one name
pub record HaveOneName (a b : Segment) : Type 0 where
  pub first : is_relocatable a.reloc ≡ true
  pub second : is_relocatable b.reloc ≡ true
  pub name : a.name ≡ b.name

pub parts_have : (a b : Segment) → are_parts a b ≡ true → HaveOneName a b
parts_have a b h =
    let p = and_parts (is_relocatable a.reloc && is_relocatable b.reloc) (bytes_eq a.name b.name) h in
    let q = and_parts (is_relocatable a.reloc) (is_relocatable b.reloc) p.0 in
    record { first = q.0; second = q.1; name = (bytes_eq-Decides a.name b.name).0 p.1 }

-- a relocatable segment is a part of the same as itself
pub part_self : (a : Segment) → is_relocatable a.reloc ≡ true → are_parts a a ≡ true
part_self a h =
    let same : bytes_eq a.name a.name ≡ true = (bytes_eq-Decides a.name a.name).1 refl in
    cc

-- parts of one are parts with the same segments
pub same_parts : (a b : Segment) → are_parts a b ≡ true → (y : Segment) → are_parts a y ≡ are_parts b y
same_parts a b h y = grind (arith, parts_have)

pub parts_back : (a b : Segment) → are_parts a b ≡ true → are_parts b a ≡ true
parts_back a b h = grind (arith, same_parts, part_self)

pub apart_back : (a b : Segment) → are_parts a b ≡ false → are_parts b a ≡ false
apart_back a b h = not_true (are_parts b a) (grind (arith, parts_back))

-- so they find the same among any
pub any_same : (a b : Segment) → are_parts a b ≡ true → (ys : List Segment) → list_any (are_parts a) ys
    ≡ list_any (are_parts b) ys
any_same a b h ys = grind (arith, same_parts)

pub filter_same : (a b : Segment) → are_parts a b ≡ true → (ys : List Segment) → filter (are_parts a) ys
    ≡ filter (are_parts b) ys
filter_same a b h ys = grind (arith, same_parts)

-- an absolute segment is a part with none
pub absolute_apart : (a : Segment) → is_relocatable a.reloc ≡ false → (y : Segment) → are_parts a y ≡ false
absolute_apart a h y = cc

pub absolute_none : (a : Segment) → is_relocatable a.reloc ≡ false → (ys : List Segment) → list_any (are_parts a) ys
    ≡ false
absolute_none a h [] = refl
absolute_none a h (y ∷ ys) = grind arith ∙ absolute_none a h ys

-- where none passes, none is left
pub filter_none : (p : Segment → Bool) (ys : List Segment) → list_any p ys ≡ false → filter p ys ≡ []
filter_none p [] h = refl
filter_none p (y ∷ ys) h =
    let k = none_of (p y) (list_any p ys) h in
    cc (filter_none p ys k.1)

-- one passes that passed before, or the last
pub any_more : (p : Segment → Bool) (xs ys : List Segment) → list_any p xs ≡ true → list_any p (xs ++ ys) ≡ true
any_more p xs ys h = cc (list_any-append p xs ys)

pub any_last : (p : Segment → Bool) (xs : List Segment) (x : Segment) → p x ≡ true → list_any p (xs ++ x ∷ []) ≡ true
any_last p xs x h = grind (arith, list_any-append)
