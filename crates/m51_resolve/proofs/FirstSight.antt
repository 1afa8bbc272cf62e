-- The segments that are seen first.
use Rattle.m51_resolve.proofs.Common.{◌≡◌, Bool, true, false, ◌||◌, List, [], ◌∷◌, ◌++◌, refl, arith, append_assoc}
use Rattle.m51_resolve.proofs.Common.{append-nil, list_any-append, list_any, Segment, are_parts, is_relocatable}
use Rattle.m51_resolve.specs.Joining.{firsts_after}
use Rattle.m51_resolve.proofs.Alike.{any_last, any_more, any_same, absolute_none, part_self}

-- no segment is a part of the same as a later one
abbrev pub AreApart : List Segment → Type 0
AreApart [] = Unit {0}
AreApart (s ∷ more) = (list_any (are_parts s) more ≡ false) × AreApart more

-- none after is a part of the same as one before
pub none_after : (before xs : List Segment) (f : Segment) → list_any (are_parts f) before ≡ true
    → list_any (are_parts f) (firsts_after before xs) ≡ false
none_after before [] f h = refl
none_after before (x ∷ xs) f h =
    grind (arith, none_after (before ++ x ∷ []) xs f (grind (arith, any_more)), any_same f x)

-- none after is a part of the same as the segment just seen
unseen_after : (r : Bool) (before xs : List Segment) (x : Segment) → is_relocatable x.reloc ≡ r
    → list_any (are_parts x) (firsts_after (before ++ x ∷ []) xs) ≡ false
unseen_after true before xs x h = none_after (before ++ x ∷ []) xs x (any_last (are_parts x) before x (part_self x h))
unseen_after false before xs x h = grind (arith, absolute_none)

pub firsts_apart : (before xs : List Segment) → AreApart (firsts_after before xs)
firsts_apart before [] = tt
firsts_apart before (x ∷ xs) = grind (arith, firsts_apart (before ++ x ∷ []) xs, unseen_after)

-- those seen first among some segments and the next ones
pub firsts_append : (before xs ys : List Segment) → firsts_after before (xs ++ ys)
    ≡ firsts_after before xs ++ firsts_after (before ++ xs) ys
firsts_append before [] ys = rw (append-nil before)
firsts_append before (x ∷ xs) ys = grind (arith, firsts_append (before ++ x ∷ []) xs ys, append_assoc)

-- a segment is a part with one of the segments where it is one with one of those seen first
pub any_firsts : (before xs : List Segment) (s : Segment)
    → (list_any (are_parts s) before || list_any (are_parts s) (firsts_after before xs))
    ≡ (list_any (are_parts s) before || list_any (are_parts s) xs)
any_firsts before [] s = refl
any_firsts before (x ∷ xs) s =
    let p : Segment → Bool = are_parts s in
    let more = firsts_after (before ++ x ∷ []) xs in
    let rest : ((list_any p before || (p x || false)) || list_any p more)
    ≡ ((list_any p before || (p x || false)) || list_any p xs) =
    rw (← list_any-append p before (x ∷ [])) (any_firsts (before ++ x ∷ []) xs s) in
    grind (arith, any_same)
