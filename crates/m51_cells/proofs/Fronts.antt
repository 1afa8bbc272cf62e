-- Laws of visible output that has grown by a prefix of a text, which may be all of it.
use Rattle.std.proofs.Common.{◌≡◌, ℕ, ◌+◌, List, ◌++◌, length, take, Option, Result, Ok, Err, arith, length-append}
use Rattle.std.proofs.Math.Seq.{take-append-add}
use Rattle.std.proofs.lemmas.List.{take-append-le}
use Rattle.std.proofs.KnownBytes.{Appends-trans}
use Rattle.std.specs.Io.KnownBytes.{Appends}
use Rattle.std.specs.Prelude.{OnErr}
use Rattle.m51_cells.specs.Outside.{AppendsFront}

-- a text, and then a prefix of another, are a prefix of the two together
pub front_at_end : (a b c : Option (List ℕ)) (xs ys : List ℕ) → Appends a b xs → AppendsFront b c ys
    → AppendsFront a c (xs ++ ys)
front_at_end a b c xs ys p q =
    let some : take (length xs + q.0) (xs ++ ys) ≡ xs ++ take q.0 ys = take-append-add xs ys q.0 in
    (length xs + q.0, omega (arith, length-append xs ys, q.1), rw some (Appends-trans a b c xs (take q.0 ys) p q.2))

-- a prefix of a text is one of each longer text that begins with it
pub front_more : (a b : Option (List ℕ)) (xs ys : List ℕ) → AppendsFront a b xs → AppendsFront a b (xs ++ ys)
front_more a b xs ys q = (q.0, omega (arith, length-append xs ys, q.1), rw (take-append-le q.0 xs ys q.1) (q.2))

-- the same where a third text follows the second
pub front_after : (a b c : Option (List ℕ)) (xs ys zs : List ℕ) → Appends a b xs → AppendsFront b c ys
    → AppendsFront a c (xs ++ (ys ++ zs))
front_after a b c xs ys zs p q = front_at_end a b c xs (ys ++ zs) p (front_more b c ys zs q)

-- the same of a call that fails within the second text
pub front_then : {T E : Type 0} (r : Result T E) (a b c : Option (List ℕ)) (xs ys : List ℕ) → Appends a b xs
    → OnErr r (AppendsFront b c ys) → OnErr r (AppendsFront a c (xs ++ ys))
front_then (Ok x) a b c xs ys p q = tt
front_then (Err e) a b c xs ys p q = front_at_end a b c xs ys p q
