-- What a set of points holds after one is added.
use Rattle.m51_stackbound.proofs.Common.{◌≡◌, true, List, [], ◌∷◌, ◌++◌, refl, arith, Contains-from_any}
use Rattle.m51_stackbound.proofs.Common.{list_any-from_Contains, Point, Notes, NotesAll}
use Rattle.indexmap.specs.IndexSet.{insert_key}
use Rattle.m51_stackbound.specs.contracts.point.PointPartialEq.TheImpl.{eq-value as point_eq}
use Rattle.m51_stackbound.specs.contracts.point.PointEq.TheImpl.Laws.{laws-law}

pub same_point : (x y : Point) → point_eq.it x y ≡ true → x ≡ y
same_point x y h = grind arith

pub notes_key : (old : List Point) (p : Point) → Notes old p (insert_key point_eq.it old p)
notes_key old p =
    let found = Contains-from_any same_point p old in
    grind (arith, found, list_any-from_Contains laws-law p old)

-- adding the points of one list and then those of another
pub notes_both : (ps qs old middle new : List Point) → NotesAll old ps middle → NotesAll middle qs new
    → NotesAll old (ps ++ qs) new
notes_both [] qs old middle new h k = rw h at k
notes_both (p ∷ ps) qs old middle new h k = (h.0, h.1, notes_both ps qs h.0 middle new h.2 k)

-- one more point after those of a list
pub notes_push : (ps : List Point) (p : Point) (old middle new : List Point) → NotesAll old ps middle
    → Notes middle p new → NotesAll old (ps ++ p ∷ []) new
notes_push ps p old middle new h k = notes_both ps (p ∷ []) old middle new h (new, k, refl)
