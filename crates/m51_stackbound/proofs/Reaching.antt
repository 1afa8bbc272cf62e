-- The search for points finds those that are, and no others.
use Rattle.m51_stackbound.proofs.Common.{◌≡◌, ◌≢◌, ◌<◌, ◌≤◌, ◌+◌, ℕ, List, [], ◌∷◌, ◌++◌, length, get_or, arith, inl}
use Rattle.m51_stackbound.proofs.Common.{inr, Contains, cases_lt, common_steps, Contains-append_left, Contains-get_or}
use Rattle.m51_stackbound.proofs.Common.{Contains-push, contains_after, first_or_after, none_in_empty, Result}
use Rattle.m51_stackbound.proofs.Common.{LayoutParts, Point, successors, IsReached, First, After, NotesAll, ◌∙◌}
use Rattle.std.proofs.Common.{append_assoc}
use Rattle.std.proofs.lemmas.List.{append-nil}
use Rattle.std.proofs.lemmas.List.Elements.{Contains-append_cases}
use Rattle.std.proofs.lemmas.List.Quantifiers.{all_pairs_push}
use Rattle.m51_cells.proofs.Small.{contains_first}
use Rattle.m51_cells.specs.declared.limits.TheConstants.{MOST_POINTS}
use Rattle.std.specs.Prelude.{IfOk, Option}
use Rattle.m51_cells.specs.declared.memory.NoMemory.{NoMemory}
use Rattle.m51_stackbound.specs.Search.{AreDifferent, AreReached, AreTooMany, Finds}

-- what adding points does to a list: it grows at its end by what is new
record Grows (old ps new : List Point) : Type 0 where
  pub more : List Point
  pub is : new ≡ old ++ more
  pub from : (p : Point) → Contains more p → Contains ps p
  pub all : (p : Point) → Contains ps p → Contains new p
  pub different : AreDifferent old → AreDifferent new

grown_kept : (old ps new : List Point) → Grows old ps new → (p : Point) → Contains old p → Contains new p
grown_kept old ps new g p k = rw g.is (Contains-append_left old g.more p k)

-- a point that is not in a list differs from each that is
new_differs : (old : List Point) (p : Point) → (Contains old p → ⊥) → AreDifferent old
    → AreDifferent (old ++ p ∷ [])
new_differs old p new h =
    all_pairs_push (λ a b. a ≢ b) old p h
    (λ k d below e. new (k, below, grind (arith, common_steps)))

notes_grow : (ps old new : List Point) → NotesAll old ps new → Grows old ps new
notes_grow [] old new same = rw same (grind (arith, append-nil old, none_in_empty))
notes_grow (p ∷ ps) old new (middle, inl (same, there), rest) =
    let g = rw same at (notes_grow ps middle new rest) in
    record {
      more = g.more;
      is = g.is;
      from = λ q k. contains_after p ps q (g.from q k);
      all = λ q k. grind (arith, first_or_after p ps q k, grown_kept old ps new g q, g.all q);
      different = g.different;
    }
notes_grow (p ∷ ps) old new (middle, inr (is, absent), rest) =
    let g = rw is at (notes_grow ps middle new rest) in
    record {
      more = p ∷ g.more;
      is = g.is ∙ append_assoc old (p ∷ []) g.more;
      from = λ q k.
          grind (arith, first_or_after p g.more q k, contains_first q ps, contains_after p ps q, g.from q);
      all = λ q k.
          grind (arith, first_or_after p ps q k, grown_kept (old ++ p ∷ []) ps new g q, Contains-push old p, g.all q);
      different = λ h. g.different (new_differs old p absent h);
    }

-- the search: what is found are points, the first ones are found, and so are the successors of those that were looked
-- at
pub record IsSearching (l : LayoutParts) (image : List ℕ) (firsts : List Point) (points : List Point) (next : ℕ) : Type
    0 where
  pub only : (p : Point) → Contains points p → IsReached l image firsts p
  pub begun : (p : Point) → Contains firsts p → Contains points p
  pub looked : (i : ℕ) (d p : Point) → i < next → i < length points
      → Contains (successors l image (get_or points i d)) p → Contains points p
  pub different : AreDifferent points
  pub next_few : next ≤ MOST_POINTS

module _ (l : LayoutParts) (image : List ℕ) (firsts : List Point) where
  pub search_first : AreDifferent firsts → IsSearching l image firsts firsts 0
  search_first different = grind (arith, First)

  pub search_step : (old new : List Point) (next : ℕ) (e : Point) → IsSearching l image firsts old next
      → next < length old → length old ≤ MOST_POINTS
      → NotesAll old (successors l image (get_or old next e)) new → IsSearching l image firsts new (next + 1)
  search_step old new next e s below few h =
      let at : Point = get_or old next e in
      let g = notes_grow (successors l image at) old new h in
      record {
        only = λ p k.
            let before = s.only at (Contains-get_or old next e below) in
            grind (arith, Contains-append_cases old g.more p (rw g.is at k), s.only p, After at p before, g.from p);
        begun = λ p k. grown_kept _ _ _ g p (s.begun p k);
        looked = λ i d p before inside k.
            let low : i < length old = omega (arith, before, below) in
            let same : get_or new i d ≡ get_or old i d = grind (arith, common_steps, g.is) in
            elim (cases_lt i next) [
              | inl early ↦ grown_kept _ _ _ g p (s.looked i d p early low (rw same at k))
              | inr late ↦
                  let is : i ≡ next = omega (arith, late, before) in
                  let here : get_or new i d ≡ at = grind (arith, common_steps, same) in
                  g.all p (rw here at k)
            ];
        different = g.different s.different;
        next_few = omega (arith, below, few);
      }

  -- each point is found
  all_found : (points : List Point) (next : ℕ) → IsSearching l image firsts points next → length points ≤ next
      → (p : Point) → IsReached l image firsts p → Contains points p
  all_found points next s done _ (First p first) = s.begun p first
  all_found points next s done _ (After p q is after) =
      let h = all_found points next s done p is in
      s.looked h.0 p q (omega (arith, h.1, done)) h.1 (rw h.2 after)

  pub search_done : (points : List Point) (next : ℕ) → IsSearching l image firsts points next → length points ≤ next
      → AreReached l image firsts points
  search_done points next s done = grind (arith, all_found points next s)

  pub search_stops : (points : List Point) (next : ℕ) → IsSearching l image firsts points next
      → MOST_POINTS < length points → AreTooMany l image firsts
  search_stops points next s many = grind arith

-- what is reached from points is reached from those that have them
pub reached_more : (l : LayoutParts) (image : List ℕ) (fs gs : List Point)
    → ((p : Point) → Contains fs p → Contains gs p) → (p : Point)
    → IsReached l image fs p → IsReached l image gs p
reached_more l image fs gs on _ (First p first) = First p (on p first)
reached_more l image fs gs on _ (After p q is after) = After p q (reached_more l image fs gs on p is) after

-- points that were noted one after another are those that were to be noted
module _ (l : LayoutParts) (image : List ℕ) (firsts noted : List Point) (h : NotesAll [] firsts noted) where
  on : (p : Point) → Contains firsts p → Contains noted p
  on = (notes_grow firsts [] noted h).all

  back : (p : Point) → Contains noted p → Contains firsts p
  back p k = let g = notes_grow firsts [] noted h in g.from p (rw g.is at k)

  pub noted_differ : AreDifferent noted
  noted_differ = (notes_grow firsts [] noted h).different (grind arith)

  pub finds_noted : (r : Option (List Point)) → Finds l image noted r → Finds l image firsts r
  finds_noted r f = grind (arith, reached_more l image noted firsts back, reached_more l image firsts noted on, on)

  pub finds_ok : (r : Result (Option (List Point)) NoMemory) → IfOk r (Finds l image noted)
      → IfOk r (Finds l image firsts)
  finds_ok r f = grind (arith, finds_noted)
