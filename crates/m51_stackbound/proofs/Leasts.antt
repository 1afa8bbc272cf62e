-- The first of several reached addresses, of the listed points and of the program.
use Rattle.m51_stackbound.proofs.Common.{◌≡◌, ◌<◌, ◌+◌, ℕ, Bool, true, false, List, [], ◌∷◌, length, get_or, take, refl}
use Rattle.m51_stackbound.proofs.Common.{arith, ◌⊎◌, inr, Option, Some, None, Contains, cases_Bool, common_steps}
use Rattle.m51_stackbound.proofs.Common.{take_more, Contains-push, Contains-push_cases, Contains-append_left}
use Rattle.m51_stackbound.proofs.Common.{LayoutParts, Rule, ReachedAddress, Point, IsLeast, reached_address}
use Rattle.m51_stackbound.proofs.Common.{IsFirstBreach, not, ◌++◌, list_any, cases_lt, Contains-from_any}
use Rattle.m51_stackbound.proofs.Common.{list_any-from_Contains, HasTwo, NotesPlace, Contains-get_or, Result}
use Rattle.m51_stackbound.proofs.Common.{HasTwoHeights, ArePoints}
use Rattle.std.proofs.lemmas.Bool.Decides.{nat_tests}
use Rattle.m51_stackbound.specs.Points.{instruction}
use Rattle.m51_stackbound.specs.Rules.{NoLater, no_later, lesser, breaks_by, IsBroken}
use Rattle.indexmap.specs.IndexSet.{insert_key}
use Rattle.m51_stackbound.specs.contracts.point.ReachedAddressPartialEq.TheImpl.{eq-value as place_eq}
use Rattle.m51_stackbound.specs.contracts.point.ReachedAddressEq.TheImpl.Laws.{laws-law}
use Rattle.std.proofs.lemmas.List.{length-take-le}
use Rattle.std.specs.Prelude.{IfOk}
use Rattle.m51_cells.specs.declared.memory.NoMemory.{NoMemory}
use Rattle.m51_stackbound.specs.Bounds.{Breaks}

pub no_later_is : (p q : ReachedAddress) → no_later p q ≡ true → NoLater p q
unfolding no_later
no_later_is p q h = grind (arith, nat_tests)

pub later_is : (p q : ReachedAddress) → no_later p q ≡ false → NoLater q p
unfolding no_later
later_is p q h = grind (arith, nat_tests)

no_later_self : (p : ReachedAddress) → NoLater p p
no_later_self p = inr (refl, omega arith)

no_later_twice : (p q r : ReachedAddress) → NoLater p q → NoLater q r → NoLater p r
no_later_twice p q r h k = grind (arith, common_steps)

-- the same reached addresses have the same first
pub least_same : (Is New : ReachedAddress → Type 0) (r : Option ReachedAddress) → IsLeast Is r
    → ((p : ReachedAddress) → New p → Is p) → ((p : ReachedAddress) → Is p → New p) → IsLeast New r
least_same Is New r h back on = grind (arith, common_steps)

-- one more reached address
pub least_more : (Is New : ReachedAddress → Type 0) (r : Option ReachedAddress) (reached : ReachedAddress)
    → IsLeast Is r
    → ((p : ReachedAddress) → New p → Is p ⊎ (reached ≡ p)) → ((p : ReachedAddress) → Is p → New p) → New reached
    → IsLeast New (Some (lesser r reached))
unfolding lesser
least_more Is New None reached h back on new = grind (arith, common_steps, no_later_self reached)
least_more Is New (Some old) reached h back on new =
    grind (arith, cases_Bool (no_later old reached), no_later_is, no_later_twice reached old, later_is, no_later_self)

-- an element of a longer prefix is one of the shorter prefix, or the next
pub front_cases : {X : Type 0} (xs : List X) (i : ℕ) (d x : X) → i < length xs → Contains (take (i + 1) xs) x
    → Contains (take i xs) x ⊎ (get_or xs i d ≡ x)
front_cases xs i d x below h =
    Contains-push_cases (take i xs) (get_or xs i d) x (rw (take_more xs i d below) at h)

pub front_kept : {X : Type 0} (xs : List X) (i : ℕ) (d x : X) → i < length xs → Contains (take i xs) x
    → Contains (take (i + 1) xs) x
front_kept xs i d x below h =
    rw (take_more xs i d below) (Contains-append_left (take i xs) (get_or xs i d ∷ []) x h)

pub front_next : {X : Type 0} (xs : List X) (i : ℕ) (d : X) → i < length xs → Contains (take (i + 1) xs) (get_or xs i d)
front_next xs i d below =
    rw (take_more xs i d below) (Contains-push (take i xs) (get_or xs i d))

module _ (l : LayoutParts) (image : List ℕ) (rule : Rule) (points : List Point) where
  abbrev Broken : ℕ → ReachedAddress → Type 0
  Broken i = IsBroken l image rule (Contains (take i points))

  pub breach_passes : (i : ℕ) (d : Point) (r : Option ReachedAddress) → i < length points
      → breaks_by rule (get_or points i d) (instruction l image (get_or points i d).address) ≡ false
      → IsFirstBreach l image rule (take i points) r → IsFirstBreach l image rule (take (i + 1) points) r
  breach_passes i d r below fails h =
      least_same (Broken i) (Broken (i + 1)) r h (grind (arith, common_steps, front_cases points i d))
      (grind (arith, common_steps, front_kept points i d))

  pub breach_more : (i : ℕ) (d : Point) (r : Option ReachedAddress) → i < length points
      → breaks_by rule (get_or points i d) (instruction l image (get_or points i d).address) ≡ true
      → IsFirstBreach l image rule (take i points) r
      → IsFirstBreach l image rule (take (i + 1) points) (Some (lesser r (reached_address (get_or points i d))))
  breach_more i d r below breaks h =
      least_more (Broken i) (Broken (i + 1)) r _ h (grind (arith, common_steps, front_cases points i d))
      (grind (arith, common_steps, front_kept points i d)) (grind (arith, front_next))

pub same_place : (x y : ReachedAddress) → place_eq.it x y ≡ true → x ≡ y
same_place x y h = grind arith

pub notes_place : (old : List ReachedAddress) (reached : ReachedAddress) (added : Bool)
    → added ≡ not (list_any (place_eq.it reached) old)
    → NotesPlace old reached (insert_key place_eq.it old reached) (not added)
notes_place old reached added h =
    let found = Contains-from_any same_place reached old in
    grind (arith, common_steps, found, list_any-from_Contains laws-law reached old, laws-law)

-- one of the first points, of this number, has the reached address
pub record HasPlace (points : List Point) (count : ℕ) (reached : ReachedAddress) : Type 0 where
  pub point : Point
  pub before : Contains (take count points) point
  pub is : reached_address point ≡ reached

-- the reached addresses of the first points, of this number, and the first that two of them have
pub record IsDoubling (points : List Point) (count : ℕ) (addresses : List ReachedAddress)
    (least : Option ReachedAddress) : Type 0 where
  pub only : (reached : ReachedAddress) → Contains addresses reached → HasPlace points count reached
  pub all : (reached : ReachedAddress) → HasPlace points count reached → Contains addresses reached
  pub first : IsLeast (HasTwo points count) least

module _ (points : List Point) (i : ℕ) (d : Point) (below : i < length points) where
  abbrev here : ReachedAddress
  here = reached_address (get_or points i d)

  wider : (reached : ReachedAddress) → HasTwo points i reached → HasTwo points (i + 1) reached
  wider reached h = grind (arith, common_steps)

  later : (reached : ReachedAddress) → HasPlace points i reached → HasPlace points (i + 1) reached
  later reached h = grind (arith, front_kept)

  newest : HasPlace points (i + 1) here
  newest = grind (arith, common_steps, get_or points i d, front_next points i d below)

  places_cases : (reached : ReachedAddress) → HasPlace points (i + 1) reached
      → HasPlace points i reached ⊎ (here ≡ reached)
  places_cases reached h =
      grind (arith, common_steps, front_cases points i d h.point below h.before)

  -- what two of the longer prefix have, two of the shorter one have, or the newest point and one before it
  two_cases : (reached : ReachedAddress) → HasTwo points (i + 1) reached
      → HasTwo points i reached ⊎ ((here ≡ reached) × HasPlace points i reached)
  two_cases reached h = grind (arith, common_steps, cases_lt h.second i, d)

  two_here : HasPlace points i here → HasTwo points (i + 1) here
  two_here h = record {
    second = i;
    below = omega arith;
    inside = below;
    one = h.point;
    before = h.before;
    place_one = h.is;
    place_two = λ e. grind (arith, common_steps, below);
  }

  pub doubling_new : (addresses new : List ReachedAddress) (least : Option ReachedAddress)
      → new ≡ addresses ++ here ∷ []
      → (Contains addresses here → ⊥) → IsDoubling points i addresses least → IsDoubling points (i + 1) new least
  doubling_new addresses new least is absent h = record {
    only = λ reached k. grind (
      arith,
      Contains-push_cases addresses here reached (rw is at k),
      h.only reached,
      later reached,
      newest,
    );
    all = λ reached k. rw is
        (grind (
          arith,
          places_cases reached k,
          h.all reached,
          Contains-append_left addresses (here ∷ []) reached,
          Contains-push addresses here,
        ));
    first = least_same (HasTwo points i) (HasTwo points (i + 1)) least h.first
        (λ reached k. grind (arith, two_cases reached k, h.all reached))
        wider;
  }

  pub doubling_again : (addresses new : List ReachedAddress) (least : Option ReachedAddress) → new ≡ addresses
      → Contains addresses here → IsDoubling points i addresses least
      → IsDoubling points (i + 1) new (Some (lesser least here))
  doubling_again addresses new least is there h = record {
    only = λ reached k. later reached (h.only reached (rw is at k));
    all = λ reached k. rw is (grind (arith, places_cases reached k, h.all reached));
    first = least_more (HasTwo points i) (HasTwo points (i + 1)) least here h.first
        (grind (arith, common_steps, two_cases))
        wider
        (two_here (h.only here there));
  }

-- What holds of the listed points holds of the points of the program.
pub first_of_points : (l : LayoutParts) (image : List ℕ) (rule : Rule) (points : List Point) (r : Option ReachedAddress)
    → ArePoints l image points → IsFirstBreach l image rule points r → IsLeast (Breaks l image rule) r
first_of_points l image rule points r are h = grind (arith, least_same)

-- two of the listed points have the reached address exactly if two points of the program have it with different heights
module _ (l : LayoutParts) (image : List ℕ) (points : List Point) (are : ArePoints l image points) where
  heights_from_two : (reached : ReachedAddress) → HasTwo points (length points) reached → HasTwoHeights l image reached
  heights_from_two reached h =
      let at = h.before.0 in
      let none = h.one in
      let low : at < h.second = grind (arith, length-take-le) in
      let first : get_or points at none ≡ h.one = grind (arith, common_steps, h.before.2, low, h.inside) in
      record {
        one = h.one;
        two = get_or points h.second none;
        one_is = are.only h.one (at, omega (arith, low, h.inside), first);
        two_is = are.only (get_or points h.second none) (Contains-get_or points h.second none h.inside);
        place_one = h.place_one;
        place_two = h.place_two none;
        heights = grind arith;
      }

  -- of two different indices one comes first
  two_from : (reached : ReachedAddress) (p q : Point) (i j : ℕ) → i < j → j < length points
      → ((d : Point) → get_or points i d ≡ p) → ((d : Point) → get_or points j d ≡ q)
      → reached_address p ≡ reached → reached_address q ≡ reached → HasTwo points (length points) reached
  two_from reached p q i j low below at there h k = record {
    second = j;
    below = below;
    inside = below;
    one = p;
    before = (i, grind (arith, common_steps, low, below), grind (arith, common_steps, low, below, at p));
    place_one = h;
    place_two = λ d. cc (there d);
  }

  at_any : (p : Point) (h : Contains points p) (d : Point) → get_or points h.0 d ≡ p
  at_any p h d = let below = h.1 in grind (arith, common_steps, below, h.2)

  two_from_heights : (reached : ReachedAddress) → HasTwoHeights l image reached → HasTwo points (length points) reached
  two_from_heights reached h =
      let a = are.all h.one h.one_is in
      let b = are.all h.two h.two_is in
      grind (
        arith,
        common_steps,
        cases_lt a.0 b.0,
        two_from reached h.one h.two a.0 b.0,
        at_any h.one a,
        at_any h.two b,
        cases_lt b.0 a.0,
        two_from reached h.two h.one b.0 a.0,
        at_any h.one a h.one,
        at_any h.two b h.one,
      )

  pub first_heights : (r : Option ReachedAddress) → IsLeast (HasTwo points (length points)) r
      → IsLeast (HasTwoHeights l image) r
  first_heights r h = least_same (HasTwo points (length points)) (HasTwoHeights l image) r h two_from_heights
      heights_from_two

  pub ok_heights : (r : Result (Option ReachedAddress) NoMemory) → IfOk r (IsLeast (HasTwo points (length points)))
      → IfOk r (IsLeast (HasTwoHeights l image))
  ok_heights r h = grind (arith, common_steps, first_heights)
