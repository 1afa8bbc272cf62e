-- The level of a unit is decided along the list of edges.
use Rattle.m51_graph.proofs.Common.{Option, true, false, sym, ap, ◌≡◌, inl, inr, ℕ, zero, suc, ◌+◌, ◌-◌, ◌<◌, Bool, not}
use Rattle.m51_graph.proofs.Common.{◌&&◌, nat_eq, List, [], ◌∷◌, length, Some, refl, arith, add-one, Decides}
use Rattle.m51_graph.proofs.Common.{range_with_len, cases_Bool, Decides-eqb, list_any_at, Edges, HasEdge, IsWalk}
use Rattle.m51_graph.proofs.Common.{last_of, IsLevel}
use Rattle.std.proofs.Common.{unwrap_or, eq-eqb}
use Rattle.std.specs.Prelude.{find}
use Rattle.m51_graph.specs.Levels.{EndsWalk, ends_walk, level_of}
use Rattle.m51_graph.proofs.Climbing.{ends_on}
use Rattle.m51_graph.proofs.Deciding.{and_decides, any_decides}

-- along a walk the decision stays true of as many more edges
along : (edges : Edges) (done unit count end : ℕ) (more : List ℕ) → ends_walk edges done unit ≡ true
    → IsWalk edges unit more → count ≡ length more + done → last_of unit more ≡ end → ends_walk edges count end ≡ true
unfolding ends_walk
along edges done unit count end [] passes walk is ends =
    let same : count ≡ done = omega (arith, is) in rw (← ends, same) passes
along edges done unit count end (next ∷ more) passes walk is ends =
    let e : HasEdge edges unit next = walk.0 in
    along edges (suc done) next count end more
    (list_any_at (λ (edge : ℕ × ℕ). nat_eq edge.1 next && ends_walk edges done edge.0) edges e.0 (unit, next) e.1
    (rw (e.2, eq-eqb next next refl) passes)) walk.1 (omega (arith, is)) ends

-- the decision: by its last edge
pub ends_walk_tells : (edges : Edges) (count unit : ℕ)
    → Decides (ends_walk edges count unit) (EndsWalk edges unit count)
unfolding ends_walk
ends_walk_tells edges zero unit =
    (λ _. record { first = unit; more = []; walk = tt; ends = refl; count_is = refl }, λ _. refl)
ends_walk_tells edges (suc count) unit = (
  λ h.
      let some =
      (any_decides (λ (edge : ℕ × ℕ). nat_eq edge.1 unit && ends_walk edges count edge.0)
      (λ (edge : ℕ × ℕ). (edge.1 ≡ unit) × EndsWalk edges edge.0 count)
      (λ edge. and_decides _ _ (Decides-eqb edge.1 unit) (ends_walk_tells edges count edge.0)) edges).0 h in
      rw (add-one, some.2.0) at (ends_on edges some.0.0 some.0.1 count some.2.1 some.1),
  λ h. along edges 0 h.first (suc count) unit h.more refl h.walk (omega (arith, h.count_is)) h.ends,
)

-- of fewer edges: without its first ones
fewer_of : (edges : Edges) (count less first : ℕ) (more : List ℕ) → IsWalk edges first more
    → length more ≡ less + count → EndsWalk edges (last_of first more) count
fewer_of edges count zero first more walk is =
    record { first = first; more = more; walk = walk; ends = refl; count_is = omega (arith, is) }
fewer_of edges count (suc less) first [] walk is = absurd (omega (arith, is))
fewer_of edges count (suc less) first (next ∷ more) walk is =
    fewer_of edges count less next more walk.1 (omega (arith, is))

pub fewer : (edges : Edges) (unit count less : ℕ) → EndsWalk edges unit (less + count) → EndsWalk edges unit count
fewer edges unit count less h = rw h.ends at (fewer_of edges count less h.first h.more h.walk h.count_is)

find_from : (p : ℕ → Bool) (n from count : ℕ) → count < n → p (from + count) ≡ true
    → ((k : ℕ) → k < count → p (from + k) ≡ false)
    → find p (range_with_len from n) ≡ Some (from + count)
find_from p zero from count below passes fails = absurd (omega (arith, below))
find_from p (suc n) from zero below passes fails =
    let here : from + 0 ≡ from = omega arith in rw (here, rw here at passes) refl
find_from p (suc n) from (suc count) below passes fails =
    let here : from + 0 ≡ from = omega arith in
    let next : (k : ℕ) → from + 1 + k ≡ from + suc k = λ k. omega arith in
    rw (rw here at (fails 0 (omega arith)), ← next count) (find_from p n (from + 1) count (omega (arith, below))
    (rw (next count) passes) (λ k less. rw (next k) (fails (suc k) (omega (arith, less)))))

-- the first below n that passes
pub find_least : (p : ℕ → Bool) (n count : ℕ) → count < n → p count ≡ true → ((k : ℕ) → k < count → p k ≡ false)
    → find p (range_with_len 0 n) ≡ Some count
find_least p n count below passes fails =
    let same : 0 + count ≡ count = omega arith in
    rw same at (find_from p n 0 count below (rw same passes)
    (λ k less. let here : 0 + k ≡ k = omega arith in rw here (fails k less)))

-- the level of a unit is what the decision finds
pub level_function : (edges : Edges) (unit level : ℕ) → IsLevel edges unit level → level < 65536 → level
    ≡ level_of edges unit
unfolding level_of
level_function edges unit level h below =
    let test : ℕ → Bool = λ count. not (ends_walk edges (suc count) unit) in
    let here : test level ≡ true =
    elim (cases_Bool (ends_walk edges (suc level) unit)) [
      | inl walks ↦ absurd (omega (arith, h.most (suc level) ((ends_walk_tells edges (suc level) unit).0 walks)))
      | inr ends ↦ ap not ends
    ] in
    let under : (k : ℕ) → k < level → test k ≡ false = λ k less.
    let split : (level - suc k) + suc k ≡ level = omega (arith, less) in
    let walk : EndsWalk edges unit (suc k) =
    fewer edges unit (suc k) (level - suc k) (rw split h.longest) in
    ap not ((ends_walk_tells edges (suc k) unit).1 walk) in
    sym (ap (λ (found : Option ℕ). unwrap_or found 0) (find_least test 65536 level below here under))
