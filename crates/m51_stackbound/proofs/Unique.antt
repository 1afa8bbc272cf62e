-- Laws of the answer: two answers that are tied are the same, and the total is the sum of depths.
use Rattle.m51_stackbound.proofs.Common.{◌≡◌, ◌<◌, ◌≤◌, ℕ, zero, suc, List, [], ◌∷◌, length, map, refl, ap, arith, inl}
use Rattle.m51_stackbound.proofs.Common.{inr, Result, Ok, Err, Contains, Contains-from_any, cases_lt}
use Rattle.m51_stackbound.proofs.Common.{list_any-from_Contains, LayoutParts, Point, Proc, RootDepth, StackBound, Start}
use Rattle.m51_stackbound.proofs.Common.{Reset, At, IsSound, ReachedAddress, HasTwoHeights, IsCyclic, IsTotal, Keeps}
use Rattle.m51_stackbound.proofs.Common.{IsLeast, ◌+◌, Nothing, One, ComesTo, IsDepth}
use Rattle.std.proofs.lemmas.Map.Made.{IsDistinct-from_AllPairs, length-le_from_is_member}
use Rattle.m51_cells.proofs.Members.{Every, In, Pairs, all_pairs, contains_in, every_in, in_contains, in_map, map_in}
use Rattle.std.specs.Prelude.{Some}
use Rattle.m51_module.specs.declared.stack_bound.StackError.{StackError}
use Rattle.m51_module.specs.declared.stack_bound.StackError.TheVariants.{K1, K2, K3, K4, K5, K6, Limit, Memory}
use Rattle.m51_module.proofs.Units.{one_root}
use Rattle.m51_stackbound.specs.declared.judging.Rule.TheVariants.{WritesSp, Computed, PopsBelow}
use Rattle.m51_stackbound.specs.Bounds.{AreEach, AreFew, Answers, Breaks, IsBound, IsRootDepth, IsTooDeep, Adds, Two}
use Rattle.m51_stackbound.specs.Depths.{ComesFirst}
use Rattle.m51_stackbound.specs.Laws.{IsTied, AnswerIsUnique, DepthsAdd, NoHandler, OneHandler, TwoHandlers}
use Rattle.m51_stackbound.specs.Laws.{IsSumOfDepths, HaveDepths, TotalIsSumOfDepths}
use Rattle.m51_stackbound.specs.Search.{AreDifferent}
use Rattle.m51_stackbound.specs.contracts.point.PointEq.TheImpl.Laws.{laws-law}
use Rattle.m51_stackbound.proofs.Noting.{same_point}

-- how far the program passes before this answer comes
stage : Result StackBound StackError → ℕ
stage (Err Limit) = 0
stage (Err (K1 start at)) = 1
stage (Err (K2 start at)) = 2
stage (Err (K3 start at)) = 3
stage (Err (K4 start)) = 4
stage (Err (K5 start at)) = 5
stage (Err K6) = 6
stage (Ok b) = 7
stage (Err Memory) = 8

first_same : (a b : List Start) → ComesFirst a b → ComesFirst b a → a ≡ b
first_same [] [] h k = refl
first_same [] (t ∷ b) h k = absurd k
first_same (s ∷ a) b h k = grind (arith, first_same a)

abbrev at_of : Proc → ℕ
at_of p = p.at

-- in a rising list the first is below the others
above : (p q : Proc) (ps : List Proc) → Every (λ at. p.at < at) (map at_of ps) → In q ps → p.at < q.at
above p q ps h k = every_in (λ at. p.at < at) (map at_of ps) q.at h (map_in at_of ps q k)

abbrev Rise : List Proc → Type 0
Rise ps = Pairs (λ (a b : ℕ). a < b) (map at_of ps)

same_lists : (ps qs : List Proc) → Rise ps → Rise qs → ((p : Proc) → In p ps → In p qs)
    → ((p : Proc) → In p qs → In p ps) → ps ≡ qs
same_lists [] [] a b on back = refl
same_lists [] (q ∷ qs) a b on back = absurd (back q (inl refl))
same_lists (p ∷ ps) [] a b on back = absurd (on p (inl refl))
same_lists (p ∷ ps) (q ∷ qs) a b on back =
    let heads : p ≡ q =
    grind (arith, on p (inl refl), back q (inl refl), above q p qs b.0, above p q ps a.0) in
    let tails = same_lists ps qs a.1 b.1 (λ r k. grind (arith, on r (inr k), above p r ps a.0 k, heads))
    (λ r k. grind (arith, back r (inr k), above q r qs b.0 k, heads)) in
    λ i. heads i ∷ tails i

-- different points that are among others are not more than these
no_more : (xs ys : List Point) → AreDifferent xs → ((p : Point) → Contains xs p → Contains ys p) → length xs ≤ length ys
no_more xs ys different among =
    length-le_from_is_member laws-law xs ys
    (IsDistinct-from_AllPairs
    (λ a b. (same_point a b, λ e. cc (laws-law.refl a))) xs different)
    (λ q h. list_any-from_Contains laws-law q ys (among q (Contains-from_any same_point q xs h)))

module _ (l : LayoutParts) (image : List ℕ) where
  module _ (sound : IsSound l) where
    row_same : (start : Start) (vector : ℕ) (r s : RootDepth) → IsRootDepth l image start vector r
        → IsRootDepth l image start vector s → r ≡ s
    row_same start vector r s h k =
        let root = one_root l sound vector r.root s.root h.root k.root in
        grind (arith, first_same r.path s.path)

    rows_same : (vs : List ℕ) (rs ss : List RootDepth)
        → AreEach (λ vector. IsRootDepth l image (At vector) vector) vs rs
        → AreEach (λ vector. IsRootDepth l image (At vector) vector) vs ss → rs ≡ ss
    rows_same [] [] [] h k = refl
    rows_same [] (r ∷ rs) ss h k = absurd h
    rows_same (v ∷ vs) [] ss h k = absurd h
    rows_same (v ∷ vs) (r ∷ rs) (s ∷ ss) h k = λ i. row_same (At v) v r s h.0 k.0 i ∷ rows_same vs rs ss h.1 k.1 i
    rows_same vs rs ss h k = absurd k

    listed_in : (b c : StackBound) → IsBound l image b → IsBound l image c → (p : Proc) → In p b.procs → In p c.procs
    listed_in b c h k p listed =
        let is = h.procs p (contains_in b.procs p listed) in
        let other = in_map at_of c.procs p.at (grind (arith, in_contains)) in
        let there = k.procs other.0 (contains_in c.procs other.0 other.1) in
        grind (arith, is, other.1, other.2)

    bound_same : (b c : StackBound) → IsBound l image b → IsBound l image c → b ≡ c
    bound_same b c h k =
        let total : b.total ≡ c.total = omega (arith, h.total.most _ k.total.comes, k.total.most _ h.total.comes) in
        let procs = same_lists b.procs c.procs (all_pairs (λ (m n : ℕ). m < n) (map at_of b.procs) h.rising)
        (all_pairs (λ (m n : ℕ). m < n) (map at_of c.procs) k.rising) (listed_in b c h k) (listed_in c b k h) in
        let heads = row_same Reset 0 h.reset k.reset h.reset_is k.reset_is in
        grind (arith, rows_same)

    -- what the program passes, one after another
    Rung : ℕ → Type 0
    Rung zero = AreFew l image
    Rung (suc zero) = Keeps l image WritesSp
    Rung (suc (suc zero)) = Keeps l image Computed
    Rung (suc (suc (suc zero))) = Keeps l image PopsBelow
    Rung (suc (suc (suc (suc zero)))) = (start : Start) → IsCyclic l image start → ⊥
    Rung (suc (suc (suc (suc (suc zero))))) = (reached : ReachedAddress) → HasTwoHeights l image reached → ⊥
    Rung (suc (suc (suc (suc (suc (suc zero)))))) = IsTooDeep l image → ⊥
    Rung (suc (suc (suc (suc (suc (suc (suc n))))))) = ⊥

    -- all rungs below
    Passes : ℕ → Type 0
    Passes zero = Unit {0}
    Passes (suc n) = Passes n × Rung n

    too_deep : (b : StackBound) → b.total ≤ 255 → IsBound l image b → IsTooDeep l image → ⊥
    too_deep b few h (inl (reached, breaks)) = h.no_push reached breaks
    too_deep b few h (inr (value, comes, high)) = omega (arith, h.total.most value comes)

    -- an answer comes where the program passes all rungs below, and not this one
    comes_at : (r : Result StackBound StackError) → IsTied r → Answers l image r
        → Passes (stage r) × (Rung (stage r) → ⊥)
    unfolding stage Rung Passes
    comes_at (Err Limit) tied h = (
      tt,
      λ k. omega (arith, no_more h.points k.0 h.different (λ p m. k.1.all p (h.only p m)), h.many, k.1.few),
    )
    comes_at (Err (K1 start at)) tied h = ((tt, h.0), λ k. k (record { start = start; address = at }) h.1.0)
    comes_at (Err (K2 start at)) tied h = (((tt, h.0), h.1), λ k. k (record { start = start; address = at }) h.2.0)
    comes_at (Err (K3 start at)) tied h = (grind arith, λ k. k (record { start = start; address = at }) h.3.0)
    comes_at (Err (K4 start)) tied h = (grind arith, λ k. k start h.1.cyclic)
    comes_at (Err (K5 start at)) tied h = (grind arith, λ k. k (record { start = start; address = at }) h.1.0)
    comes_at (Err K6) tied h = (grind arith, λ k. k h.1)
    comes_at (Ok b) tied h = (grind (arith, too_deep b tied h), λ k. k)
    comes_at (Err Memory) tied h = absurd tied

    rung_below : (n m : ℕ) → n < m → Passes m → Rung n
    unfolding Passes
    rung_below n zero low h = absurd (omega (arith, low))
    rung_below n (suc m) low h = grind (arith, cases_lt n m, rung_below n m)

    -- an answer that comes later does not come beside one that comes earlier
    not_before : (r s : Result StackBound StackError) → IsTied r → IsTied s → Answers l image r → Answers l image s
        → stage r < stage s → ⊥
    not_before r s one two h k less =
        (comes_at r one h).1 (rung_below (stage r) (stage s) less (comes_at s two k).0)

    at_place : (E : Start → ℕ → StackError) (Is : ReachedAddress → Type 0) (s t : Start) (a b : ℕ)
        → IsLeast Is (Some (record { start = s; address = a })) → IsLeast Is (Some (record { start = t; address = b }))
        → E s a ≡ E t b
    at_place E Is s t a b h k = grind arith

    same_stage : (r s : Result StackBound StackError) → IsTied r → IsTied s → Answers l image r → Answers l image s
        → stage r ≡ stage s → r ≡ s
    unfolding stage
    same_stage (Err Limit) (Err Limit) one two h k e = refl
    same_stage (Err (K1 s a)) (Err (K1 t b)) one two h k e = cc (at_place K1 (Breaks l image WritesSp) s t a b h.1 k.1)
    same_stage (Err (K2 s a)) (Err (K2 t b)) one two h k e = cc (at_place K2 (Breaks l image Computed) s t a b h.2 k.2)
    same_stage (Err (K3 s a)) (Err (K3 t b)) one two h k e = cc (at_place K3 (Breaks l image PopsBelow) s t a b h.3 k.3)
    same_stage (Err (K4 s)) (Err (K4 t)) one two h k e = grind arith
    same_stage (Err (K5 s a)) (Err (K5 t b)) one two h k e = cc (at_place K5 (HasTwoHeights l image) s t a b h.1 k.1)
    same_stage (Err K6) (Err K6) one two h k e = refl
    same_stage (Ok b) (Ok c) one two h k e = ap Ok (bound_same b c h k)
    same_stage (Err Memory) s one two h k e = absurd one
    same_stage r s one two h k e = grind arith

pub answer_is_unique : AnswerIsUnique
answer_is_unique l image sound r s one two h k = omega (
  arith,
  not_before l image sound r s one two h k,
  cases_lt (stage s) (stage r),
  not_before l image sound s r two one k h,
  same_stage l image sound r s one two h k,
)

module _ (l : LayoutParts) (image : List ℕ) where
  -- what depths add is added
  added : (bytes : ℕ) → DepthsAdd l image bytes → Adds l image bytes
  added _ NoHandler = Nothing
  added _ (OneHandler v d h k) = One v d k.path h k.takes
  added _ (TwoHandlers v w d e h k ne i j) = Two v w d e i.path j.path h k ne i.takes j.takes

  -- a sum of depths that is at least this number
  record AddsAbove (bytes : ℕ) : Type 0 where
    pub sum : ℕ
    pub adds : DepthsAdd l image sum
    pub high : bytes ≤ sum

  module _ (have : HaveDepths l image) where
    depths_above : (bytes : ℕ) → Adds l image bytes → AddsAbove bytes
    depths_above _ Nothing = record { sum = 0; adds = NoHandler; high = omega arith }
    depths_above _ (One v d path h t) = let k = have.handler v h in grind (arith, OneHandler v k.0 h k.1)
    depths_above _ (Two v w d e path other h k ne t u) =
        let i = have.handler v h in
        let j = have.handler w k in
        grind (arith, TwoHandlers v w i.0 j.0 h k ne i.1 j.1)

    comes : (reset more : ℕ) → IsDepth l image Reset reset → DepthsAdd l image more → ComesTo l image (reset + more)
    comes reset more d a = grind (arith, added)

    on : (total : ℕ) → IsTotal l image total → IsSumOfDepths l image total
    on total t =
        let c = t.comes in
        let r = have.reset in
        let a = depths_above c.more c.adds in
        grind (arith, comes r.0)

    back : (total : ℕ) → IsSumOfDepths l image total → IsTotal l image total
    back total s = grind (arith, comes s.reset s.more s.reset_is s.adds, depths_above)

pub total_is_sum : TotalIsSumOfDepths
total_is_sum l image have total = (on l image have total, back l image have total)
