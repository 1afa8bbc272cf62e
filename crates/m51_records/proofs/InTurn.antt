-- Items each of which is tested after those before it: what then holds of each and of each two, and back. Where what
-- holds of two is transitive, the test may look at the last item only.
use Rattle.std.proofs.Common.{◌≡◌, ℕ, ◌+◌, ◌<◌, ◌≤◌, List, [], ◌∷◌, ◌++◌, length, Option, Some, None, refl, sym, subst}
use Rattle.std.proofs.Common.{◌∙◌, arith, All, AllPairs, append_assoc, length-append}
use Rattle.std.proofs.lemmas.List.{append-nil}
use Rattle.m51_cells.proofs.Members.{Every, Pairs, every_append, every_all, all_every, every_both, every_of, pairs_push}
use Rattle.m51_cells.proofs.Members.{pairs_all, all_pairs}
use Rattle.m51_records.specs.Contents.{latest}

-- each passes after those before it
abbrev pub InTurn : {X : Type 0} → (List X → X → Type 0) → List X → List X → Type 0
InTurn Tested before [] = Unit {0}
InTurn Tested before (x ∷ xs) = Tested before x × InTurn Tested (before ++ x ∷ []) xs

module _ {X : Type 0} (Tested : List X → X → Type 0) where
  fewer : (most : ℕ) → ((before : List X) (x : X) → Tested before x → length before < most) → (before xs : List X)
      → length before ≤ most → InTurn Tested before xs → length before + length xs ≤ most
  fewer most few before [] le h = omega arith
  fewer most few before (x ∷ xs) le h = grind (
    arith,
    length-append,
    fewer most few (before ++ x ∷ []) xs (omega (arith, (length-append before (x ∷ [])), (few before x h.0))) h.1,
  )

  -- no more than that many
  pub at_most : (most : ℕ) → ((before : List X) (x : X) → Tested before x → length before < most) → (xs : List X)
      → InTurn Tested [] xs → length xs ≤ most
  at_most most few xs h = omega (arith, fewer most few [] xs (omega arith) h)

-- what holds of each, and of each two
pub record Hold {X : Type 0} (P : X → Type 0) (R : X → X → Type 0) (xs : List X) : Type 0 where
  pub each : All P xs
  pub pairs : AllPairs R xs

module _ {X : Type 0} (P : X → Type 0) (R : X → X → Type 0) (Tested : List X → X → Type 0) where
  abbrev Hold' : List X → Type 0
  Hold' xs = Every P xs × Pairs R xs

  abbrev AreBefore : List X → X → Type 0
  AreBefore before x = Every (λ y. R y x) before

  grown : ((before : List X) (x : X) → Hold' before → Tested before x → P x × AreBefore before x) → (before xs : List X)
      → Hold' before → InTurn Tested before xs → Hold' (before ++ xs)
  grown step before [] v h = subst Hold' (sym (append-nil before)) v
  grown step before (x ∷ xs) v h =
      let now = step before x v h.0 in
      subst Hold' (append_assoc before (x ∷ []) xs)
      (grown step (before ++ x ∷ []) xs
      (every_append P before (x ∷ []) v.0 (now.0, tt), pairs_push R before x v.1 now.1) h.1)

  pub holds : ((before : List X) (x : X) → Every P before × Pairs R before → Tested before x → P x × AreBefore before x)
      → (xs : List X) → InTurn Tested [] xs → Hold P R xs
  holds step xs h =
      let v = grown step [] xs (tt, tt) h in
      record { each = every_all P xs v.0; pairs = pairs_all R xs v.1 }

  tested : (total : ℕ)
      → ((before : List X) (x : X) → length before < total → P x → AreBefore before x → Tested before x)
      → (before xs : List X) → length before + length xs ≡ total → Hold' xs → Every (AreBefore before) xs
      → InTurn Tested before xs
  tested total step before [] n v c = tt
  tested total step before (x ∷ xs) n v c = (
    step before x (omega arith) v.0.0 c.0,
    tested total step (before ++ x ∷ []) xs (omega (arith, length-append before (x ∷ []))) (v.0.1, v.1.1)
        (every_both (AreBefore before) (R x) (AreBefore (before ++ x ∷ [])) xs
        (λ z a b. every_append (λ y. R y z) before (x ∷ []) a (b, tt)) c.1 v.1.0),
  )

  pub in_turn : (xs : List X)
      → ((before : List X) (x : X) → length before < length xs → P x → AreBefore before x → Tested before x)
      → Hold P R xs → InTurn Tested [] xs
  in_turn xs step v = tested (length xs) step [] xs (omega arith) (all_every P xs v.each, all_pairs R xs v.pairs)
      (every_of (AreBefore []) xs (λ _ _. tt))

-- the last of a list of two or more is that of the list without the first
latest_more : {X : Type 0} (x y : X) (xs : List X) → latest (x ∷ y ∷ xs) ≡ latest (y ∷ xs)
latest_more x y xs = grind arith

-- the last of a list that grew by one
pub latest_push : {X : Type 0} (xs : List X) (x : X) → latest (xs ++ x ∷ []) ≡ Some x
latest_push [] x = refl
latest_push (y ∷ []) x = refl
latest_push (y ∷ z ∷ xs) x = grind arith ∙ latest_push (z ∷ xs) x

module _ {X : Type 0} (R : X → X → Type 0) (x : X) where
  -- the last item, if there is one, is in the relation to the new one
  abbrev pub Follows : Option X → Type 0
  Follows None = Unit {0}
  Follows (Some last) = R last x

  pub last_follows : (xs : List X) → Every (λ y. R y x) xs → Follows (latest xs)
  last_follows [] h = tt
  last_follows (y ∷ []) h = h.0
  last_follows (y ∷ z ∷ xs) h = rw (latest_more y z xs) (last_follows (z ∷ xs) h.1)

  pub all_follow : (P : X → Type 0) → ((y z : X) → P z → R y z → R z x → R y x) → (xs : List X) → Every P xs
      → Pairs R xs → Follows (latest xs) → Every (λ y. R y x) xs
  all_follow P chain [] p r f = tt
  all_follow P chain (y ∷ []) p r f = (f, tt)
  all_follow P chain (y ∷ z ∷ xs) p r f =
      let rest = all_follow P chain (z ∷ xs) p.1 r.1 (grind arith) in
      (grind arith)
