-- The board that is stepped next: it starts before those with a lower number, and no later than the others.
use Rattle.std.proofs.lemmas.Grind.{common_steps}
use Rattle.m51_party.proofs.Common.{◌≡◌, ℕ, suc, ◌+◌, ◌≤◌, Bool, true, false, List, [], ◌∷◌, Option, Some, None, refl}
use Rattle.m51_party.proofs.Common.{arith, nat_lt, if◌then◌else◌, slice_get, NextStep, Seat, next_from, start_of, Every}
use Rattle.m51_party.proofs.Common.{every_weaker}
use Rattle.std.proofs.Common.{take}
use Rattle.std.proofs.lemmas.Bool.{ltb-true, ltb-false}
use Rattle.m51_party.specs.Seats.{sooner}

-- a start that comes no earlier, if there is one
abbrev pub StartsFrom : ℕ → Option ℕ → Type 0
StartsFrom least None = Unit {0}
StartsFrom least (Some cycle) = least ≤ cycle

starts_more : (least more : ℕ) (o : Option ℕ) → least ≤ more → StartsFrom more o → StartsFrom least o
starts_more least more o h k = grind (arith, common_steps)

module _ (n : ℕ) where
  abbrev pub AllStartFrom : ℕ → List Seat → Type 0
  AllStartFrom least ss = Every (λ s. StartsFrom least (start_of n s)) ss

  abbrev pub NoneStarts : List Seat → Type 0
  NoneStarts ss = Every (λ s. start_of n s ≡ None) ss

  -- the board at this index starts its next step in this cycle
  pub record IsNextAt (index cycle : ℕ) (ss : List Seat) : Type 0 where
    pub seat : Seat
    pub found : slice_get ss index ≡ Some seat
    pub starts : start_of n seat ≡ Some cycle
    pub earlier : AllStartFrom (suc cycle) (take index ss)
    pub all : AllStartFrom cycle ss

  -- what a search from this index on has found, or that there is nothing
  pub record IsFoundAt (at : ℕ) (c : NextStep) (ss : List Seat) : Type 0 where
    pub index : ℕ
    pub is : c.index ≡ at + index
    pub next : IsNextAt index c.cycle ss

  abbrev IsFound : ℕ → Option NextStep → List Seat → Type 0
  IsFound at None ss = NoneStarts ss
  IsFound at (Some c) ss = IsFoundAt at c ss

  found_here : (at cycle : ℕ) (s : Seat) (ss : List Seat) → start_of n s ≡ Some cycle → AllStartFrom cycle ss
      → IsFoundAt at (record { index = at; cycle = cycle }) (s ∷ ss)
  found_here at cycle s ss e h =
      let here : StartsFrom cycle (start_of n s) = rw e (omega arith) in
      let next : IsNextAt 0 cycle (s ∷ ss) =
      record { seat = s; found = refl; starts = e; earlier = tt; all = (here, h) } in
      record { index = 0; is = omega arith; next = next }

  found_later : (at : ℕ) (c : NextStep) (s : Seat) (ss : List Seat) → StartsFrom (suc c.cycle) (start_of n s)
      → IsFoundAt (suc at) c ss → IsFoundAt at c (s ∷ ss)
  found_later at c s ss h f =
      let here = starts_more c.cycle (suc c.cycle) (start_of n s) (omega arith) h in
      let next : IsNextAt (suc f.index) c.cycle (s ∷ ss) = record {
        seat = f.next.seat;
        found = f.next.found;
        starts = f.next.starts;
        earlier = (h, f.next.earlier);
        all = (here, f.next.all);
      } in
      record { index = suc f.index; is = omega (arith, f.is); next = next }

  compared : (at cycle : ℕ) (c : NextStep) (s : Seat) (ss : List Seat) (b : Bool) → nat_lt c.cycle cycle ≡ b
      → start_of n s ≡ Some cycle → IsFoundAt (suc at) c ss
      → IsFound at (if b then Some c else Some (record { index = at; cycle = cycle })) (s ∷ ss)
  compared at cycle c s ss true b e f = found_later at c s ss (rw e (ltb-true c.cycle cycle b)) f
  compared at cycle c s ss false b e f = found_here at cycle s ss e (every_weaker _ _ ss (λ s h.
      starts_more cycle c.cycle (start_of n s) (ltb-false c.cycle cycle b) h) f.next.all)

  found_by : (at : ℕ) (s : Seat) (ss : List Seat) (o : Option ℕ) (later : Option NextStep) → start_of n s ≡ o
      → IsFound (suc at) later ss → IsFound at (sooner at o later) (s ∷ ss)
  found_by at s ss None None e f = (e, f)
  found_by at s ss None (Some c) e f = found_later at c s ss (rw e tt) f
  found_by at s ss (Some cycle) None e f =
      found_here at cycle s ss e (every_weaker _ _ ss (λ s none. rw none tt) f)
  found_by at s ss (Some cycle) (Some c) e f = compared at cycle c s ss (nat_lt c.cycle cycle) refl e f

  found : (at : ℕ) (ss : List Seat) → IsFound at (next_from n at ss) ss
  found at [] = tt
  found at (s ∷ ss) = found_by at s ss (start_of n s) (next_from n (suc at) ss) refl (found (suc at) ss)

  -- so the board that is found is next, and where none is found, none has a next step
  pub next_found : (c : NextStep) (ss : List Seat) → next_from n 0 ss ≡ Some c → IsNextAt c.index c.cycle ss
  next_found c ss e = let f : IsFoundAt 0 c ss = rw e at (found 0 ss) in
      let is : c.index ≡ f.index = omega (arith, f.is) in
      rw is f.next

  pub none_found : (ss : List Seat) → next_from n 0 ss ≡ None → NoneStarts ss
  none_found ss e = rw e at (found 0 ss)
