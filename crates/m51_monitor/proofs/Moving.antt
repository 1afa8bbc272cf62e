-- What the records are after an allowed move.
use Rattle.m51_monitor.proofs.Common.{◌≡◌, ◌⊎◌, inl, inr, ℕ, ◌+◌, ◌<◌, Bool, true, false, Option, Some}
use Rattle.m51_monitor.proofs.Common.{nat_eq}
use Rattle.m51_monitor.proofs.Common.{None, Ok, List, [], ◌∷◌, refl, ap, arith}
use Rattle.m51_monitor.proofs.Common.{not-false, eqb-true, Contains}
use Rattle.m51_monitor.proofs.Common.{Effect, Source, Transfer, Next}
use Rattle.m51_monitor.proofs.Common.{Jump, Ret, Reti, Vector, sp, LayoutParts, IsRootAt, HasEdge}
use Rattle.m51_monitor.proofs.Common.{Move, Stay, Local, Return, JumpTo, CallTo, InterruptTo, ReturnRecord, Records}
use Rattle.m51_monitor.proofs.Common.{named_over, first_or, current, running}
use Rattle.m51_monitor.proofs.Common.{AreWalks, HeightsRise, refused_if, is_sp_below, is_at}
use Rattle.m51_monitor.proofs.Common.{jump_or_call, within, move_to, is_by, return_move, is_busy}
use Rattle.m51_monitor.proofs.Common.{interrupts_to, judged_as, jumped, without_top, moved}
use Rattle.m51_monitor.proofs.Common.{none_in_empty}
use Rattle.std.proofs.lemmas.Bool.{cases_Bool, ltb-false, not-true}
use Rattle.std.proofs.lemmas.Bool.Decides.{nat_tests}
use Rattle.std.specs.declared.result.Result.{Result}
use Rattle.m51_cells.specs.declared.event.Why.{Why}
use Rattle.m51_flat.specs.declared.state.Transfer.TheVariants.{Call}
use Rattle.m51_flat.specs.declared.state.Cpu.{Cpu}
use Rattle.m51_flat.specs.Sfr.{latch}
use Rattle.m51_module.proofs.EdgeTests.{edge_from_test}
use Rattle.m51_monitor.specs.Rising.{IsAbove}
use Rattle.m51_monitor.specs.Transfers.{IsRootWanted, Judges, is_call}
use Rattle.m51_flat.specs.Vectors.{vector_of}
use Rattle.m51_monitor.proofs.Lists.{contains_cases}
use Rattle.m51_monitor.specs.Laws.{MovesAreKept}

pub jump_stands : (l : LayoutParts) (a : Records) (u : ℕ) → AreWalks l a → HasEdge l.edges (current a) u
    → AreWalks l (jumped a.reset a.returns u)
jump_stands l a u h e = grind arith

pub return_stands : (l : LayoutParts) (a : Records) → AreWalks l a
    → AreWalks l (record { reset = a.reset; returns = without_top a.returns })
return_stands l a h = grind arith

-- tests of the table, read backwards
pub ok_is : (m n : Move) → ◌≡◌ {A = Result Move Why} (Ok m) (Ok n) → m ≡ n
ok_is m n e = cc

pub unless_ok : (b : Bool) (why : Why) (rest : Result Move Why) (m : Move) → Ok m ≡ refused_if b why rest
    → (b ≡ false) × (Ok m ≡ rest)
unless_ok true why rest m e = cc
unless_ok false why rest m e = (refl, e)

low_above : (rs : List ReturnRecord) (more top : ℕ) → is_sp_below rs more top ≡ false → IsAbove rs more top
low_above [] more top e = tt
low_above (r ∷ rs) more top e = ltb-false top (r.sp + more) e

-- no root of a record is at the vector, and the reset's is at another
vector_is_some : (source : Source) → vector_of source ≡ 0 → ⊥
unfolding vector_of
vector_is_some source e = grind arith

not_busy : (rs : List ReturnRecord) (source : Source) → is_busy rs (vector_of source) ≡ false
    → Contains (running rs) (vector_of source) → ⊥
not_busy [] source e h = grind (arith, vector_is_some, none_in_empty, contains_cases)
not_busy (r ∷ rs) source e h = grind (arith, nat_tests, contains_cases, not_busy rs source)

-- Each move that the table allows, with what its tests say.
pub data Allowed (l : LayoutParts) (a : Records) (top new to : ℕ) (at root : Option ℕ) : Move → Type 0 where
  IsStay : IsAbove a.returns 0 new → Allowed l a top new to at root Stay
  IsJump : (u : ℕ) → HasEdge l.edges (current a) u → at ≡ Some u → IsAbove a.returns 0 new
      → Allowed l a top new to at root (JumpTo u)
  IsLocal : at ≡ Some (current a) → IsAbove a.returns 2 new → Allowed l a top new to at root Local
  IsCall : (u : ℕ) → HasEdge l.edges (current a) u → at ≡ Some u → IsAbove a.returns 2 new
      → Allowed l a top new to at root (CallTo u)
  IsInterrupt : (source : Source) (u : ℕ) → IsRootAt l (vector_of source) u
      → (Contains (running a.returns) (vector_of source) → ⊥) → IsAbove a.returns 2 new
      → Allowed l a top new to at root (InterruptTo source u)
  IsReturn : (r : ReturnRecord) (rs : List ReturnRecord) → a.returns ≡ r ∷ rs → top ≡ r.sp → to ≡ r.return_address
      → Allowed l a top new to at root Return

-- A transfer and the move that the table answers it by, with what its tests say.
pub data Taken (l : LayoutParts) (a : Records) (top new to : ℕ) (at root : Option ℕ) : Transfer → Move → Type 0 where
  Continues : at ≡ Some (current a) → IsAbove a.returns 0 new → Taken l a top new to at root Next Stay
  Stays : at ≡ Some (current a) → IsAbove a.returns 0 new → Taken l a top new to at root Jump Stay
  Jumps : (u : ℕ) → HasEdge l.edges (current a) u → at ≡ Some u → IsAbove a.returns 0 new
      → Taken l a top new to at root Jump (JumpTo u)
  Nears : at ≡ Some (current a) → IsAbove a.returns 2 new → Taken l a top new to at root Call Local
  Calls : (u : ℕ) → HasEdge l.edges (current a) u → at ≡ Some u → IsAbove a.returns 2 new
      → Taken l a top new to at root Call (CallTo u)
  Returns : (r : ReturnRecord) (rs : List ReturnRecord) → a.returns ≡ r ∷ rs → is_call r.cause ≡ true → top ≡ r.sp
      → to ≡ r.return_address → at ≡ Some (first_or (named_over a.reset rs) 0) → Taken l a top new to at root Ret Return
  Ends : (r : ReturnRecord) (rs : List ReturnRecord) → a.returns ≡ r ∷ rs → is_call r.cause ≡ false → top ≡ r.sp
      → to ≡ r.return_address → at ≡ Some (first_or (named_over a.reset rs) 0)
      → Taken l a top new to at root Reti Return
  Vectors : (source : Source) (u : ℕ) → root ≡ Some u → is_busy a.returns (vector_of source) ≡ false
      → IsAbove a.returns 2 new → Taken l a top new to at root (Vector source) (InterruptTo source u)

at_is : (o : Option ℕ) (u : ℕ) → is_at o u ≡ true → o ≡ Some u
at_is None u e = cc e
at_is (Some v) u e = ap Some (eqb-true v u e)

-- two tests, one after the other
both_ok : (b c : Bool) (why other : Why) (n m : Move) → Ok m ≡ refused_if b why (refused_if c other (Ok n))
    → (b ≡ false) × (c ≡ false) × (m ≡ n)
both_ok true c why other n m e = cc e
both_ok false true why other n m e = cc e
both_ok false false why other n m e = (refl, refl, ok_is m n e)

module _ (l : LayoutParts) (a : Records) (top new to : ℕ) (at root : Option ℕ) where
  -- within the unit at the target, or along an edge to it
  gone : (more : ℕ) (call : Bool) (o : Option ℕ) (m : Move)
      → Ok m ≡ jump_or_call l (current a) (is_sp_below a.returns more new) call o → IsAbove a.returns more new ×
      (((o ≡ Some (current a)) × (m ≡ within call)) ⊎
      ((u : ℕ) × HasEdge l.edges (current a) u × (o ≡ Some u) × (m ≡ move_to call u)))
  gone more call None m e = cc e
  gone more call (Some u) m e = elim (cases_Bool (nat_eq u (current a))) [
    | inl same ↦ let p = unless_ok _ _ _ _ (rw same at e) in
        (low_above a.returns more new p.0, inl (ap Some (eqb-true _ _ same), ok_is _ _ p.1))
    | inr other ↦ let p = both_ok _ _ _ _ _ _ (rw other at e) in
        (low_above a.returns more new p.1, inr (u, edge_from_test _ _ _ (not-false _ p.0), refl, p.2))
  ]

  jumps : (m : Move) → Ok m ≡ jump_or_call l (current a) (is_sp_below a.returns 0 new) false at
      → Taken l a top new to at root Jump m
  jumps m e = let g = gone 0 false at m e in
      elim g.1 [
        | inl h ↦ rw h.1 (Stays h.0 g.0)
        | inr h ↦ rw h.3 (Jumps h.0 h.1 h.2 g.0)
      ]

  calls : (m : Move) → Ok m ≡ jump_or_call l (current a) (is_sp_below a.returns 2 new) true at
      → Taken l a top new to at root Call m
  calls m e = let g = gone 2 true at m e in
      elim g.1 [
        | inl h ↦ rw h.1 (Nears h.0 g.0)
        | inr h ↦ rw h.3 (Calls h.0 h.1 h.2 g.0)
      ]

  -- what a return was tested for
  record IsBack (call : Bool) (rs : List ReturnRecord) (m : Move) : Type 0 where
    r : ReturnRecord
    below : List ReturnRecord
    are : rs ≡ r ∷ below
    by : is_by call r.cause ≡ true
    top_is : top ≡ r.sp
    to_is : to ≡ r.return_address
    at_is : at ≡ Some (first_or (named_over a.reset below) 0)
    is : m ≡ Return

  back : (call : Bool) (rs : List ReturnRecord) (m : Move) → Ok m ≡ return_move a.reset rs call top to at
      → IsBack call rs m
  back call [] m e = cc e
  back call (r ∷ rs) m e =
      let p = unless_ok _ _ _ _ e in
      let q = unless_ok _ _ _ _ p.1 in
      let s = both_ok _ _ _ _ _ _ q.1 in
      record {
        r = r;
        below = rs;
        are = refl;
        by = not-false _ p.0;
        top_is = eqb-true _ _ (not-false _ q.0);
        to_is = eqb-true _ _ (not-false _ s.0);
        at_is = at_is _ _ (not-false _ s.1);
        is = s.2;
      }

  vectors_by : (source : Source) (o : Option ℕ) (m : Move) → root ≡ o
      → Ok m ≡ interrupts_to a source (is_sp_below a.returns 2 new) o → Taken l a top new to at root (Vector source) m
  vectors_by source None m same e = cc e
  vectors_by source (Some u) m same e =
      let p = both_ok _ _ _ _ _ _ e in
      rw p.2 (Vectors source u same p.0 (low_above a.returns 2 new p.1))

  taken : (t : Transfer) (m : Move) → Ok m ≡ judged_as l a top new to t at root → Taken l a top new to at root t m
  taken Next m e =
      let p = both_ok _ _ _ _ _ _ e in
      rw p.2 (Continues (at_is _ _ (not-false _ p.0)) (low_above a.returns 0 new p.1))
  taken Jump m e = jumps m e
  taken Call m e = calls m e
  taken Ret m e = let b = back true a.returns m e in rw b.is (Returns b.r b.below b.are b.by b.top_is b.to_is b.at_is)
  taken Reti m e = let b = back false a.returns m e in
      rw b.is (Ends b.r b.below b.are (not-true (is_call b.r.cause) b.by) b.top_is b.to_is b.at_is)
  taken (Vector source) m e = vectors_by source root m refl e

  allowed_by : (t : Transfer) (m : Move) → IsRootWanted l t root → Taken l a top new to at root t m
      → Allowed l a top new to at root m
  allowed_by t m found (Vectors source u is fresh above) =
      IsInterrupt source u (rw is at found) (not_busy a.returns source fresh) above
  allowed_by t m found (Continues is above) = IsStay above
  allowed_by t m found (Stays is above) = IsStay above
  allowed_by t m found (Jumps u edge is above) = IsJump u edge is above
  allowed_by t m found (Nears is above) = IsLocal is above
  allowed_by t m found (Calls u edge is above) = IsCall u edge is above
  allowed_by t m found (Returns r rs are by same back here) = IsReturn r rs are same back
  allowed_by t m found (Ends r rs are by same back here) = IsReturn r rs are same back

pub judged_taken : (l : LayoutParts) (a : Records) (cpu : Cpu) (e : Effect) (m : Move) (j : Judges l a cpu e (Ok m))
    → Taken l a (latch cpu sp) (latch e.cpu sp) e.cpu.pc j.at j.root e.transfer m
judged_taken l a cpu e m j = grind (arith, taken)

-- what the table allows, and why
pub allowed : (l : LayoutParts) (a : Records) (top new to : ℕ) (t : Transfer) (at root : Option ℕ) (m : Move)
    → IsRootWanted l t root → Ok m ≡ judged_as l a top new to t at root → Allowed l a top new to at root m
allowed l a top new to t at root m found e =
    allowed_by l a top new to at root t m found (grind (arith, taken))

-- the records after a move that is allowed
module _ (l : LayoutParts) (a : Records) (e : Effect) (top to : ℕ) (at root : Option ℕ) where
  pub allowed_stands : (m : Move) → AreWalks l a → Allowed l a top (latch e.cpu sp) to at root m
      → AreWalks l (moved a e m)
  allowed_stands m h (IsJump u edge is above) = jump_stands l a u h edge
  allowed_stands m h (IsStay above) = h
  allowed_stands m h (IsLocal is above) = grind arith
  allowed_stands m h (IsCall u edge is above) = grind arith
  allowed_stands m h (IsInterrupt source u root fresh above) = grind arith
  allowed_stands m h (IsReturn r rs are same return_address) = return_stands l a h

  -- SP rises with the records
  pub allowed_rise : (m : Move) → latch e.cpu sp < 256 → HeightsRise a.returns
      → Allowed l a top (latch e.cpu sp) to at root m → HeightsRise (moved a e m).returns
  allowed_rise m fits h h3 = grind arith

-- what holds of the records holds of them after each move that the table allows
pub moves_are_kept : MovesAreKept
moves_are_kept m cpu e step fits level j h =
    let is = allowed m.layout m.records (latch cpu sp) (latch e.cpu sp) e.cpu.pc e.transfer j.at j.root step j.root_is
    j.is in
    grind (arith, allowed_stands, allowed_rise)
