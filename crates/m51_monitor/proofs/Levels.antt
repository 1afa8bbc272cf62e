-- Levels in progress and SP after a move.
use Rattle.m51_monitor.proofs.Common.{◌≡◌, ℕ, ◌+◌, ◌%◌, Option, List, [], ◌∷◌}
use Rattle.m51_monitor.proofs.Common.{subst, arith, Effect, Transfer, sp, LayoutParts, Move}
use Rattle.m51_monitor.proofs.Common.{ReturnRecord, Records, HeightsRise, interrupts, jumped, moved}
use Rattle.m51_monitor.proofs.Common.{without_top}
use Rattle.m51_flat.specs.declared.state.Level.{Level}
use Rattle.m51_flat.specs.Sfr.{latch}
use Rattle.m51_monitor.specs.Laws.{CountsInterrupts, FollowsLevels, InterruptsAreCounted, LevelsAreKept, Pops}
use Rattle.m51_monitor.specs.Laws.{StackIsKept}
use Rattle.m51_monitor.specs.Rising.{HaveLevels, IsAbove, levels, taken_after}
use Rattle.m51_monitor.proofs.Moving.{Taken}
use Rattle.m51_monitor.proofs.Moving.{judged_taken}

pub jumped_count : (reset : List ℕ) (rs : List ReturnRecord) (u : ℕ)
    → interrupts (jumped reset rs u).returns ≡ interrupts rs
jumped_count reset rs u = grind arith

module _ (l : LayoutParts) (a : Records) (top new to : ℕ) (at root : Option ℕ) where
  kept : (e : Effect) (before after taken : List Level) (t : Transfer) (m : Move) → Taken l a top new to at root t m
      → FollowsLevels t before after
      → HaveLevels a.returns taken before → HaveLevels (moved a e m).returns (taken_after a after m taken) after
  kept e before after taken t m is f h = grind arith

  counted : (e : Effect) (t : Transfer) (m : Move) → Taken l a top new to at root t m
      → CountsInterrupts t (interrupts a.returns) (interrupts (moved a e m).returns)
  counted e t m is = grind arith

-- the levels of the records are those in progress
pub levels_are_kept : LevelsAreKept
levels_are_kept m cpu e step taken j follows h =
    let is = judged_taken m.layout m.records cpu e step j in
    kept m.layout m.records (latch cpu sp) (latch e.cpu sp) e.cpu.pc j.at j.root e (levels cpu) (levels e.cpu) taken
    e.transfer step is follows h

-- the interrupts that have records are counted by the transfers
pub interrupts_are_counted : InterruptsAreCounted
interrupts_are_counted m cpu e step j =
    counted m.layout m.records (latch cpu sp) (latch e.cpu sp) e.cpu.pc j.at j.root e e.transfer step
    (grind (arith, judged_taken))

above_left : (returns : List ReturnRecord) (r : ReturnRecord) (rs : List ReturnRecord) (top new : ℕ) → returns ≡ r ∷ rs
    → top ≡ r.sp → HeightsRise returns → new ≡ (top + 254) % 256 → IsAbove (without_top returns) 0 new
above_left returns r [] top new are same rise e = rw are tt
above_left returns r (q ∷ rs) top new are same rise e =
    let heights = subst HeightsRise are rise in rw are (omega (arith, heights.0, heights.1, e, same))

above : (l : LayoutParts) (a : Records) (e : Effect) (top to : ℕ) (at root : Option ℕ) (t : Transfer) (m : Move)
    → HeightsRise a.returns → Pops t top (latch e.cpu sp) → Taken l a top (latch e.cpu sp) to at root t m
    → IsAbove (moved a e m).returns 0 (latch e.cpu sp)
above l a e top to at root t m rise pops is = grind (arith, above_left)

-- SP is not below that of the topmost record
pub stack_is_kept : StackIsKept
stack_is_kept m cpu e step j pops rise = above m.layout m.records e (latch cpu sp) e.cpu.pc j.at j.root e.transfer step
    rise pops (grind (arith, judged_taken))
