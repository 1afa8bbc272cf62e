-- Conflicts of any programs: they are mutual, and are carried over where only segments get other numbers.
use Rattle.std.proofs.Common.{arith, ◌≡◌, ◌⊎◌, ℕ, List, [], ◌∷◌, sym}
use Rattle.std.specs.Prelude.{◌↔◌}
use Rattle.m51_module.specs.Conflict.{AreRelated, Same, Before, After, FirstUnderNone, SecondUnderNone, UnderTwo}
use Rattle.m51_module.specs.Conflict.{InConflict, FirstPlain, SecondPlain, Owners}
use Rattle.m51_module.specs.Laws.{HaveSameUnits, IsSameSegment}
use Rattle.m51_module.specs.Program.{ProgramGraph}
use Rattle.m51_module.specs.Roots.{LiesUnder}
use Rattle.m51_module.specs.Walks.{IsWalk, Reaches}

-- what relates one unit to another relates that one to the first
pub related_back : (g : ProgramGraph) (u v : ℕ) → AreRelated g u v → AreRelated g v u
related_back g u v (Same e) = Same (sym e)
related_back g u v (Before r) = After r
related_back g u v (After r) = Before r
related_back g u v (FirstUnderNone none) = SecondUnderNone none
related_back g u v (SecondUnderNone none) = FirstUnderNone none
related_back g u v (UnderTwo x y differ first second) = UnderTwo y x (λ e. differ (sym e)) second first

-- and so is a conflict
pub conflict_back : (g : ProgramGraph) (s t : ℕ) → InConflict g s t → InConflict g t s
conflict_back g s t (FirstPlain plain) = SecondPlain plain
conflict_back g s t (SecondPlain plain) = FirstPlain plain
conflict_back g s t (Owners u v owns_s owns_t related) = Owners v u owns_t owns_s (related_back g u v related)

-- programs that have the same units, the other way round
pub same_back : (g h : ProgramGraph) → HaveSameUnits g h → HaveSameUnits h g
same_back g h same = record {
  edges = λ u v. ((same.edges u v).1, (same.edges u v).0);
  roots = grind arith;
}

pub segment_back : (g h : ProgramGraph) (s t : ℕ) → IsSameSegment g h s t → IsSameSegment h g t s
segment_back g h s t same = grind arith

module _ (g h : ProgramGraph) (same : HaveSameUnits g h) where
  walk_there : (u : ℕ) (vs : List ℕ) → IsWalk g.edges u vs → IsWalk h.edges u vs
  walk_there u [] w = tt
  walk_there u (v ∷ vs) w = ((same.edges u v).0 w.0, walk_there v vs w.1)

  pub reach_there : (u v : ℕ) → Reaches g.edges u v → Reaches h.edges u v
  reach_there u v r = grind (arith, walk_there u (r.next ∷ r.more) r.walk)

  leads_there : (u v : ℕ) → (u ≡ v) ⊎ Reaches g.edges u v → (u ≡ v) ⊎ Reaches h.edges u v
  leads_there u v led = grind (arith, reach_there)

  pub under_there : (x u : ℕ) → LiesUnder g x u → LiesUnder h x u
  under_there x u l = grind (arith, leads_there)

-- what relates units of the one relates them in the other
pub related_there : (g h : ProgramGraph) → HaveSameUnits g h → (u v : ℕ) → AreRelated g u v → AreRelated h u v
related_there g h same u v (Same e) = Same e
related_there g h same u v (Before r) = Before (reach_there g h same u v r)
related_there g h same u v (After r) = After (reach_there g h same v u r)
related_there g h same u v (FirstUnderNone none) =
    FirstUnderNone (λ x l. none x (under_there h g (same_back g h same) x u l))
related_there g h same u v (SecondUnderNone none) =
    SecondUnderNone (λ x l. none x (under_there h g (same_back g h same) x v l))
related_there g h same u v (UnderTwo x y differ first second) =
    UnderTwo x y differ (under_there g h same x u first) (under_there g h same y v second)

-- segments of the one in conflict are in conflict in the other
pub conflict_there : (g h : ProgramGraph) → HaveSameUnits g h → (s t s' t' : ℕ) → IsSameSegment g h s s'
    → IsSameSegment g h t t' → InConflict g s t → InConflict h s' t'
conflict_there g h same s t s' t' one two (FirstPlain plain) = grind arith
conflict_there g h same s t s' t' one two (SecondPlain plain) = grind arith
conflict_there g h same s t s' t' one two (Owners u v owns_s owns_t related) =
    Owners u v ((one.owners u).0 owns_s) ((two.owners v).0 owns_t) (related_there g h same u v related)

-- and the other way round
pub conflict_carried : (g h : ProgramGraph) → HaveSameUnits g h → (s t s' t' : ℕ) → IsSameSegment g h s s'
    → IsSameSegment g h t t' → InConflict g s t ↔ InConflict h s' t'
conflict_carried g h same s t s' t' one two = (
  conflict_there g h same s t s' t' one two,
  conflict_there h g (same_back g h same) s' t' s t (segment_back g h s s' one) (segment_back g h t t' two),
)
