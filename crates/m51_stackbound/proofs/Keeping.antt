-- What a program with a bound keeps at each of its points.
use Rattle.m51_stackbound.proofs.Common.{◌≡◌, ℕ, false, List, Some, arith, cases_Bool, Instr, LayoutParts, Rule, Point}
use Rattle.m51_stackbound.proofs.Common.{Keeps, IsPoint, reached_address}
use Rattle.m51_stackbound.specs.declared.judging.Rule.TheVariants.{WritesSp, Computed, PopsBelow, PushesAbove}
use Rattle.m51_stackbound.specs.Bounds.{KeepsRules}
use Rattle.m51_stackbound.specs.Instructions.{is_computed}
use Rattle.m51_stackbound.specs.Points.{instruction, pops_below, pushes_above, sets_stack}
use Rattle.m51_stackbound.specs.Rules.{breaks, breaks_by}

module _ (l : LayoutParts) (image : List ℕ) (p : Point) (instr : Instr) (is : IsPoint l image p)
    (at : instruction l image p.address ≡ Some instr) where
  kept : (rule : Rule) → Keeps l image rule → breaks rule p instr ≡ false
  unfolding breaks_by
  kept rule keeps = grind (arith, cases_Bool (breaks rule p instr), keeps (reached_address p))

  pub stack_kept : KeepsRules l image → sets_stack p instr ≡ false
  stack_kept h = kept WritesSp h.writes

  pub computed_kept : KeepsRules l image → is_computed instr ≡ false
  computed_kept h = kept Computed h.computed

  pub pops_kept : KeepsRules l image → pops_below p instr ≡ false
  pops_kept h = kept PopsBelow h.pops

  pub pushes_kept : Keeps l image PushesAbove → pushes_above p instr ≡ false
  pushes_kept h = kept PushesAbove h
