use Rattle.m51_chain.proofs.Common.{[], ap, append_assoc, sym, ◌++◌, ◌∙◌, ◌∷◌}
use Rattle.m51_chain.proofs.Following.{came}
use Rattle.m51_chain.proofs.Joined.{for_all, for_more, for_none, for_refused}
use Rattle.m51_chain.proofs.joining.boards_alone.Goals as goal

pub loop-parts-init : goal.loop-parts-init
loop-parts-init c = ([], c.from-left.ensures.0, for_none c.args.script.now _ c.new-boards.ensures)

pub loop-parts-preserved : goal.loop-parts-preserved
loop-parts-preserved c =
    let before = c.loop-parts.invariant in (
      before.0 ++ c.in-Some.parts ∷ [],
      append_assoc before.0 (c.in-Some.parts ∷ []) c.pop_front.new.self.items
          ∙ ap (λ rest. before.0 ++ rest) (sym c.in-Some.ensures.items) ∙ before.1,
      for_more c.args.script.now before.0 c.in-Some.parts _ _ _ before.2 c.in_ok-board.ensures c.in_ok-push.ensures.ok,
    )

pub returns-in_err-board : goal.returns-in_err-board
returns-in_err-board c =
    let before = c.loop-parts.invariant in
    rw (came c.from_residual.result _ c.from_residual.ensures.1)
    (for_refused c.args.script.now c.args.modules.items before.0 c.pop_front.new.self.items c.in-Some.parts _ _
    (ap (λ rest. before.0 ++ rest) (sym c.in-Some.ensures.items) ∙ before.1) before.2 c.in_err-board.ensures)

pub returns : goal.returns
returns c =
    let before = c.loop-parts.invariant in
    rw c.into_vec.ensures
    (for_all c.args.script.now c.args.modules.items before.0 c.loop-parts.left.items c.pop_front.new.self.items _
    c.in_default.ensures.items c.in_default.ensures.rest before.1 before.2)
