use Rattle.m51_stackbound.proofs.Common.{◌≡◌, inl, inr, length, arith, get_or, Reset, point_at, reached_address}
use Rattle.m51_stackbound.proofs.Common.{NotesPlace}
use Rattle.m51_stackbound.proofs.Leasts.{doubling_again, doubling_new}
use Rattle.m51_stackbound.proofs.doubling.first_twice.Goals as goal
use Rattle.m51_stackbound.proofs.doubling.first_twice.Goals.{then-branch, else-branch}

pub loop-point-preserved : goal.loop-point-preserved
loop-point-preserved c =
    let below = c.loop-point-test.true in
    let noted : NotesPlace c.loop-point.addresses
    (reached_address (get_or c.args.points.now c.loop-point.point-index (point_at Reset 0 0))) c.note.new.self
    c.in_ok-note.field-0 = rw c.reached_address-reached.ensures at c.in_ok-note.ensures in
    elim c.if-branch.branch [
      | then-branch w ↦
          rw (w.least-is, w.lesser.ensures, c.reached_address-reached.ensures)
          (elim noted [
            | inl old ↦ doubling_again _ _ _ below _ _ _ old.1 old.2 c.loop-point.invariant
            | inr first ↦ absurd (cc (first.0, w.if-branch.true))
          ])
      | else-branch w ↦
          rw w.least-is
          (elim noted [
            | inl old ↦ absurd (cc (old.0, w.if-branch.false))
            | inr first ↦ doubling_new _ _ _ below _ _ _ first.1 first.2 c.loop-point.invariant
          ])
    ]

pub returns : goal.returns
returns c =
    let whole : c.loop-point.point-index ≡ length c.args.points.now = omega arith in
    rw whole at c.loop-point.invariant.first
