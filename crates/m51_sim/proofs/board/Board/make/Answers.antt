use Rattle.m51_sim.proofs.Common.{sym, ap, ChipState}
use Rattle.m51_sim.proofs.Beginning.{is_started, start_order}
use Rattle.m51_sim.proofs.board.Board.make.Goals as goal

pub invariant_of-result : goal.invariant_of-result
invariant_of-result c = record {
  order = start_order _ _ _ c.cite_stores.ensures.sound c.cite_stores.ensures.records c.in_ok-monitor.ensures _
      (ap (λ (chip : ChipState). chip.cpu) c.in_ok-chip.ensures);
  draft = c.blank_draft.ensures c.in_ok-chip.chip.cpu;
}

pub returns : goal.returns
returns c =
    is_started _ _ _ c.cite_stores.ensures.sound c.cite_stores.ensures.records c.in_ok-monitor.ensures _ _ _
    (sym c.fill.ensures) c.in_ok-chip.ensures
