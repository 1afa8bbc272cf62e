use Rattle.std.proofs.Common.{◌==◌, sym, ap, ◌∙◌}
use Rattle.std.specs.List.{filter_map}
use Rattle.m51_text.specs.Entries.{fault_kept}
use Rattle.m51_text.specs.Answer.{Faults}
use Rattle.m51_text.proofs.Telling.{lines_told, faults_told}
use Rattle.m51_text.proofs.answering.faults_or_lines.Goals as goal

pub returns-then-is_empty : goal.returns-then-is_empty
returns-then-is_empty c =
    lines_told c.args.read c.in_ok-faults.faults.items c.of.result
    (ap (λ n. n == 0) (sym c.in_ok-faults.faults.ok.0) ∙ sym c.is_empty.ensures ∙ c.if-is_empty.true)
    (c.in_ok-faults.ensures ∙ ap (filter_map fault_kept) c.deref.ensures.value) (c.of.ensures ∙ c.in_ok-lines.ensures)

pub returns : goal.returns
returns c =
    ap Faults c.of-2.ensures ∙ faults_told c.args.read c.in_ok-faults.faults.items
    (ap (λ n. n == 0) (sym c.in_ok-faults.faults.ok.0) ∙ sym c.is_empty.ensures ∙ c.if-is_empty.false)
    (c.in_ok-faults.ensures ∙ ap (filter_map fault_kept) c.deref.ensures.value)
