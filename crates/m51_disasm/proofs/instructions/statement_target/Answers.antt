-- The target that the row of an instruction gives is that of its text.
use Rattle.std.proofs.Common.{◌≡◌, ◌+◌, ◌%◌, ◌<◌, sym, subst, ap, ◌∙◌}
use Rattle.std.specs.Prelude.{IfSome}
use Rattle.m51_isa.specs.Table.{length_of}
use Rattle.m51_isa.specs.Targets.{target_of as target_by_row}
use Rattle.m51_disasm.specs.Statements.{target_by, statement_target}
use Rattle.m51_disasm.proofs.Leading.{led_by_text}
use Rattle.m51_disasm.proofs.instructions.statement_target.Goals as goal

pub returns-in-Code : goal.returns-in-Code
unfolding statement_target
returns-in-Code c =
    let at = c.args.statement.now.at in
    let instr = c.in-Code.instr in
    let e : c.target_after.result ≡ target_by_row instr ((at + length_of instr) % 65536)
    = c.target_after.ensures.value ∙ ap (target_by_row instr) c.next_of-next.ensures in
    e ∙ led_by_text instr (at + length_of instr) (subst (λ o. IfSome o (λ t. t < 65536)) e c.target_after.ensures.fits)
    ∙ ap (target_by at) (sym c.in-Code.is)
