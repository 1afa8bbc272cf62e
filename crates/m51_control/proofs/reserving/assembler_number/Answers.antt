use Rattle.std.proofs.Common.{sym, ◌∙◌}
use Rattle.std.proofs.lemmas.Str.{IsUtf8-from_ascii}
use Rattle.m51_control.proofs.Runs.{run_is_ascii}
use Rattle.m51_control.proofs.reserving.assembler_number.Goals as goal

pub returns-in_default : goal.returns-in_default
returns-in_default c =
    absurd (c.in_default.ensures.cases.0
    (IsUtf8-from_ascii c.args.run.now (run_is_ascii c.args.run.now (sym c.is_run.ensures ∙ c.if-not-is_run.false))))
