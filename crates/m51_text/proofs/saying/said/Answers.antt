use Rattle.std.proofs.Common.{sym, ◌∙◌}
use Rattle.std.proofs.lemmas.Str.{IsUtf8-from_ascii}
use Rattle.m51_text.proofs.Ascii.{line_is_ascii}
use Rattle.m51_text.proofs.saying.said.Goals as goal

pub returns-in_default : goal.returns-in_default
returns-in_default c =
    absurd (c.in_default.ensures.cases.0
    (IsUtf8-from_ascii c.args.line.now
    (line_is_ascii c.args.line.now (sym c.are_characters.ensures ∙ c.if-not-are_characters.false))))
