use Rattle.std.proofs.Common.{subst, sym, ◌∙◌}
use Rattle.m51_expr.specs.Grammar.{IsExpression}
use Rattle.m51_expr.specs.Reading.{line_of_symbols}
use Rattle.m51_expr.proofs.reading.read_expr.Goals as goal

pub returns-clause-complete : goal.returns-clause-complete
returns-clause-complete c = λ e to whole.
    c.read_from.ensures.complete e to
    (subst (λ symbols. IsExpression (line_of_symbols symbols) 0 c.args.from e to)
    (sym (c.deref.ensures.value ∙ c.in_ok-symbols.ensures)) whole)
