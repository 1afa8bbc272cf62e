use Rattle.std.proofs.Common.{length, ◌-◌, sym, arith}
use Rattle.m51_expr.specs.Reading.{line_of_symbols, enough, read}
use Rattle.m51_expr.proofs.Complete.{expression_from_is}
use Rattle.m51_expr.proofs.Steps.{gives_same}
use Rattle.m51_expr.proofs.Sound.{found_of}
use Rattle.m51_expr.proofs.reading.read_from.Goals as goal

pub returns-clause-sound : goal.returns-clause-sound
returns-clause-sound c =
    let n = enough (length c.args.symbols.now - c.args.from) 0 in
    found_of c.read.result n (line_of_symbols c.args.symbols.now) c.args.from (c.read.ensures.gives n (omega arith))

pub returns-clause-complete : goal.returns-clause-complete
returns-clause-complete c = λ e to whole.
    let n = enough (length c.args.symbols.now - c.args.from) 0 in
    gives_same c.read.result (read n (line_of_symbols c.args.symbols.now) 0 c.args.from) _
    (c.read.ensures.gives n (omega arith))
    (sym (expression_from_is c.args.symbols.now c.args.from e to whole))
