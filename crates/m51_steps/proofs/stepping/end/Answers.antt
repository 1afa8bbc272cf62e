use Rattle.std.specs.Prelude.{option_copied}
use Rattle.m51_print.specs.Lines.{last_line, titles_of}
use Rattle.m51_steps.proofs.Ended.{front_same}
use Rattle.m51_steps.proofs.stepping.end.Goals as goal

pub returns-clause-front : goal.returns-clause-front
returns-clause-front g c =
    front_same c.write_end.result (g.S.Sink.state c.args.out.now).text (g.S.Sink.state c.write_end.new.out).text
    (last_line (titles_of c.placed.result.now) (option_copied c.args.event) c.args.steps c.cycle.result)
    (last_line (titles_of c.args.board.now.monitor.layout.placed) (option_copied c.args.event) c.args.steps
    c.args.board.now.chip.cycle) (cc (c.placed.ensures.list, c.layout.ensures, c.cycle.ensures))
    c.write_end.ensures.front
