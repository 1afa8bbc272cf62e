use Rattle.std.proofs.Common.{◌∙◌, arith, sym}
use Rattle.m51_cases.proofs.Counted.{counted}
use Rattle.m51_cases.proofs.monitor_run.taken_after.Goals as goal

pub taken_by-requires : goal.taken_by-requires
taken_by-requires c = omega (arith, c.depth-depth.ensures.records.levels, c.requires.counted)

pub returns : goal.returns
returns c = c.taken_by.ensures ∙ counted c.args.monitor.now c.args.effect.now c.args.step c.args.taken c.requires.judged
    c.requires.counted
