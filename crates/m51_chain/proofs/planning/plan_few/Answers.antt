use Rattle.m51_chain.specs.Outcome.{long_answer}
use Rattle.std.proofs.Common.{rules}
use Rattle.m51_chain.proofs.PlannedRuns.{build_refused, build_task}
use Rattle.m51_chain.proofs.planning.plan_few.Goals as goal

pub returns-in-Ok-clause-run : goal.returns-in-Ok-clause-run
returns-in-Ok-clause-run g c =
    build_task c.args.job.now (g.F.Shelf.state c.args.files.now).holds (g.F.Shelf.state c.args.files.now).reads
    (g.F.Shelf.state c.read_all.new.files).reads c.as_slice-in-Ok.result.now c.work_planned.result (search rules)
    (search rules) c.work_planned.ensures.run

pub returns-in-Err-TooLong-clause-run : goal.returns-in-Err-TooLong-clause-run
returns-in-Err-TooLong-clause-run g c =
    build_refused c.args.job.now _ _ _ c.refuse_long_file.result long_answer c.refuse_long_file.ensures tt

pub returns-in-Err-Failed-clause-run : goal.returns-in-Err-Failed-clause-run
returns-in-Err-Failed-clause-run g c =
    build_refused c.args.job.now _ _ _ c.refuse_unread_file.result _ c.refuse_unread_file.ensures tt
