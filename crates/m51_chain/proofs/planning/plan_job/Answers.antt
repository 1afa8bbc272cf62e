use Rattle.m51_chain.specs.Outcome.{many_answer}
use Rattle.m51_chain.proofs.PlannedRuns.{build_refused}
use Rattle.m51_chain.proofs.planning.plan_job.Goals as goal

pub returns-then-file_count-gt-MOST_FILES-clause-run : goal.returns-then-file_count-gt-MOST_FILES-clause-run
returns-then-file_count-gt-MOST_FILES-clause-run g c =
    build_refused c.args.job.now _ _ _ c.refuse_many_files.result many_answer c.refuse_many_files.ensures tt
