use Rattle.std.proofs.Common.{◌≡◌, rules}
use Rattle.clap.specs.Words.{app_of}
use Rattle.m51_args.specs.Commands.{flat_app}
use Rattle.m51_args.specs.Jobs.{flat_of}
use Rattle.m51_args.proofs.Asking.{asked_some}
use Rattle.m51_args.proofs.verbs.flat_job.Goals as goal

pub returns : goal.returns
returns c =
    let command : app_of c.in_ok-command.command ≡ flat_app = search rules in
    asked_some flat_app _ flat_of _ _ _ _ command c.in_ok-matches.ensures c.in_ok-flat_of.ensures
