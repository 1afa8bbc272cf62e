use Rattle.std.proofs.Common.{◌≡◌, rules}
use Rattle.clap.specs.Words.{app_of}
use Rattle.m51_args.specs.Commands.{build_app}
use Rattle.m51_args.specs.Jobs.{build_of}
use Rattle.m51_args.proofs.Asking.{asked_err, asked_some}
use Rattle.m51_args.proofs.verbs.build_job.Goals as goal

pub returns : goal.returns
returns c =
    let command : app_of c.in_ok-command.command ≡ build_app = search rules in
    asked_some build_app _ build_of _ _ _ _ command c.in_ok-matches.ensures c.in_ok-build_of.ensures

pub returns-in_err-build_of : goal.returns-in_err-build_of
returns-in_err-build_of c =
    let command : app_of c.in_ok-command.command ≡ build_app = search rules in
    asked_err build_app _ build_of _ _ _ _ c.from_residual-in_err-build_of.result command c.in_ok-matches.ensures
    c.in_err-build_of.ensures c.from_residual-in_err-build_of.ensures.1
