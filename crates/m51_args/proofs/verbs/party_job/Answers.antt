use Rattle.std.proofs.Common.{◌≡◌, rules}
use Rattle.clap.specs.Words.{app_of, found_of, rows_of}
use Rattle.clap.specs.declared.parser.matches.ArgMatches.{ArgMatches}
use Rattle.m51_args.specs.Commands.{party_app}
use Rattle.m51_args.specs.Jobs.{party_of}
use Rattle.m51_args.proofs.Asking.{asked_err, asked_some, unmatched_err}
use Rattle.m51_args.proofs.verbs.party_job.Goals as goal

pub returns : goal.returns
returns c =
    let command : app_of c.in_ok-command.command ≡ party_app = search rules in
    asked_some party_app _ party_of _ _ _ _ command c.in_ok-matches.ensures c.in_ok-party_of.ensures

pub returns-in_err-party_of : goal.returns-in_err-party_of
returns-in_err-party_of c =
    let command : app_of c.in_ok-command.command ≡ party_app = search rules in
    asked_err party_app _ party_of _ _ _ _ c.from_residual-in_err-party_of.result command c.in_ok-matches.ensures
    c.in_err-party_of.ensures c.from_residual-in_err-party_of.ensures.1

pub returns-in_err-matches : goal.returns-in_err-matches
returns-in_err-matches c =
    let command : app_of c.in_ok-command.command ≡ party_app = search rules in
    unmatched_err {T = ArgMatches}
    (λ matches. rows_of (found_of matches))
    party_app _ party_of _ _ _ c.from_residual-in_err-matches.result command c.in_err-matches.ensures
    c.from_residual-in_err-matches.ensures.1
