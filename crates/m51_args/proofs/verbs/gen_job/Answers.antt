use Rattle.std.proofs.Common.{◌≡◌, rules, sym}
use Rattle.clap.specs.Words.{app_of}
use Rattle.m51_args.specs.Commands.{gen_app}
use Rattle.m51_args.specs.Jobs.{gen_of}
use Rattle.m51_args.proofs.Asking.{asked_some, asked_none}
use Rattle.m51_args.proofs.verbs.gen_job.Goals as goal

pub returns-in-Some : goal.returns-in-Some
returns-in-Some c =
    let command : app_of c.in_ok-command.command ≡ gen_app = search rules in
    asked_some gen_app _ gen_of _ _ _ _ command c.in_ok-matches.ensures (sym c.in-Some.ensures)

pub returns : goal.returns
returns c =
    let command : app_of c.in_ok-command.command ≡ gen_app = search rules in
    asked_none gen_app _ gen_of _ _ _ command c.in_ok-matches.ensures (sym c.in-None.ensures)
