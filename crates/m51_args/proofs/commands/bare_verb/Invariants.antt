use Rattle.std.proofs.Common.{◌≡◌, drop}
use Rattle.clap.specs.Words.{app_of}
use Rattle.m51_args.specs.Commands.{bare_app, with_options}
use Rattle.m51_jobs.specs.Texts.{lent}
use Rattle.m51_args.proofs.commands.bare_verb.Given as goal

abbrev pub invariant-loop-name : goal.invariant-loop-name
invariant-loop-name l = with_options (app_of l.command) (lent (drop l.name-index l.options))
    ≡ bare_app l.verb (lent l.options)
