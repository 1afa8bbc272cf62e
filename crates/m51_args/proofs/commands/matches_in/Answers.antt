use Rattle.clap.specs.Words.{found_of, rows_of}
use Rattle.clap.specs.declared.parser.matches.ArgMatches.{ArgMatches}
use Rattle.m51_args.specs.Commands.{rows_in}
use Rattle.m51_args.proofs.Refusing.{error_asks}
use Rattle.m51_args.proofs.commands.matches_in.Goals as goal

pub returns-in-Err : goal.returns-in-Err
unfolding rows_in
returns-in-Err c =
    rw (c.refused.ensures, c.kind.ensures)
    (error_asks {T = ArgMatches} (λ matches. rows_of (found_of matches)) _ _ _ (c.in-Err.ensures.kinds c.requires.free))
