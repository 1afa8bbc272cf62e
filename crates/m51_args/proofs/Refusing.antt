-- Errors of a parse, as answers about words.
use Rattle.std.proofs.Common.{◌≡◌, ◌⊎◌, List, [], ◌∷◌, None, Err, refl, inl, inr, sym, subst}
use Rattle.clap.specs.declared.error.kind.ErrorKind.{ErrorKind}
use Rattle.clap.specs.declared.error.kind.ErrorKind.TheVariants.{OutOfMemory}
use Rattle.clap.specs.Words.{IsAmong, Kinds, Row}
use Rattle.m51_args.specs.declared.error.WordsError.{WordsError}
use Rattle.m51_args.specs.declared.error.WordsError.TheVariants.{Usage, Memory}
use Rattle.m51_args.specs.Asks.{AsksFor, refused_by}
use Rattle.m51_args.specs.Commands.{unless_fault}

no_answer : {T V : Type 0} (view : T → V) (why : WordsError) → AsksFor view (Err why) None
no_answer view Usage = refl
no_answer view Memory = tt

among_faults : {T : Type 0} (view : T → List Row) (kinds : Kinds) (rows : List Row) (kind : ErrorKind)
    → IsAmong kind kinds
    → AsksFor view (Err (refused_by kind)) (unless_fault kinds rows)
among_faults view [] rows kind h = absurd h
among_faults view (k ∷ kinds) rows kind h = no_answer view (refused_by kind)

pub error_asks : {T : Type 0} (view : T → List Row) (kinds : Kinds) (rows : List Row) (kind : ErrorKind)
    → ((kind ≡ OutOfMemory) ⊎ IsAmong kind kinds)
    → AsksFor view (Err (refused_by kind)) (unless_fault kinds rows)
error_asks view kinds rows kind (inl memory) =
    subst (λ k. AsksFor view (Err (refused_by k)) (unless_fault kinds rows)) (sym memory) tt
error_asks view kinds rows kind (inr among) = among_faults view kinds rows kind among
