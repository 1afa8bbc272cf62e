-- What a verb is asked, by the matches of its command.
use Rattle.std.proofs.Common.{◌≡◌, ℕ, List, Option, Some, None, Result, Ok, Err, refl, sym, subst}
use Rattle.std.specs.Prelude.{IsErrAnd}
use Rattle.clap.specs.Words.{App, Row}
use Rattle.m51_args.specs.declared.error.WordsError.{WordsError}
use Rattle.m51_args.specs.declared.error.WordsError.TheVariants.{Usage, Memory}
use Rattle.m51_jobs.specs.declared.job.Job.{Job}
use Rattle.m51_args.specs.Asks.{AsksFor}
use Rattle.m51_args.specs.Commands.{rows_in}
use Rattle.m51_args.specs.Jobs.{asked}

pub asked_some : {A : Type 0} (app is : App) (job_in : List Row → Option A) (of : A → Job) (words : List (List ℕ))
    (rows : List Row) (job : A) → is ≡ app
    → rows_in is words ≡ Some rows → job_in rows ≡ Some job → asked app job_in of words ≡ Some (of job)
asked_some app is job_in of words rows job same matched found = rw (← same, matched, found) refl

pub asked_none : {A : Type 0} (app is : App) (job_in : List Row → Option A) (of : A → Job) (words : List (List ℕ))
    (rows : List Row) → is ≡ app
    → rows_in is words ≡ Some rows → job_in rows ≡ None → asked app job_in of words ≡ None
asked_none app is job_in of words rows same matched found = rw (← same, matched, found) refl

refused : {A : Type 0} (app is : App) (job_in : List Row → Option A) (of : A → Job) (words : List (List ℕ))
    (rows : List Row) (error : WordsError) → is ≡ app
    → rows_in is words ≡ Some rows → AsksFor {T = A} (λ job. job) (Err error) (job_in rows)
    → AsksFor {T = Job} (λ job. job) (Err error) (asked app job_in of words)
refused app is job_in of words rows Usage same matched none = asked_none app is job_in of words rows same matched none
refused app is job_in of words rows Memory same matched none = tt

pub asked_err : {A : Type 0} (app is : App) (job_in : List Row → Option A) (of : A → Job) (words : List (List ℕ))
    (rows : List Row) (error : WordsError)
    (result : Result Job WordsError) → is ≡ app → rows_in is words ≡ Some rows
    → AsksFor {T = A} (λ job. job) (Err error) (job_in rows)
    → IsErrAnd result (λ e. e ≡ error) → AsksFor {T = Job} (λ job. job) result (asked app job_in of words)
asked_err app is job_in of words rows error (Ok job) same matched none h = absurd h
asked_err app is job_in of words rows error (Err e) same matched none h =
    subst (λ x. AsksFor {T = Job} (λ job. job) (Err x) (asked app job_in of words)) (sym h)
    (refused app is job_in of words rows error same matched none)

unmatched : {A T : Type 0} (view : T → List Row) (app is : App) (job_in : List Row → Option A) (of : A → Job)
    (words : List (List ℕ)) (error : WordsError) → is ≡ app
    → AsksFor {T = T} view (Err error) (rows_in is words)
    → AsksFor {T = Job} (λ job. job) (Err error) (asked app job_in of words)
unmatched view app is job_in of words Usage same none = rw (← same, none) refl
unmatched view app is job_in of words Memory same none = tt

pub unmatched_err : {A T : Type 0} (view : T → List Row) (app is : App) (job_in : List Row → Option A) (of : A → Job)
    (words : List (List ℕ)) (error : WordsError)
    (result : Result Job WordsError) → is ≡ app → AsksFor {T = T} view (Err error) (rows_in is words)
    → IsErrAnd result (λ e. e ≡ error)
    → AsksFor {T = Job} (λ job. job) result (asked app job_in of words)
unmatched_err view app is job_in of words error (Ok job) same none h = absurd h
unmatched_err {A} {T} view app is job_in of words error (Err e) same none h =
    subst (λ x. AsksFor {T = Job} (λ job. job) (Err x) (asked app job_in of words)) (sym h)
    (unmatched {A = A} {T = T} view app is job_in of words error same none)
