-- What comes of the work of a verb: of a program as it is linked, of files, and of refusals.
use Rattle.m51_chain.proofs.Common.{AreLinked, Err, Finished, Follows, IfSome_then, InputError, InputsTree}
use Rattle.m51_chain.proofs.Common.{IsInputsOutcome, IsLinkedOutcome, IsProgramOutcome, Linked, LinkedFiles, List, None}
use Rattle.m51_chain.proofs.Common.{Ok, Option, Program, Refusal, RefusesWith, Result, Script, Some, Stop, Unlinked, ap}
use Rattle.m51_chain.proofs.Common.{append-nil, refl, subst, ℕ, ◌≡◌}
use Rattle.m51_chain.specs.Linking.{AreRefused}
use Rattle.std.proofs.Common.{◌≢◌}
use Rattle.m51_inputs.specs.Inputs.{told}
use Rattle.m51_chain.specs.ProgramFiles.{AreAnswered, Given, IsFilesOutcome, IsGivenOutcome, Nothing, ProgramFiles}
use Rattle.m51_chain.specs.ProgramFiles.{Refused}
use Rattle.m51_chain.specs.Outcome.{Comes, Outcome, outcome_of, stopped, status_at, text_at, written}
use Rattle.std.specs.Prelude.{IfSome, codes, option_map, IsErrAnd}
use Rattle.m51_chain.specs.declared.work.Finish.TheVariants.{Ran, FlatRun}
use Rattle.m51_chain.specs.FlatRuns.{flat_report}
use Rattle.m51_sim.specs.Boards.{FlatState, IsFlatStarted}
use Rattle.m51_sim.specs.Report.{flat_report_of}
use Rattle.m51_inputs.specs.declared.error.InputError.TheVariants as input

-- ---- work that is accepted

-- a text that is written, with nothing after it
pub ran_alone : (text : List ℕ) → outcome_of (record { keeps = None; text = text; ending = Ran }) ≡ written text
unfolding status_at text_at
ran_alone text = ap written (append-nil text)

-- what is one of these outcomes is one of those
pub comes_weaker : (Is Was : Outcome → Type 0) (result : Result Finished Stop) → ((o : Outcome) → Was o → Is o)
    → Comes Was result → Comes Is result
comes_weaker Is Was (Ok done) to h = to (outcome_of done) h
comes_weaker Is Was (Err why) to h = IfSome_then (stopped why) h to

-- the report of an image, by the board that is made of it
pub flat_report_is : (image : List ℕ) (script : Script) (steps : ℕ) (board : FlatState) (text : List ℕ)
    → IsFlatStarted image script board
    → text ≡ codes "RUN\n" → outcome_of (record { keeps = None; text = text; ending = FlatRun board steps })
    ≡ flat_report image script steps
unfolding status_at text_at flat_report_of
flat_report_is image script steps board text started is =
    rw (started.state, started.image_is, started.script_is, is) refl

-- ---- refusals

-- what the exit of a `?` returns, where the error stays
pub came : {T : Type 0} (result : Result T Stop) (why : Stop) → IsErrAnd result (λ e. e ≡ why) → result ≡ Err why
came (Ok value) why h = absurd h
came (Err e) why h = ap (λ s. Err s) h

-- a refusal of an answer, as the outcome that it has
pub refused_comes : {V E : Type 0} (Is : Outcome → Type 0) (refusal : Option E) (outcome : E → Outcome) (why : Stop)
    (answer : Result V E)
    → stopped why ≡ option_map outcome refusal → RefusesWith refusal answer
    → ((e : E) → answer ≡ Err e → Is (outcome e)) → IfSome (stopped why) Is
refused_comes Is None outcome why answer is refuses so = rw is tt
refused_comes Is (Some e) outcome why answer is refuses so = rw is (so e refuses)

-- an error of files that is none of out of memory is the answer
pub error_told : (error : InputError) → error ≢ input.Memory → told (Err error) ≡ Some (Err error)
error_told input.Memory some = absurd (some refl)
error_told error some = refl

-- a refusal of the link, whatever would come of the program
pub unlinked : {program : Result Program Refusal} {Is : Linked → Outcome → Type 0} {o : Outcome}
    → IsProgramOutcome program Nothing o → IsProgramOutcome program Is o
unlinked (Unlinked why refuses is) = Unlinked why refuses is
unlinked (Follows p linked is are none) = absurd none

given_weaker : {files : ProgramFiles} {Is Was : InputsTree → Outcome → Type 0} {given : Result InputsTree InputError}
    {o : Outcome} → ((inputs : InputsTree) → Was inputs o → Is inputs o)
    → IsGivenOutcome files Was given o → IsGivenOutcome files Is given o
given_weaker to (Refused error refuses is) = Refused error refuses is
given_weaker to (Given inputs is it) = Given inputs is (to inputs it)

files_weaker : (files : ProgramFiles) (contents : List (List ℕ)) (Is Was : InputsTree → Outcome → Type 0) (why : Stop)
    → ((inputs : InputsTree) (o : Outcome) → Was inputs o → Is inputs o)
    → IfSome (stopped why) (IsFilesOutcome files contents Was) → IfSome (stopped why) (IsFilesOutcome files contents Is)
files_weaker files contents Is Was why to h =
    IfSome_then (stopped why) h
    (λ o it. record { given = it.given; answer = it.answer; is = given_weaker (λ inputs. to inputs o) it.is })

-- a refusal of files or of their link, whatever would come of the program
pub files_refused : (files : ProgramFiles) (contents : List (List ℕ)) (Is : Script → Linked → Outcome → Type 0)
    (why : Stop) → AreRefused files contents why
    → IfSome (stopped why) (IsLinkedOutcome files contents Is)
files_refused files contents Is why h =
    files_weaker files contents (IsInputsOutcome Is) (IsInputsOutcome (λ script. Nothing)) why
    (λ inputs o it. unlinked it) h

-- a refusal of a file, whatever would come of what they give
pub file_refused : (files : ProgramFiles) (contents : List (List ℕ)) (Is : InputsTree → Outcome → Type 0) (why : Stop)
    → IfSome (stopped why) (IsFilesOutcome files contents Nothing)
    → IfSome (stopped why) (IsFilesOutcome files contents Is)
file_refused files contents Is why h = files_weaker files contents Is Nothing why (λ inputs o none. absurd none) h

-- what refuses what the files give refuses the files
pub inputs_refused : (files : ProgramFiles) (contents : List (List ℕ)) (Is : InputsTree → Outcome → Type 0)
    (inputs : InputsTree) (why : Stop)
    → AreAnswered files contents (Ok inputs) → IfSome (stopped why) (Is inputs)
    → IfSome (stopped why) (IsFilesOutcome files contents Is)
inputs_refused files contents Is inputs why answer h =
    IfSome_then (stopped why) h (λ o it. record { given = Ok inputs; answer = answer; is = Given inputs refl it })

-- ---- what comes of a linked program comes of its files

pub follows : (files : ProgramFiles) (contents : List (List ℕ)) (Is : Script → Linked → Outcome → Type 0)
    (found : LinkedFiles) (outcome : Outcome)
    → AreLinked files contents found → Is found.script found.linked outcome → IsLinkedOutcome files contents Is outcome
follows files contents Is found outcome are it = record {
  given = Ok are.inputs;
  answer = are.given;
  is = Given are.inputs refl (Follows are.program.0 found.linked are.program.1 are.program.2
      (subst (λ s. Is s found.linked outcome) are.script it));
}

pub linked_comes : (files : ProgramFiles) (contents : List (List ℕ)) (Is : Script → Linked → Outcome → Type 0)
    (found : LinkedFiles) (result : Result Finished Stop)
    → AreLinked files contents found → Comes (Is found.script found.linked) result
    → Comes (IsLinkedOutcome files contents Is) result
linked_comes files contents Is found result are h =
    comes_weaker (IsLinkedOutcome files contents Is) (Is found.script found.linked) result
    (λ o it. follows files contents Is found o are it) h
