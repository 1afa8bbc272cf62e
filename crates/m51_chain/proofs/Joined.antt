-- Modules that are linked each by itself, their boards, and the report of their party.
use Rattle.m51_chain.proofs.Common.{AreBoardsFor, AreBoardsOf, BoardState, Err, Follows, IfSome_then, InputsTree}
use Rattle.m51_chain.proofs.Common.{IsBoardOf, IsLinkedOr, IsPartyWork, IsProgramOutcome, IsStarted, LayoutParts}
use Rattle.m51_chain.proofs.Common.{Linked, List, ModuleParts, Ok, PartyJob, Program, Refusal, Result, Script, Stop}
use Rattle.m51_chain.proofs.Common.{Unlinked, [], and_then, ap, append-nil, arith, drop, family_of, length, party_files}
use Rattle.m51_chain.proofs.Common.{refl, sole_program, suc, ℕ, ◌++◌, ◌∙◌, ◌∷◌, ◌≡◌}
use Rattle.m51_chain.specs.Parties.{AreBoardsOr, AreJoinedOr, IsBoardOr, IsUnlinked, each_of}
use Rattle.std.proofs.lemmas.List.Elements.{All-cons, All-nil}
use Rattle.m51_chain.specs.ProgramFiles.{AreAnswered, Given, Nothing}
use Rattle.m51_chain.specs.Outcome.{Outcome, stopped}
use Rattle.m51_party.proofs.One.{only_family}
use Rattle.std.specs.Prelude.{All, Vec}
use Rattle.std.specs.declared.alloc.Global.{Global}
use Rattle.m51_party.specs.Family.{IsFresh}
use Rattle.m51_chain.proofs.Edits.{none_left}
use Rattle.m51_chain.proofs.Accepted.{AreGiven, ok_same}
use Rattle.m51_chain.proofs.Following.{inputs_refused}
use Rattle.m51_chain.specs.Parties as parties

-- ---- what each gives

-- a list with one more at its end
abbrev with_last : {B E : Type 0} → B → List B → Result (List B) E
with_last y ys = Ok (ys ++ y ∷ [])

module _ {A B E : Type 0} (give : A → Result B E) where
  taken : (first : Result B E) (others : Result (List B) E) (ys : List B)
      → and_then first (λ b. and_then others (λ bs. Ok (b ∷ bs))) ≡ Ok ys
      → (b : B) × (bs : List B) × (first ≡ Ok b) × (others ≡ Ok bs) × (b ∷ bs ≡ ys)
  taken (Ok b) (Ok bs) ys h = (b, bs, refl, refl, cc h)
  taken (Ok b) (Err e) ys h = absurd (cc h)
  taken (Err e) others ys h = absurd (cc h)

  given_more : (xs : List A) (x : A) (ys : List B) (y : B) → each_of give xs ≡ Ok ys → give x ≡ Ok y
      → each_of give (xs ++ x ∷ []) ≡ Ok (ys ++ y ∷ [])
  given_more [] x ys y h k = rw k (ap (with_last y) (ok_same _ [] ys refl h))
  given_more (z ∷ xs) x ys y h k =
      let t = taken (give z) (each_of give xs) ys h in
      rw (t.2, given_more xs x t.1 y t.3 k) (ap (with_last y) t.4)

  given_refused : (xs : List A) (x : A) (rest : List A) (ys : List B) (why : E) → each_of give xs ≡ Ok ys
      → give x ≡ Err why → each_of give (xs ++ x ∷ rest) ≡ Err why
  given_refused [] x rest ys why h k = rw k refl
  given_refused (z ∷ xs) x rest ys why h k =
      let t = taken (give z) (each_of give xs) ys h in rw (t.2, given_refused xs x rest t.1 why t.3 k) refl

  given_count : (xs : List A) (ys : List B) → each_of give xs ≡ Ok ys → length ys ≡ length xs
  given_count [] ys h = rw (← ok_same _ [] ys refl h) refl
  given_count (x ∷ xs) ys h =
      let t = taken (give x) (each_of give xs) ys h in rw (← t.4) (ap suc (given_count xs t.1 t.3))

-- ---- boards, one by one

boards_more : (script : Script) (ps : List Program) (bs : List BoardState) (p : Program) (b : BoardState)
    → AreBoardsOf script ps bs → IsBoardOf script p b
    → AreBoardsOf script (ps ++ p ∷ []) (bs ++ b ∷ [])
boards_more script [] [] p b h is = (is, tt)
boards_more script (q ∷ ps) (c ∷ bs) p b h is = (h.0, boards_more script ps bs p b h.1 is)
boards_more script ps bs p b h is = absurd h

-- a board after a reset was not stepped
started_fresh : (l : LayoutParts) (image : List ℕ) (script : Script) (b : BoardState) → IsStarted l image script b
    → IsFresh b
started_fresh l image script b h = record {
  layout_is = refl;
  image_is = refl;
  script_is = refl;
  state = rw (← h.script_is, ← h.layout_is) at h.state;
}

pub all_fresh : (script : Script) (ps : List Program) (bs : List BoardState) → AreBoardsOf script ps bs → All IsFresh bs
all_fresh script [] [] h = All-nil IsFresh
all_fresh script (p ∷ ps) (b ∷ bs) h =
    let started = h.0.started in
    All-cons IsFresh b bs (started_fresh h.0.linked.layout h.0.linked.image script b started)
    (all_fresh script ps bs h.1)
all_fresh script ps bs h = absurd h

boards_count : (script : Script) (ps : List Program) (bs : List BoardState) → AreBoardsOf script ps bs
    → length bs ≡ length ps
boards_count script [] [] h = refl
boards_count script (p ∷ ps) (b ∷ bs) h = ap suc (boards_count script ps bs h.1)
boards_count script ps bs h = absurd h

-- no module
pub for_none : (script : Script) (boards : List BoardState) → boards ≡ [] → AreBoardsFor script [] boards
for_none script boards none = rw none (record { programs = []; are = refl; each = tt })

-- one more
pub for_more : (script : Script) (done : List ModuleParts) (parts : ModuleParts) (boards new : List BoardState)
    (board : BoardState)
    → AreBoardsFor script done boards → IsBoardOr script parts (Ok board) → new ≡ boards ++ board ∷ []
    → AreBoardsFor script (done ++ parts ∷ []) new
for_more script done parts boards new board h is put = rw put (record {
  programs = h.programs ++ is.0 ∷ [];
  are = given_more sole_program done parts h.programs is.0 h.are is.1;
  each = boards_more script h.programs boards is.0 board h.each is.2;
})

-- where none is left, all are done
pub for_all : (script : Script) (all done old new : List ModuleParts) (boards : List BoardState) → old ≡ new
    → new ≡ drop 1 old → done ++ old ≡ all
    → AreBoardsFor script done boards → AreBoardsFor script all boards
for_all script all done old new boards same rest is h =
    let none : old ≡ [] = none_left old new same rest in
    let whole : done ≡ all = cc (append-nil done, none, is) in rw (← whole) h

-- a refusal of one is that of all
pub for_refused : (script : Script) (all done rest : List ModuleParts) (parts : ModuleParts) (boards : List BoardState)
    (why : Stop)
    → done ++ parts ∷ rest ≡ all → AreBoardsFor script done boards → IsBoardOr script parts (Err why)
    → AreBoardsOr script all (Err why)
for_refused script all done rest parts boards why is h none = IfSome_then (stopped why) none (λ o it. record {
  why = it.why;
  refuses = rw (← is) (given_refused sole_program done parts rest h.programs it.why h.are it.refuses);
  is = it.is;
})

-- the boards of all modules are those of a party
pub joined : (job : PartyJob) (contents : List (List ℕ)) (inputs : InputsTree)
    (result : Result (Vec BoardState Global) Stop)
    → AreAnswered (party_files job) contents (Ok inputs) → AreGiven job contents inputs
    → AreBoardsOr inputs.script inputs.modules result
    → AreJoinedOr job contents result
joined job contents inputs (Ok boards) answered given h =
    let count : length boards.items ≡ length inputs.modules =
    boards_count inputs.script h.programs boards.items h.each
    ∙ given_count sole_program inputs.modules h.programs h.are in
    let fresh : All IsFresh boards.items = all_fresh inputs.script h.programs boards.items h.each in
    let family = family_of boards.items job.steps in
    let one = only_family boards.items job.steps fresh in
    record {
      least = omega (arith, given.least, count);
      most = omega (arith, given.most, count);
      fresh = fresh;
      is = record {
        given = Ok inputs;
        answer = answered;
        is = Given inputs refl
            (parties.Ran h.programs boards.items h.are h.each
            (record { family = family; belongs = one.is; is = refl }));
      };
    }
joined job contents inputs (Err why) answered given none =
    inputs_refused (party_files job) contents (IsPartyWork job.steps) inputs why answered
    (IfSome_then (stopped why) none (λ o it. parties.Unlinked it.why it.refuses it.is))

-- ---- one board

-- a refusal of the link
unlinked_only : (program : Result Program Refusal) (outcome : Outcome) → IsProgramOutcome program Nothing outcome
    → IsUnlinked program outcome
unlinked_only program outcome (Unlinked why refuses is) = record { why = why; refuses = refuses; is = is }
unlinked_only program outcome (Follows p linked is are none) = absurd none

pub alone_refused : (script : Script) (parts : ModuleParts) (why : Stop) → IsLinkedOr (sole_program parts) (Err why)
    → IsBoardOr script parts (Err why)
alone_refused script parts why h = IfSome_then (stopped why) h (unlinked_only (sole_program parts))

-- the board of a program as it is linked, with a copy of the script
pub alone_started : (script copy : Script) (parts : ModuleParts) (linked : Linked) (board : BoardState)
    → copy ≡ script → IsLinkedOr (sole_program parts) (Ok linked)
    → IsStarted linked.layout linked.image copy board
    → IsBoardOr script parts (Ok board)
alone_started script copy parts linked board same h started = (
  h.0,
  h.1,
  record {
    linked = linked;
    is = h.2;
    started = rw same at started;
  },
)
