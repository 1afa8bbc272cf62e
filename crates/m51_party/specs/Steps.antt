-- Facts about a run for the callers of private functions, and no definitions.
use Rattle.std.specs.Prelude.{◌≡◌, ℕ, Bool, List, ◌++◌, length, is_some, codes, Option}
use Rattle.std.specs.Fmt.{decimal}
use Rattle.std.specs.List.{list_any}
use Rattle.std.specs.Io.KnownBytes.{Appends}
use Rattle.m51_cells.specs.Outside.{AppendsFront}
use Rattle.m51_sim.specs.Boards.{BoardState}
use Rattle.m51_party.specs.declared.seat.Seat.{Seat}
use Rattle.m51_party.specs.Family.{Family, IsFamily}
use Rattle.m51_party.specs.Seats.{ends_text}
use Rattle.m51_party.specs.Report.{IsPartyOf, has_event}
use Rattle.m51_party.specs.Text.{party_text}

-- the first line
abbrev pub head_text : ℕ → List ℕ
head_text count = codes "PARTY " ++ decimal count ++ codes "\n"

-- some board was stopped
abbrev pub some_event : List Seat → Bool
some_event seats = list_any (λ s. is_some s.event) seats

-- all lines of steps are written, and only the last lines are to come
pub record AreStepped
    (boards : List BoardState) (n : ℕ) (family : Family) (before after : Option (List ℕ)) (seats : List Seat)
    : Type 0 where
  pub lines : List ℕ
  pub written : Appends before after lines
  pub text : party_text boards n family ≡ head_text (length boards) ++ (lines ++ ends_text 0 seats)
  pub events : has_event family ≡ some_event seats

-- a prefix of what comes after the first line is written
pub record AreCut
    (boards : List BoardState) (n : ℕ) (family : Family) (before after : Option (List ℕ))
    : Type 0 where
  pub lines : List ℕ
  pub front : AppendsFront before after lines
  pub text : party_text boards n family ≡ head_text (length boards) ++ lines

-- so it is for the family of boards that were not stepped
abbrev pub AllStepped : List Seat → ℕ → Option (List ℕ) → Option (List ℕ) → List Seat → Type 0
AllStepped olds n before after news =
    (boards : List BoardState) (family : Family) → IsPartyOf boards olds → IsFamily boards n family
    → AreStepped boards n family before after news

abbrev pub AllCut : List Seat → ℕ → Option (List ℕ) → Option (List ℕ) → Type 0
AllCut olds n before after =
    (boards : List BoardState) (family : Family) → IsPartyOf boards olds → IsFamily boards n family
    → AreCut boards n family before after

-- the whole text is written, and whether some board was stopped is whether some record has an event
pub record IsPartyWritten
    (boards : List BoardState) (n : ℕ) (family : Family) (before after : Option (List ℕ)) (seats : List Seat)
    : Type 0 where
  pub text : Appends before after (party_text boards n family)
  pub events : has_event family ≡ some_event seats

abbrev pub AllWritten : List Seat → ℕ → Option (List ℕ) → Option (List ℕ) → List Seat → Type 0
AllWritten olds n before after news =
    (boards : List BoardState) (family : Family) → IsPartyOf boards olds → IsFamily boards n family
    → IsPartyWritten boards n family before after news

abbrev pub AllFront : List Seat → ℕ → Option (List ℕ) → Option (List ℕ) → Type 0
AllFront olds n before after =
    (boards : List BoardState) (family : Family) → IsPartyOf boards olds → IsFamily boards n family
    → AppendsFront before after (party_text boards n family)
