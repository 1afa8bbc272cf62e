-- What a party is made of, and how its run ends.
use Rattle.std.specs.Prelude.{◌≡◌, ℕ, ◌≤◌, true, false, Bool, List, length, map, is_some, Option, All}
use Rattle.std.specs.List.{list_any}
use Rattle.std.specs.Io.KnownBytes.{Appends}
use Rattle.m51_cells.specs.Outside.{AppendsFront}
use Rattle.m51_sim.specs.Boards.{BoardState}
use Rattle.m51_party.specs.declared.party.PartyEnd.{PartyEnd}
use Rattle.m51_party.specs.declared.party.PartyEnd.TheVariants as ends
use Rattle.m51_party.specs.declared.seat.Seat.{Seat}
use Rattle.m51_party.specs.Family.{Family, IsFresh}
use Rattle.m51_party.specs.Seats.{new_seat}
use Rattle.m51_party.specs.Text.{party_text}

-- a party of these boards that was not run: there are 2 to 8, and none was stepped
pub record IsPartyOf (boards : List BoardState) (party : List Seat) : Type 0 where
  pub least : 2 ≤ length boards
  pub most : length boards ≤ 8
  pub fresh : All IsFresh boards
  pub seats : party ≡ map new_seat boards

-- its boards
abbrev pub boards_of : List Seat → List BoardState
boards_of party = map (λ s. s.board) party

-- some record has an event
abbrev pub has_event : Family → Bool
has_event family = list_any (λ r. is_some r.event) family

-- The text has grown by that of the family, and this says whether some record of it has an event; if the sink has
-- failed, by a prefix of it.
abbrev pub IsPartyReport : List BoardState → ℕ → Family → Option (List ℕ) → Option (List ℕ) → PartyEnd → Type 0
IsPartyReport boards n family before after ends.Finished =
    (has_event family ≡ false) × Appends before after (party_text boards n family)
IsPartyReport boards n family before after ends.Stopped =
    (has_event family ≡ true) × Appends before after (party_text boards n family)
IsPartyReport boards n family before after ends.WriteFault = AppendsFront before after (party_text boards n family)
