-- Boards of which contracts see the same make the same records and the same text.
use Rattle.std.proofs.lemmas.Grind.{common_steps}
use Rattle.m51_party.proofs.Common.{◌≡◌, ◌+◌, ℕ, suc, zero, List, [], ◌∷◌, length, refl, sym, ap, ◌∙◌, All, Timed}
use Rattle.m51_party.proofs.Common.{BoardState, separate_of, inputs_of, with_extra, separate_machine, Seat, new_seat}
use Rattle.m51_party.proofs.Common.{Family, IsFamily, IsFresh, frames_for, machine_with, record_with, records_from}
use Rattle.m51_party.proofs.Common.{greatest_cycle, last_lines}
use Rattle.std.proofs.Common.{arith, map}
use Rattle.m51_sim.specs.Runs.{record_of}
use Rattle.m51_party.specs.Report.{IsPartyOf, boards_of}
use Rattle.m51_party.specs.Text.{lines_at, lines_before, party_text, steps_of}
use Rattle.m51_party.proofs.One.{only_family}

-- two boards with the same layout, image, script and state
pub record AreAlike (b c : BoardState) : Type 0 where
  pub layout : b.monitor.layout ≡ c.monitor.layout
  pub image : b.chip.image ≡ c.chip.image
  pub script : b.chip.script ≡ c.chip.script
  pub state : separate_of b ≡ separate_of c

-- boards one by one
abbrev pub AllAlike : List BoardState → List BoardState → Type 0
AllAlike [] [] = Unit {0}
AllAlike (b ∷ bs) (c ∷ cs) = AreAlike b c × AllAlike bs cs
AllAlike bs cs = ⊥

record_alike : (n : ℕ) (extra : List Timed) (b c : BoardState) → AreAlike b c
    → record_with n extra b ≡ record_with n extra c
record_alike n extra b c h = λ i. record_of (separate_machine (h.layout i) (h.image i)
    (with_extra extra (inputs_of (h.script i)))) n (h.state i)

steps_alike : (n : ℕ) (extra : List Timed) (b c : BoardState) → AreAlike b c
    → steps_of (machine_with extra b) n (separate_of b) ≡ steps_of (machine_with extra c) n (separate_of c)
steps_alike n extra b c h = λ i. steps_of (separate_machine (h.layout i) (h.image i)
    (with_extra extra (inputs_of (h.script i)))) n (h.state i)

records_alike : (index : ℕ) (bs cs : List BoardState) (n : ℕ) (family : Family) → AllAlike bs cs
    → records_from index bs n family ≡ records_from index cs n family
records_alike index [] [] n family h = refl
records_alike index (b ∷ bs) (c ∷ cs) n family h =
    cc (record_alike n (frames_for index family) b c h.0, records_alike (suc index) bs cs n family h.1)
records_alike index bs cs n family h = absurd h

at_alike : (cycle index : ℕ) (bs cs : List BoardState) (n : ℕ) (family : Family) → AllAlike bs cs
    → lines_at cycle index bs n family ≡ lines_at cycle index cs n family
at_alike cycle index [] [] n family h = refl
at_alike cycle index (b ∷ bs) (c ∷ cs) n family h =
    cc (steps_alike n (frames_for index family) b c h.0, at_alike cycle (suc index) bs cs n family h.1)
at_alike cycle index bs cs n family h = absurd h

before_alike : (cycle : ℕ) (bs cs : List BoardState) (n : ℕ) (family : Family) → AllAlike bs cs
    → lines_before cycle bs n family ≡ lines_before cycle cs n family
before_alike zero bs cs n family h = refl
before_alike (suc cycle) bs cs n family h =
    cc (before_alike cycle bs cs n family h, at_alike cycle 0 bs cs n family h)

last_alike : (index : ℕ) (bs cs : List BoardState) (family : Family) → AllAlike bs cs
    → last_lines index bs family ≡ last_lines index cs family
last_alike index [] [] family h = refl
last_alike index (b ∷ bs) (c ∷ cs) family h = grind (arith, common_steps, last_alike (suc index) bs cs)
last_alike index bs cs family h = grind (arith, common_steps)

count_alike : (bs cs : List BoardState) → AllAlike bs cs → length bs ≡ length cs
count_alike [] [] h = refl
count_alike (b ∷ bs) (c ∷ cs) h = ap suc (count_alike bs cs h.1)
count_alike bs cs h = absurd h

-- the text of a family
pub text_alike : (bs cs : List BoardState) (n : ℕ) (family : Family) → AllAlike bs cs
    → party_text bs n family ≡ party_text cs n family
unfolding party_text
text_alike bs cs n family h =
    rw (count_alike bs cs h, before_alike (greatest_cycle family + 1) bs cs n family h, last_alike 0 bs cs family h)
    refl

-- and there is one family for both
pub family_alike : (bs cs : List BoardState) (n : ℕ) (one other : Family) → AllAlike bs cs → All IsFresh cs
    → IsFamily bs n one → IsFamily cs n other → one ≡ other
family_alike bs cs n one other h fresh is also =
    let only = only_family cs n fresh in
    only.only one (is ∙ records_alike 0 bs cs n one h) ∙ sym (only.only other also)

-- ---- the boards that a party was made of

pub seats_boards : (bs : List BoardState) → boards_of (map new_seat bs) ≡ bs
seats_boards [] = refl
seats_boards (b ∷ bs) = cc (seats_boards bs)

pub made_boards : (boards : List BoardState) (party : List Seat) → IsPartyOf boards party → boards_of party ≡ boards
made_boards boards party h = cc (seats_boards boards)

pub made_party : (boards : List BoardState) (party : List Seat) → IsPartyOf boards party
    → IsPartyOf (boards_of party) party
made_party boards party h = rw (made_boards boards party h) h
