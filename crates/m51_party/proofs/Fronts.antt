-- What is written, one piece after another, where the last write may have failed.
use Rattle.std.proofs.lemmas.Grind.{common_steps}
use Rattle.m51_party.proofs.Common.{◌≡◌, ℕ, ◌+◌, ◌≤◌, ◌<◌, List, [], ◌∷◌, ◌++◌, length, drop, Option, Some, Result, Ok}
use Rattle.m51_party.proofs.Common.{refl, Err, arith, append-nil, append_assoc, OnErr, Appends, AppendsFront, Entry}
use Rattle.m51_party.proofs.Common.{entry_line, Seat, head_text, front_of, ends_text, front_at_end}
use Rattle.std.proofs.Common.{add-one, get_or}
use Rattle.std.proofs.KnownBytes.{Appends-trans}
use Rattle.std.proofs.lemmas.Fmt.{decimal_digit}
use Rattle.std.proofs.lemmas.List.{drop_more}
use Rattle.m51_cells.proofs.Fronts.{front_more, front_then}
use Rattle.m51_shelf.specs.Writing.{StopsWithin}
use Rattle.m51_sim.proofs.Tellings.{stop_front}
use Rattle.m51_party.specs.Seats.{end_text, entry_text}

-- the same of two calls, of which the second may stop
pub stop_then : {T E : Type 0} (r : Result T E) (a b c : Option (List ℕ)) (xs ys : List ℕ) → Appends a b xs
    → OnErr r (StopsWithin b c ys) → OnErr r (AppendsFront a c (xs ++ ys))
stop_then r a b c xs ys p q = front_then r a b c xs ys p (stop_front r b c ys q)

-- what holds at an error, and what follows from that
pub at_error : {T E : Type 0} (r : Result T E) (P : Type 0) → P → OnErr r P
at_error (Ok x) P p = tt
at_error (Err e) P p = p

pub on_error : {T E P Q : Type 0} (r : Result T E) → (P → Q) → OnErr r P → OnErr r Q
on_error (Ok x) f p = tt
on_error (Err e) f p = f p

-- a number of one digit
pub front_digit : (index : ℕ) → index < 8 → front_of index ≡ (49 + index) ∷ 58 ∷ 32 ∷ []
front_digit index below = grind (arith, common_steps, decimal_digit (index + 1) (omega (arith, below)))

pub head_digit : (count : ℕ) → count ≤ 8 → head_text count ≡ 80 ∷ 65 ∷ 82 ∷ 84 ∷ 89 ∷ 32 ∷ (48 + count) ∷ 10 ∷ []
head_digit count few = cc (decimal_digit count (omega (arith, few)))

-- the line of an entry that exists
pub one_entry : (index : ℕ) (entry : Option Entry) (e : Entry) → entry ≡ Some e
    → entry_text index entry ≡ front_of index ++ entry_line e
one_entry index entry e is = cc (append-nil (front_of index ++ entry_line e))

-- the last lines of the first boards are written
pub record IsEnding (before now : Option (List ℕ)) (index : ℕ) (seats : List Seat) : Type 0 where
  pub lines : List ℕ
  pub written : Appends before now lines
  pub text : ends_text 0 seats ≡ lines ++ ends_text index (drop index seats)

module _ (before now later : Option (List ℕ)) (index : ℕ) (seats : List Seat) (s : Seat) (below : index < length seats)
    (is : s ≡ get_or seats index s) (h : IsEnding before now index seats) where
  ends_more : ends_text index (drop index seats) ≡ end_text index s ++ ends_text (index + 1) (drop (index + 1) seats)
  ends_more = cc (drop_more seats index s below, add-one index)

  pub ending_on : Appends now later (end_text index s) → IsEnding before later (index + 1) seats
  ending_on written = record {
    lines = h.lines ++ end_text index s;
    written = Appends-trans before now later h.lines (end_text index s) h.written written;
    text = rw (h.text, ends_more, append_assoc h.lines) refl;
  }

  pub ending_cut : AppendsFront now later (end_text index s) → AppendsFront before later (ends_text 0 seats)
  ending_cut front = rw (h.text, ends_more) (front_at_end before now later h.lines _ h.written (front_more now later
      (end_text index s) _ front))
