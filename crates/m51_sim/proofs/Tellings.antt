-- The lines of what a step reports, one entry after the other.
use Rattle.m51_sim.proofs.Common.{◌≡◌, ℕ, ◌+◌, List, ◌++◌, length, take, Option, Result, Ok, Err, arith, length-append}
use Rattle.m51_sim.proofs.Common.{Entries, entries_of}
use Rattle.std.proofs.Math.Seq.{take-append-add}
use Rattle.std.proofs.lemmas.List.{take-append-le}
use Rattle.std.proofs.lemmas.Grind.{flat_map-append}
use Rattle.std.specs.Prelude.{OnErr, flat_map, option_to_list}
use Rattle.std.specs.Io.KnownBytes.{Appends}
use Rattle.std.proofs.KnownBytes.{Appends-trans}
use Rattle.m51_cells.specs.Outside.{AppendsFront}
use Rattle.m51_print.specs.Lines.{entry_line}
use Rattle.m51_shelf.specs.Writing.{StopsWithin}

-- bytes that lack their last one are a prefix
pub front_of_stop : (a b : Option (List ℕ)) (xs : List ℕ) → StopsWithin a b xs → AppendsFront a b xs
front_of_stop a b xs q = (q.0, omega (arith, q.1), q.2)

-- the same of what a call answers
pub stop_front : {T E : Type 0} (r : Result T E) (a b : Option (List ℕ)) (xs : List ℕ) → OnErr r (StopsWithin a b xs)
    → OnErr r (AppendsFront a b xs)
stop_front (Ok x) a b xs q = tt
stop_front (Err e) a b xs q = front_of_stop a b xs q

two_lines : (told : Entries) → flat_map entry_line (entries_of told) ≡ flat_map entry_line (option_to_list told.port)
    ++ flat_map entry_line (option_to_list told.sent)
two_lines told = flat_map-append entry_line (option_to_list told.port) (option_to_list told.sent)

-- both lines are written
pub both_written : (a b c : Option (List ℕ)) (told : Entries)
    → Appends a b (flat_map entry_line (option_to_list told.port))
    → Appends b c (flat_map entry_line (option_to_list told.sent))
    → Appends a c (flat_map entry_line (entries_of told))
both_written a b c told p q = rw (two_lines told) (Appends-trans a b c _ _ p q)

-- what is cut is a part of more, and may follow what is whole
abbrev pub cut_before : (a b : Option (List ℕ)) (xs ys : List ℕ) → StopsWithin a b xs → StopsWithin a b (xs ++ ys)
cut_before a b xs ys q =
    (q.0, omega (arith, length-append xs ys, q.1), rw (take-append-le q.0 xs ys (omega (arith, q.1))) q.2)

abbrev pub cut_after : (a b c : Option (List ℕ)) (xs ys : List ℕ) → Appends a b xs → StopsWithin b c ys
    → StopsWithin a c (xs ++ ys)
cut_after a b c xs ys p q = (
  length xs + q.0,
  omega (arith, length-append xs ys, q.1),
  rw (take-append-add xs ys q.0) (Appends-trans a b c xs (take q.0 ys) p q.2),
)

pub first_cut : (a b : Option (List ℕ)) (told : Entries)
    → StopsWithin a b (flat_map entry_line (option_to_list told.port))
    → StopsWithin a b (flat_map entry_line (entries_of told))
first_cut a b told q = rw (two_lines told) (cut_before a b _ _ q)

-- the same of what a call answers
pub cut_on : {T E : Type 0} (r : Result T E) (a b c : Option (List ℕ)) (told : Entries)
    → Appends a b (flat_map entry_line (option_to_list told.port))
    → OnErr r (StopsWithin b c (flat_map entry_line (option_to_list told.sent)))
    → OnErr r (StopsWithin a c (flat_map entry_line (entries_of told)))
cut_on (Ok x) a b c told p q = tt
cut_on (Err e) a b c told p q = rw (two_lines told) (cut_after a b c _ _ p q)

pub ruleset tellings = (both_written, cut_on, first_cut)
