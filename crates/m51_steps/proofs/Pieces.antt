-- Texts that are written one after another, of which the last may be cut.
use Rattle.std.proofs.Common.{◌≡◌, ℕ, List, ◌++◌, Option, Result, Ok, Err}
use Rattle.std.specs.Prelude.{OnErr, OnOk, flat_map, option_to_list}
use Rattle.std.specs.Io.KnownBytes.{Appends}
use Rattle.std.proofs.KnownBytes.{Appends-trans}
use Rattle.std.proofs.lemmas.Grind.{flat_map-append}
use Rattle.m51_cells.specs.Outside.{AppendsFront}
use Rattle.m51_cells.specs.declared.event.Entry.{Entry}
use Rattle.m51_cells.proofs.Fronts.{front_more, front_then}
use Rattle.m51_print.specs.Lines.{entry_line}
use Rattle.m51_sim.proofs.Tellings.{stop_front}
use Rattle.m51_steps.specs.Noted.{told_lines}

-- both are written
pub whole_on : {T E : Type 0} (r : Result T E) (a b c : Option (List ℕ)) (xs ys : List ℕ) → Appends a b xs
    → OnOk r (Appends b c ys) → OnOk r (Appends a c (xs ++ ys))
whole_on (Ok x) a b c xs ys p q = Appends-trans a b c xs ys p q
whole_on (Err e) a b c xs ys p q = tt

-- the same of what a call passes on
pub cut_any : {T E : Type 0} (r : Result T E) (a b : Option (List ℕ)) (xs ys : List ℕ) → AppendsFront a b xs
    → OnErr r (AppendsFront a b (xs ++ ys))
cut_any (Ok x) a b xs ys q = tt
cut_any (Err e) a b xs ys q = front_more a b xs ys q

pub ruleset pieces = (front_then, front_more, stop_front, whole_on)

two_lines : (port sent : Option Entry) → told_lines port sent ≡ flat_map entry_line (option_to_list port)
    ++ flat_map entry_line (option_to_list sent)
two_lines port sent = flat_map-append entry_line (option_to_list port) (option_to_list sent)

-- the lines of a step: both are written
pub lines_written : {T E : Type 0} (r : Result T E) (a b c : Option (List ℕ)) (port sent : Option Entry)
    → Appends a b (flat_map entry_line (option_to_list port))
    → OnOk r (Appends b c (flat_map entry_line (option_to_list sent)))
    → OnOk r (Appends a c (told_lines port sent))
lines_written r a b c port sent p q = rw (two_lines port sent) (whole_on r a b c _ _ p q)

-- the first is cut
pub line_cut : (a b : Option (List ℕ)) (port sent : Option Entry)
    → AppendsFront a b (flat_map entry_line (option_to_list port))
    → AppendsFront a b (told_lines port sent)
line_cut a b port sent q = rw (two_lines port sent) (front_more a b _ _ q)

-- the first is whole, and the second may be cut
pub lines_cut : {T E : Type 0} (r : Result T E) (a b c : Option (List ℕ)) (port sent : Option Entry)
    → Appends a b (flat_map entry_line (option_to_list port))
    → OnErr r (AppendsFront b c (flat_map entry_line (option_to_list sent)))
    → OnErr r (AppendsFront a c (told_lines port sent))
lines_cut r a b c port sent p q = rw (two_lines port sent) (front_then r a b c _ _ p q)

pub ruleset lines = (line_cut, lines_cut, lines_written)
