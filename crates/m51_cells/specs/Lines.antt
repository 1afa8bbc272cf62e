-- The first line of a text. A line ends in a line feed, or in a carriage return and a line feed; the last may lack its
-- end.
use Rattle.std.specs.Prelude.{ℕ, Bool, ◌==◌, nat_lt, if◌then◌else◌, List, [], length, Option, Some, None}
use Rattle.std.specs.List.{position_or_len, before_first, after_first}
use Rattle.std.specs.Str.Lines.{strip_carriage_return}

-- the byte that ends a line
abbrev pub is_line_feed : ℕ → Bool
is_line_feed byte = byte == 10

-- the first line, without its end, and what follows that end; an empty text has none
abbrev pub first_line : List ℕ → Option (List ℕ × List ℕ)
first_line text =
    if length text == 0 then None
    else if nat_lt (position_or_len is_line_feed text) (length text)
    then Some (strip_carriage_return (before_first is_line_feed text), after_first is_line_feed text)
    else Some (text, [])
