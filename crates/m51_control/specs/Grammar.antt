-- The grammar of control lines.
use Rattle.std.specs.Prelude.{ℕ, nat_lt, if◌then◌else◌, List, length, codes, Option}
use Rattle.std.specs.Prelude.{Some, None}
use Rattle.std.specs.List.{list_any}
use Rattle.std.specs.Str.{bytes_eq}
use Rattle.m51_cells.specs.Name.{name_of}
use Rattle.m51_control.specs.declared.control.Control.{Control}
use Rattle.m51_control.specs.declared.control.Control.TheVariants.{Add, Cut, NoOverlay, Order}
use Rattle.m51_control.specs.declared.control.Class.{Class}
use Rattle.m51_control.specs.declared.control.Class.TheVariants as class
use Rattle.m51_control.specs.declared.naming.Role.TheVariants as role
use Rattle.m51_cells.specs.declared.limits.TheConstants.{MOST_LINE_BYTES}
use Rattle.m51_control.specs.Parts.{◌>>=◌, open_parenthesis, close_parenthesis, comma, greater, tilde, is_sign, cut_at}
use Rattle.m51_control.specs.Parts.{before_last, before_blanks, word_in}
use Rattle.m51_control.specs.Naming.{trimmed_name, names_in}
use Rattle.m51_control.specs.Reserve.{reserve}

-- u > v, w: calls from one unit to others are added
abbrev pub add : List ℕ → Option Control
add inside = do
  cut ← cut_at greater inside
  from ← trimmed_name role.Unit cut.0
  to ← names_in role.Unit cut.1
  Some (Add from to)

-- u ~ v, w: calls from one unit to others are cut
abbrev pub cut : List ℕ → Option Control
cut inside = do
  cut ← cut_at tilde inside
  from ← trimmed_name role.Unit cut.0
  to ← names_in role.Unit cut.1
  Some (Cut from to)

-- OVERLAY(u > v, w) or OVERLAY(u ~ v, w)
abbrev pub overlay : List ℕ → Option Control
overlay inside = if list_any (is_sign greater) inside then add inside else cut inside

-- NOOVERLAY(u)
abbrev pub no_overlay : List ℕ → Option Control
no_overlay inside = trimmed_name role.Unit inside >>= (λ unit. Some (NoOverlay unit))

-- the class that a word names
unfoldable pub class_named : List ℕ → Option Class
class_named word =
    if bytes_eq word (codes "BITADDRESSABLE") then Some class.Bitaddressable
    else if bytes_eq word (codes "BIT") then Some class.Bits
    else if bytes_eq word (codes "DATA") then Some class.Direct
    else if bytes_eq word (codes "IDATA") then Some class.Idata
    else if bytes_eq word (codes "XDATA") then Some class.Xdata
    else if bytes_eq word (codes "CODE") then Some class.Code
    else None

-- the class of an order, and the text after its comma
abbrev pub ordered_of : List ℕ → Option (Class × List ℕ)
ordered_of inside = do
  cut ← cut_at comma inside
  word ← word_in cut.0
  class ← class_named word
  Some (class, cut.1)

-- ORDER(class, s, t)
abbrev pub order : List ℕ → Option Control
order inside = do
  ordered ← ordered_of inside
  segments ← names_in role.Segment ordered.1
  Some (Order ordered.0 segments)

-- the control of a word and of the text in its parentheses
unfoldable pub by_word : List ℕ → List ℕ → Option Control
by_word word inside =
    if bytes_eq word (codes "OVERLAY") then overlay inside
    else if bytes_eq word (codes "NOOVERLAY") then no_overlay inside
    else if bytes_eq word (codes "RESERVE") then reserve inside
    else if bytes_eq word (codes "ORDER") then order inside
    else None

-- A word, from the first byte on, and the text in its parentheses; the closing one is the last byte. Since
-- words, names and numbers hold only letters, digits, ? and _, no other byte than a tab and 20H to 7EH is in a form.
abbrev pub call_of : List ℕ → Option (List ℕ × List ℕ)
call_of line = do
  cut ← cut_at open_parenthesis line
  part ← before_blanks cut.0
  word ← name_of part
  inside ← before_last close_parenthesis cut.1
  Some (word, inside)

-- the control of a line, which has at most 255 bytes
abbrev pub control_of : List ℕ → Option Control
control_of line =
    if nat_lt MOST_LINE_BYTES (length line) then None else call_of line >>= (λ call. by_word call.0 call.1)
