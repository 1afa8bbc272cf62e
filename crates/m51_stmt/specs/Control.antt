-- Control lines (the assembler's rules of controls): $ and a word in either case, blanks, and a comment.
use Rattle.std.specs.Prelude.{ℕ, ◌==◌, ◌&&◌, not, Bool, true, false, if◌then◌else◌, List, [], ◌∷◌, take, drop}
use Rattle.std.specs.Prelude.{codes, Option, Some, None, Result, Ok, Err, option_and_then}
use Rattle.std.specs.Char.{is_ascii_alphanumeric}
use Rattle.std.specs.List.{prefix_len}
use Rattle.std.specs.Str.{bytes_eq}
use Rattle.m51_cells.specs.Blanks.{is_blank}
use Rattle.m51_cells.specs.Name.{name_of}
use Rattle.m51_cells.specs.declared.fault.TheConstants.{BAD_FORM}
use Rattle.m51_lex.specs.Characters.{semicolon}
use Rattle.m51_expr.specs.Words.{is_word_among}
use Rattle.m51_stmt.specs.Statement.{BodyTree, Ignored, Include, Mod51}

-- (
abbrev pub left_parenthesis : ℕ
left_parenthesis = 40

-- )
abbrev pub right_parenthesis : ℕ
right_parenthesis = 41

-- a byte that is allowed between the parentheses of a control: neither ) nor ;
abbrev pub is_inside : ℕ → Bool
is_inside b = not (b == right_parenthesis) && not (b == semicolon)

-- what follows the leading blanks
abbrev pub behind_blanks : List ℕ → List ℕ
behind_blanks rest = drop (prefix_len is_blank rest) rest

-- nothing, or a comment
abbrev pub is_comment : List ℕ → Bool
is_comment [] = true
is_comment (c ∷ rest) = c == semicolon

-- only blanks and a comment
abbrev pub ends : List ℕ → Bool
ends rest = is_comment (behind_blanks rest)

-- what follows this sign, if it is the first byte
abbrev pub behind_sign : ℕ → List ℕ → Option (List ℕ)
behind_sign sign [] = None
behind_sign sign (c ∷ rest) = if c == sign then Some rest else None

-- these bytes, where nothing but blanks and a comment follows
abbrev pub if_ended : List ℕ → List ℕ → Option (List ℕ)
if_ended inner behind = if ends behind then Some inner else None

-- the bytes of this number, if there are some, where ) follows them and ends the line
abbrev pub closed_at : List ℕ → ℕ → Option (List ℕ)
closed_at inner len =
    if len == 0 then None
    else option_and_then (if_ended (take len inner)) (behind_sign right_parenthesis (drop len inner))

-- one or more bytes between parentheses, followed by only blanks and a comment
abbrev pub parenthesized : List ℕ → Option (List ℕ)
parenthesized rest =
    option_and_then (λ inner. closed_at inner (prefix_len is_inside inner))
    (behind_sign left_parenthesis (behind_blanks rest))

-- a control without an operand
abbrev pub alone : List ℕ → BodyTree → Result BodyTree ℕ
alone rest body = if ends rest then Ok body else Err BAD_FORM

-- the file that INCLUDE names
abbrev pub include_of : Option (List ℕ) → Result BodyTree ℕ
include_of (Some name) = Ok (Include name)
include_of None = Err BAD_FORM

-- INCLUDE and what follows it
abbrev pub include : List ℕ → Result BodyTree ℕ
include rest = include_of (parenthesized rest)

-- a text between parentheses, which changes nothing
abbrev pub ignored_if : Option (List ℕ) → Result BodyTree ℕ
ignored_if (Some text) = Ok Ignored
ignored_if None = Err BAD_FORM

-- a title without a text, or with one in parentheses
abbrev pub title : List ℕ → Result BodyTree ℕ
title rest = if ends rest then Ok Ignored else ignored_if (parenthesized rest)

-- a control that changes nothing and has no operand
unfoldable pub is_ignored_word : List ℕ → Bool
is_ignored_word word =
    is_word_among word (codes "LIST" ∷ codes "NOLIST" ∷ codes "DEBUG" ∷ codes "NODEBUG" ∷ codes "EJECT" ∷ [])

-- what the word and what follows it say
unfoldable pub body_by_word : List ℕ → List ℕ → Result BodyTree ℕ
body_by_word word rest =
    if bytes_eq word (codes "INCLUDE") then include rest
    else if bytes_eq word (codes "TITLE") then title rest
    else if bytes_eq word (codes "MOD51") then alone rest (Mod51 true)
    else if bytes_eq word (codes "NOMOD51") then alone rest (Mod51 false)
    else if is_ignored_word word then alone rest Ignored
    else Err BAD_FORM

-- what a control says by its word, if it has one
abbrev pub by_name : Option (List ℕ) → List ℕ → Result BodyTree ℕ
by_name (Some word) rest = body_by_word word rest
by_name None rest = Err BAD_FORM

-- what a control line says, from the bytes after its $
abbrev pub control : List ℕ → Result BodyTree ℕ
control rest = let len = prefix_len is_ascii_alphanumeric rest in by_name (name_of (take len rest)) (drop len rest)
