-- Fault 6 of a line with a syntax error: an expression or an operand is required and missing.
use Rattle.std.specs.Prelude.{ℕ, ◌+◌, ◌-◌, ◌==◌, ◌||◌, ◌&&◌, not, Bool, true, false, if◌then◌else◌}
use Rattle.std.specs.Prelude.{List, [], ◌∷◌, codes, Option, Some, None, is_some, option_map, slice_get}
use Rattle.std.specs.Str.{bytes_eq}
use Rattle.m51_expr.specs.declared.symbol.Symbol.{Symbol}
use Rattle.m51_expr.specs.declared.symbol.Symbol.TheVariants as symbol
use Rattle.m51_expr.specs.declared.tree.Unary.TheVariants as unary
use Rattle.m51_expr.specs.Ranks.{is_open, is_close, leaf_of}
use Rattle.m51_expr.specs.Reading.{ParsedTree, expression_in}
use Rattle.m51_stmt.specs.declared.lack.Want.{Want}
use Rattle.m51_stmt.specs.declared.lack.Want.TheVariants as want
use Rattle.m51_stmt.specs.declared.lack.Prefix.{Prefix}
use Rattle.m51_stmt.specs.declared.lack.Prefix.TheVariants as prefix
use Rattle.m51_stmt.specs.Words.{begins_expression, begins_operand, is_text, is_operator, first_is}

-- a value as it is
abbrev pub as_given : {A : Type 0} → A → A
as_given a = a

-- what is required begins with this symbol
abbrev pub begins : Want → Symbol → Bool
begins want.Operand s = begins_operand s
begins want.Expression s = begins_expression s
begins want.Item s = begins_expression s || is_text s
begins want.First s = not (is_text s)
begins want.Nothing s = true
begins want.Names s = true

-- the symbols begin with what is required
abbrev pub is_want_met : Want → List Symbol → Bool
is_want_met want.First [] = true
is_want_met want.Nothing [] = true
is_want_met want.Names [] = true
is_want_met w [] = false
is_want_met w (s ∷ rest) = begins w s

-- how many symbols an expression has
abbrev pub many : ParsedTree → Option ℕ
many None = None
many (Some r) = Some r.1

-- the + of @A+ is no operator
abbrev pub after_at : List Symbol → ℕ
after_at (symbol.Word word ∷ symbol.Plus ∷ rest) = if bytes_eq word (codes "A") then 2 else 0
after_at other = 0

-- these symbols close a parenthesis that is open before them, with `depth` more open inside it
abbrev pub is_closed : List Symbol → ℕ → Bool
is_closed [] depth = false
is_closed (s ∷ more) depth =
    if is_open (Some s) then is_closed more (depth + 1)
    else if is_close (Some s) then (if depth == 0 then true else is_closed more (depth - 1))
    else is_closed more depth

-- an operator before an operand: NOT, a tighter one, or none
abbrev pub prefix_of : Symbol → Prefix
prefix_of symbol.Plus = prefix.Tight
prefix_of symbol.Minus = prefix.Tight
prefix_of (symbol.Prefix unary.Not) = prefix.Not
prefix_of (symbol.Prefix op) = prefix.Tight
prefix_of s = prefix.Nothing

-- what follows an operator: NOT follows no tighter one
abbrev pub after_prefix : Prefix → (Prefix → Option (List Symbol)) → List Symbol → Prefix → Option (List Symbol)
after_prefix prefix.Tight go here prefix.Not = None
after_prefix before go here prefix.Not = go prefix.Not
after_prefix before go here prefix.Tight = go prefix.Tight
after_prefix before go here prefix.Nothing = Some here

-- the symbols from an operand on: the operators before it are passed over
abbrev pub operand_in : Prefix → List Symbol → Option (List Symbol)
operand_in before [] = None
operand_in before (s ∷ more) = after_prefix before (λ next. operand_in next more) (s ∷ more) (prefix_of s)

-- an expression is read, and a closing parenthesis follows it
abbrev pub closes : List Symbol → ParsedTree → Bool
closes symbols (Some r) = is_close (slice_get symbols r.1)
closes symbols None = false

-- a whole operand begins the symbols: a number, a name, the place of the statement, or an expression in parentheses
abbrev pub operand_begins : List Symbol → Bool
operand_begins [] = false
operand_begins (s ∷ rest) = if is_open (Some s) then closes rest (expression_in rest) else is_some (leaf_of (Some s))

-- the symbols exist, and a whole operand begins them
abbrev pub begins_if : Option (List Symbol) → Bool
begins_if (Some symbols) = operand_begins symbols
begins_if None = false

-- the symbols after an opening parenthesis begin with a whole operand, operators before it passed over, and close the
-- parenthesis further on
abbrev pub is_parenthesis : List Symbol → Bool
is_parenthesis symbols = begins_if (operand_in prefix.Nothing symbols) && is_closed symbols 0

-- no further symbol is passed over if this holds, or else something is missing
abbrev pub none_if : Bool → Option ℕ
none_if true = Some 0
none_if false = None

-- an expression has to begin with the symbol; in a line without expressions a parenthesis begins a list instead
abbrev pub is_start : Want → Symbol → Bool
is_start want.Names symbol.Open = false
is_start w s = begins_expression s

-- How many symbols after one belong to it, if no expression has to begin with it; `None` if something is missing. The
-- parenthesis of a list begins with a whole operand and is closed. An expression follows # and an operator, no operator
-- follows a text, and what is required follows a comma.
abbrev pub passed_behind : Want → Symbol → List Symbol → Option ℕ
passed_behind w symbol.Open rest = none_if (is_parenthesis rest)
passed_behind w symbol.Hash rest = many (expression_in rest)
passed_behind w (symbol.Infix op) rest = many (expression_in rest)
passed_behind w (symbol.Text characters) rest = none_if (not (first_is is_operator rest))
passed_behind w symbol.Comma rest = none_if (is_want_met w rest)
passed_behind w symbol.At rest = Some (after_at rest)
passed_behind w s rest = Some 0

-- how many symbols after the first belong to what it begins, or `None` if something required is missing
unfoldable pub passed : Want → Symbol → List Symbol → Option ℕ
passed w s rest =
    if is_start w s then option_map (λ n. n - 1) (many (expression_in (s ∷ rest))) else passed_behind w s rest

-- true if something is missing, or else what `go` gives for the number of symbols to pass over
abbrev pub or_lacks : Option ℕ → (ℕ → Bool) → Bool
or_lacks None go = true
or_lacks (Some n) go = go n

-- Something required is missing among the symbols. The first `n` are passed over: they belong to what is before them.
abbrev pub lacks_after : ℕ → Want → List Symbol → Bool
lacks_after n w [] = false
lacks_after n w (s ∷ rest) =
    if n == 0 then or_lacks (passed w s rest) (λ more. lacks_after more w rest) else lacks_after (n - 1) w rest

-- the symbols do not begin with what is required first, or something required further on is missing
abbrev pub lacks : Want → Want → List Symbol → Bool
lacks first w symbols = if is_want_met first symbols then lacks_after 0 w symbols else true
