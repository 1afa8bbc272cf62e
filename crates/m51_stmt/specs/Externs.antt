-- The groups of EXTRN: kinds, each with the names in its parentheses (the assembler's rules of EXTRN).
use Rattle.std.specs.Prelude.{ℕ, ◌+◌, ◌-◌, ◌&&◌, Bool, true, false, nat_lt, if◌then◌else◌, List, [], ◌∷◌, ◌++◌}
use Rattle.std.specs.Prelude.{Option, Some, None, option_map, option_and_then}
use Rattle.m51_cells.specs.declared.kind.Kind.{Kind}
use Rattle.m51_expr.specs.declared.symbol.Symbol.{Symbol}
use Rattle.m51_expr.specs.declared.symbol.Symbol.TheVariants as symbol
use Rattle.m51_expr.specs.Words.{is_reserved}
use Rattle.m51_stmt.specs.declared.externs.Awaited.{Awaited}
use Rattle.m51_stmt.specs.declared.externs.Awaited.TheVariants as awaited
use Rattle.m51_stmt.specs.declared.externs.Region.{Region}
use Rattle.m51_stmt.specs.Kinds.{extern_kind_of}
use Rattle.m51_stmt.specs.Words.{is_reserved_word}

-- after a name of a kind, which nothing reserves
abbrev pub after_name : List ℕ → Kind → Option Awaited
after_name name kind = if is_reserved name then None else Some (awaited.Sign kind)

-- What is awaited after a symbol: KIND ( name , name ) , KIND ( name )
abbrev pub next : Awaited → Symbol → Option Awaited
next awaited.Kind (symbol.Word word) = option_map awaited.Open (extern_kind_of word)
next (awaited.Open kind) symbol.Open = Some (awaited.Name kind)
next (awaited.Name kind) (symbol.Name name) = after_name name kind
next (awaited.Sign kind) symbol.Comma = Some (awaited.Name kind)
next (awaited.Sign kind) symbol.Close = Some awaited.End
next awaited.End symbol.Comma = Some awaited.Kind
next here s = None

-- the name with its kind that a symbol adds
abbrev pub names_added : Awaited → Symbol → List (List ℕ × Kind)
names_added (awaited.Name kind) (symbol.Name name) = (name, kind) ∷ []
names_added here s = []

-- the line may end only where no kind, name or sign is awaited
abbrev pub names_at_end : Awaited → Option (List (List ℕ × Kind))
names_at_end awaited.End = Some []
names_at_end here = None

-- the names that the symbols add, where this is awaited
abbrev pub externs_from : Awaited → List Symbol → Option (List (List ℕ × Kind))
externs_from here [] = names_at_end here
externs_from here (s ∷ rest) =
    option_and_then (λ later. option_map (λ more. names_added here s ++ more) (externs_from later rest)) (next here s)

-- the groups of EXTRN
abbrev pub externs : List Symbol → Option (List (List ℕ × Kind))
externs symbols = externs_from awaited.Kind symbols

-- the region inside `depth` open parentheses, where a name is expected or not
abbrev pub region : ℕ → Bool → Region
region depth at_name = record { depth = depth; at_name = at_name }

-- outside parentheses
abbrev pub outside : Region
outside = region 0 false

-- the region after a symbol: a name is expected after an opening parenthesis, and after a comma inside parentheses
abbrev pub region_after : Region → Symbol → Region
region_after r symbol.Open = region (r.depth + 1) true
region_after r symbol.Close = region (r.depth - 1) false
region_after r symbol.Comma = region r.depth (nat_lt 0 r.depth)
region_after r s = region r.depth false

-- a reserved word is where a name is expected: after an opening parenthesis, or after a comma inside parentheses
abbrev pub defines_reserved : Region → List Symbol → Bool
defines_reserved r [] = false
defines_reserved r (s ∷ more) =
    if r.at_name && is_reserved_word s then true else defines_reserved (region_after r s) more
