-- Lists with commas between their parts, and the items of DB and DW (the assembler's rules of lists).
use Rattle.std.specs.Prelude.{ℕ, ◌==◌, Bool, true, false, if◌then◌else◌, List, [], ◌∷◌, ◌++◌, length, map, Option}
use Rattle.std.specs.Prelude.{Some, None, option_map, option_and_then}
use Rattle.m51_expr.specs.declared.symbol.Symbol.{Symbol}
use Rattle.m51_expr.specs.declared.symbol.Symbol.TheVariants as symbol
use Rattle.m51_expr.specs.Tree.{Tree}
use Rattle.m51_expr.specs.Reading.{ParsedTree, expression_in}
use Rattle.m51_expr.specs.declared.operand.Item.{Item}
use Rattle.m51_stmt.specs.Statement.{ItemTree, Value, Text, item_tree}
use Rattle.m51_stmt.specs.Words.{is_comma}

-- a symbol before the first part and the others
abbrev pub with_symbol : Symbol → List Symbol × List (List Symbol) → List Symbol × List (List Symbol)
with_symbol s parts = if is_comma s then ([], parts.0 ∷ parts.1) else (s ∷ parts.0, parts.1)

-- the symbols before the first comma, and the parts after it, with a comma between any two
abbrev pub parts : List Symbol → List Symbol × List (List Symbol)
parts [] = ([], [])
parts (s ∷ rest) = with_symbol s (parts rest)

-- all the parts
abbrev pub all_parts : List Symbol → List (List Symbol)
all_parts symbols = (parts symbols).0 ∷ (parts symbols).1

-- what each part is, where each of them is something
abbrev pub each_of : {A : Type 0} → (List Symbol → Option A) → List (List Symbol) → Option (List A)
each_of item [] = Some []
each_of item (part ∷ more) = option_and_then (λ a. option_map (λ others. a ∷ others) (each_of item more)) (item part)

-- the list that the symbols write: one part or more, with commas between them
abbrev pub list_of : {A : Type 0} → (List Symbol → Option A) → List Symbol → Option (List A)
list_of item symbols = each_of item (all_parts symbols)

-- the parts after the first, where they begin with their comma
abbrev pub later_parts : List Symbol → List (List Symbol)
later_parts [] = []
later_parts (s ∷ rest) = all_parts rest

-- a list after what is read of it before
abbrev pub list_after : {A : Type 0} → List A → Option (List A) → Option (List A)
list_after done more = option_map (λ others. done ++ others) more

-- only a name
abbrev pub name_alone : List Symbol → Option (List ℕ)
name_alone (symbol.Name name ∷ []) = Some name
name_alone other = None

-- the tree that is read, if it has `all` symbols
abbrev pub all_read : ℕ → ParsedTree → Option Tree
all_read all None = None
all_read all (Some (e, many)) = if many == all then Some e else None

-- the expression that the symbols are, all of them
abbrev pub expression : List Symbol → Option Tree
expression symbols = all_read (length symbols) (expression_in symbols)

-- an item of DB or DW by its value
abbrev pub value : List Symbol → Option ItemTree
value symbols = option_map Value (expression symbols)

-- an item of DB: only a text, or a value
abbrev pub item : List Symbol → Option ItemTree
item (symbol.Text characters ∷ []) = Some (Text characters)
item symbols = value symbols

-- an item of DB, or of DW, which has no texts
abbrev pub item_of : Bool → List Symbol → Option ItemTree
item_of true symbols = item symbols
item_of false symbols = value symbols

-- items as trees
abbrev pub item_trees : List Item → List ItemTree
item_trees items = map item_tree items
