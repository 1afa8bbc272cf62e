-- How many bytes a line gives that has no fault.
use Rattle.std.specs.Prelude.{ℕ, ◌+◌, List, [], ◌∷◌, length}
use Rattle.m51_expr.specs.Operand.{ItemTree, Value, Text}

-- how many bytes an item of DB gives
abbrev pub item_size : ItemTree → ℕ
item_size (Value e) = 1
item_size (Text characters) = length characters

abbrev pub items_size : List ItemTree → ℕ
items_size [] = 0
items_size (item ∷ items) = item_size item + items_size items

-- no item is a text
abbrev pub AreValues : List ItemTree → Type 0
AreValues [] = Unit {0}
AreValues (Value e ∷ items) = AreValues items
AreValues (Text characters ∷ items) = ⊥
