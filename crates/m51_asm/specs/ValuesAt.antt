-- What the names of a text mean at a line, as pass 2 keeps it: what the text gives to all names but those of SET,
-- and what the SET statements above the line gave.
use Rattle.std.specs.Prelude.{◌≡◌, ℕ, Bool, false, if◌then◌else◌, List, length, Option, Some, None, option_map}
use Rattle.std.specs.Str.{bytes_eq}
use Rattle.m51_expr.specs.declared.value.Value.{Value}
use Rattle.m51_stmt.specs.Statement.{BodyTree, Set}
use Rattle.m51_text.specs.Answer.{LineTree}
use Rattle.m51_predefined.specs.Predefined.{absolute_register_of}
use Rattle.m51_asm.specs.declared.names.FirstDefinition.{FirstDefinition}
use Rattle.m51_expr.specs.declared.located.Located.{Located}
use Rattle.m51_asm.specs.Assignment.{Assignment}
use Rattle.m51_asm.specs.Fitting.{mod51, bank_before, last_set, register_or_predefined}
use Rattle.m51_expr.specs.Located.{located_value}
use Rattle.m51_asm.specs.Table.{Table, first_in, first_definition, sets}
use Rattle.m51_asm.specs.ValuesAbove.{value_above}
use Rattle.m51_asm.specs.Values.{Valuation, value_in}
use Rattle.m51_asm.specs.Definitions.{definition_of}

-- the value of a name of this first definition
abbrev pub value_by_first : Option Value → Option Value → Option Value → Option FirstDefinition → Option Value
value_by_first undefined set kept None = undefined
value_by_first undefined set kept (Some first) = if sets first.how then set else kept

-- the value of a name, by a table of names, what is kept of the text and of its SET statements, and the bank
abbrev pub value_at : Table → Valuation → Valuation → Bool → ℕ → List ℕ → Option Value
value_at table kept set mod51 bank name =
    value_by_first (register_or_predefined mod51 bank name (absolute_register_of name))
    (option_map located_value (value_in set name)) (option_map located_value (value_in kept name)) (first_in table name)

-- these are the values that all lines give
abbrev pub IsKeptOfAll : List LineTree → Assignment → Valuation → Type 0
IsKeptOfAll lines a kept =
    (name : List ℕ) → option_map located_value (value_in kept name) ≡ value_above lines a (length lines) name

-- these are the values that the SET statements above line k gave
abbrev pub IsSetAt : List LineTree → Assignment → ℕ → Valuation → Type 0
IsSetAt lines a k set = (name : List ℕ) → option_map located_value (value_in set name) ≡ last_set lines a name k

-- the label of the line is this name
abbrev pub is_label : Option (List ℕ) → List ℕ → Bool
is_label (Some label) name = bytes_eq name label
is_label None name = false

-- the name that a line defines by SET; its label, which is no such name, is passed over
abbrev pub set_in : Option (List ℕ) → BodyTree → Option (List ℕ)
set_in label (Set name e) = if is_label label name then None else Some name
set_in label body = None

-- the value of a name where one of this name may be put in
abbrev pub if_put : Option (List ℕ) → Option (Located ℕ) → List ℕ → Option (Located ℕ) → Option (Located ℕ)
if_put None value name kept = kept
if_put (Some other) value name kept = if bytes_eq name other then value else kept

-- the one of this name, if there is one, has this value now, and each other the one that it had
abbrev pub PutsIf : Valuation → Valuation → Option (List ℕ) → Option (Located ℕ) → Type 0
PutsIf old new put value = (name : List ℕ) → value_in new name ≡ if_put put value name (value_in old name)

-- what is kept of the whole text and of the lines above line k
pub record IsKnownAt (lines : List LineTree) (a : Assignment) (k : ℕ) (table : Table) (kept set : Valuation)
    (predefines : Bool) (bank : ℕ) : Type 0 where
  pub names : (name : List ℕ) → first_in table name ≡ option_map first_definition (definition_of lines name)
  pub values : IsKeptOfAll lines a kept
  pub sets : IsSetAt lines a k set
  pub predefined : predefines ≡ mod51 lines
  pub selected : bank ≡ bank_before lines a k
