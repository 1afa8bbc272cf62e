-- Of the code: the next member that is chosen, by the table of the names that members define.
use Rattle.std.specs.Prelude.{◌≡◌, ◌⊎◌, ℕ, ◌<◌, ◌≤◌, min, nat_lt, true, false, if◌then◌else◌, List, length, Option}
use Rattle.std.specs.Prelude.{Some, None, option_map, slice_index_or}
use Rattle.std.specs.List.{list_any}
use Rattle.m51_cells.specs.declared.limits.TheConstants.{MOST_MODULES}
use Rattle.m51_module.specs.declared.parts.ModuleParts.{ModuleParts}
use Rattle.m51_module.specs.Library.{defines}
use Rattle.m51_resolve.specs.declared.publics.Definition.{Definition}
use Rattle.m51_resolve.specs.Choice.{is_needed, wants}

abbrev pub defining_module : Option Definition → Option ℕ
defining_module definition = option_map (λ d. d.number) definition

-- the member that has the name first, by the definitions of members, where none of the chosen modules defines it
abbrev pub supplier : List ModuleParts → (List ℕ → Option Definition) → List ℕ → Option ℕ
supplier chosen definition name = if defines chosen name then None else defining_module (definition name)

-- the lesser of two numbers, if there is one
abbrev pub lesser_number : Option ℕ → Option ℕ → Option ℕ
lesser_number None two = two
lesser_number (Some one) None = Some one
lesser_number (Some one) (Some two) = Some (min one two)

-- one of the modules has an external of the name
pub record IsWanted (chosen : List ModuleParts) (name : List ℕ) : Type 0 where
  pub wanted : list_any (wants name) chosen ≡ true

-- the least that names of a set give
pub record IsEarliestAt (gives : List ℕ → Option ℕ) (Named : List ℕ → Type 0) (least : ℕ) : Type 0 where
  pub name : List ℕ
  pub named : Named name
  pub is : gives name ≡ Some least
  pub first : (other : List ℕ) (n : ℕ) → Named other → gives other ≡ Some n → least ≤ n

abbrev pub IsEarliest : (List ℕ → Option ℕ) → (List ℕ → Type 0) → Option ℕ → Type 0
IsEarliest gives Named None = (name : List ℕ) → Named name → gives name ≡ None
IsEarliest gives Named (Some least) = IsEarliestAt gives Named least

-- the member with that index is the first that is needed, and not more modules are chosen than a link takes
pub record IsNextAt (chosen members : List ModuleParts) (index : ℕ) : Type 0 where
  pub few : nat_lt MOST_MODULES (length chosen) ≡ false
  pub inside : index < length members
  pub needed : (d : ModuleParts) → is_needed chosen (slice_index_or members index d) ≡ true
  pub before : (k : ℕ) (d : ModuleParts) → k < index → is_needed chosen (slice_index_or members k d) ≡ false

-- none is needed, or more modules are chosen than a link takes
abbrev pub IsNext : List ModuleParts → List ModuleParts → Option ℕ → Type 0
IsNext chosen members None =
    (nat_lt MOST_MODULES (length chosen) ≡ true)
    ⊎ ((k : ℕ) (d : ModuleParts) → k < length members → is_needed chosen (slice_index_or members k d) ≡ false)
IsNext chosen members (Some index) = IsNextAt chosen members index
