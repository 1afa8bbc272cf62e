-- Which modules are chosen: the given ones, and the members of libraries that they need.
use Rattle.std.specs.Prelude.{◌≡◌, ℕ, zero, suc, Bool, true, false, not, ◌&&◌, if◌then◌else◌, List, [], ◌∷◌, ◌++◌}
use Rattle.std.specs.Prelude.{length, flat_map, Option, Some, None, option_map}
use Rattle.std.specs.List.{All, list_any}
use Rattle.std.specs.Option.{option_map_or}
use Rattle.std.specs.Str.{bytes_eq}
use Rattle.m51_module.specs.declared.parts.ModuleParts.{ModuleParts}
use Rattle.m51_module.specs.Library.{defines}

-- the module has an external of that name
abbrev pub wants : List ℕ → ModuleParts → Bool
wants name m = list_any (λ e. bytes_eq e.name name) m.externals

-- one of the chosen modules has an external of the name, and none defines it
abbrev pub is_missing : List ModuleParts → List ℕ → Bool
is_missing chosen name = list_any (wants name) chosen && not (defines chosen name)

-- the member has a public of a name that is missing
abbrev pub is_needed : List ModuleParts → ModuleParts → Bool
is_needed chosen member = list_any (λ p. is_missing chosen p.name) member.publics

-- the first of these that is needed, and the others in their order
abbrev pub first_needed : List ModuleParts → List ModuleParts → Option (ModuleParts × List ModuleParts)
first_needed chosen [] = None
first_needed chosen (m ∷ more) =
    if is_needed chosen m then Some (m, more)
    else option_map (λ found. (found.0, m ∷ found.1)) (first_needed chosen more)

-- In each turn the first of the members left that is needed is chosen; it ends where none is.
abbrev pub choice : ℕ → List ModuleParts → List ModuleParts → List ModuleParts
choice zero left chosen = chosen
choice (suc turns) left chosen =
    option_map_or (λ next. choice turns next.1 (chosen ++ next.0 ∷ [])) (first_needed chosen left) chosen

-- The given modules and those chosen of the members. As many turns as there are members are enough: each takes one.
abbrev pub chosen_of : List ModuleParts → List ModuleParts → List ModuleParts
chosen_of given members = choice (length members) members given

-- the members of libraries, in order of library and member
abbrev pub members_of : List (List ModuleParts) → List ModuleParts
members_of libraries = flat_map (λ members. members) libraries

-- The same as a relation: members are chosen, each the first of those left that is needed, until none is.
pub data Chooses : List ModuleParts → List ModuleParts → List ModuleParts → Type 0 where
  Ends : {left chosen : List ModuleParts} → All (λ m. is_needed chosen m ≡ false) left → Chooses left chosen chosen
  Takes : {left chosen all : List ModuleParts} → (front back : List ModuleParts) (m : ModuleParts)
      → left ≡ front ++ m ∷ back → All (λ m. is_needed chosen m ≡ false) front → is_needed chosen m ≡ true
      → Chooses (front ++ back) (chosen ++ m ∷ []) all → Chooses left chosen all

-- what the relation gives is what is chosen, and nothing else
pub record IsOneChoice (given members : List ModuleParts) : Type 0 where
  pub outcome : Chooses members given (chosen_of given members)
  pub only : (all : List ModuleParts) → Chooses members given all → all ≡ chosen_of given members

abbrev pub ChoicesAreOne : Type 0
ChoicesAreOne = (given members : List ModuleParts) → IsOneChoice given members
