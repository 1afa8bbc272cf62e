-- Of the code: tables of names, as they are filled item by item, and the one of the names of publics.
use Rattle.std.specs.Prelude.{◌≡◌, ℕ, Bool, true, false, not, ◌&&◌, ◌||◌, List, Option, Some, None}
use Rattle.std.specs.List.{list_any}
use Rattle.std.specs.Str.{bytes_eq}
use Rattle.m51_module.specs.declared.parts.ModuleParts.{ModuleParts}
use Rattle.m51_module.specs.Library.{IsLibrary, defines, has_public}

-- the table has the name
abbrev pub is_in : List (List ℕ) → List ℕ → Bool
is_in names name = list_any (bytes_eq name) names

-- the table has the names of these items too
pub record NotesNames {X : Type 0} (name_of : X → List ℕ) (old : List (List ℕ)) (items : List X) (new : List (List ℕ))
    : Type 0 where
  pub each : (name : List ℕ) → is_in new name ≡ (is_in old name || list_any (λ x. bytes_eq (name_of x) name) items)

-- the names are exactly those of the publics of the modules
pub record AreNamesOf (modules : List ModuleParts) (names : List (List ℕ)) : Type 0 where
  pub each : (name : List ℕ) → is_in names name ≡ defines modules name

-- a table has exactly the names of the publics of the modules, or there is none
abbrev pub AreNames : List ModuleParts → Option (List (List ℕ)) → Type 0
AreNames modules None = Unit {0}
AreNames modules (Some names) = AreNamesOf modules names

-- the table has the names no more of these items
pub record LacksNames {X : Type 0} (name_of : X → List ℕ) (old : List (List ℕ)) (items : List X) (new : List (List ℕ))
    : Type 0 where
  pub each : (name : List ℕ)
      → is_in new name ≡ (is_in old name && not (list_any (λ x. bytes_eq (name_of x) name) items))

-- the publics of the modules are those of the others and of this one, which has none of theirs
pub record IsBeside (modules others : List ModuleParts) (m : ModuleParts) : Type 0 where
  pub each : (name : List ℕ) → defines modules name ≡ (defines others name || has_public name m)
  pub apart : (name : List ℕ) → has_public name m ≡ true → defines others name ≡ false

-- the modules of a library, and the table of their names if it is kept
pub record AreMembers (modules : List ModuleParts) (names : Option (List (List ℕ))) : Type 0 where
  pub library : IsLibrary modules
  pub named : AreNames modules names
