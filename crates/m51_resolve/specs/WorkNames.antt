-- Of the code: the tables of names that modules define and need, as they are filled module by module.
use Rattle.std.specs.Prelude.{◌≡◌, ℕ, ◌+◌, ◌==◌, Bool, true, false, not, ◌||◌, is_none, if◌then◌else◌, List, [], ◌∷◌}
use Rattle.std.specs.Prelude.{Option}
use Rattle.std.specs.Prelude.{Some, None, option_map, unwrap_or}
use Rattle.std.specs.List.{list_any}
use Rattle.std.specs.Map.{lookup}
use Rattle.std.specs.Str.{bytes_eq}
use Rattle.m51_module.specs.declared.parts.ModuleParts.{ModuleParts}
use Rattle.m51_module.specs.declared.symbol.External.{External}
use Rattle.m51_module.specs.declared.symbol.Public.{Public}
use Rattle.m51_module.specs.Library.{defines, has_public}
pub use Rattle.m51_module.specs.WorkNames.{is_in as wanted_in}
use Rattle.m51_module.specs.WorkNames.{NotesNames}
use Rattle.m51_resolve.specs.declared.definitions.Defined.{Defined}
use Rattle.m51_resolve.specs.declared.publics.Definition.{Definition}
use Rattle.m51_resolve.specs.Choice.{wants}
use Rattle.m51_resolve.specs.Publics.{public_definition, nowhere}
use Rattle.m51_resolve.specs.Rules.{is_against}

-- what a table has of a name
abbrev pub entry_by_name : {T : Type 0} → List (List ℕ × T) → List ℕ → Option T
entry_by_name table name = lookup (bytes_eq name) table

-- where a name is defined first, and whether another module defines it too
abbrev pub first_defined : Option Defined → Option Definition
first_defined known = option_map (λ d. d.first) known

abbrev pub is_shared : Option Defined → Bool
is_shared None = false
is_shared (Some d) = d.shared

-- the same of a table
abbrev pub definition_in : List (List ℕ × Defined) → List ℕ → Option Definition
definition_in table name = first_defined (entry_by_name table name)

abbrev pub shared_in : List (List ℕ × Defined) → List ℕ → Bool
shared_in table name = is_shared (entry_by_name table name)

-- what is known of a name with one more definition
abbrev pub again : Option Defined → Definition → Defined
again None d = record { first = d; shared = false }
again (Some old) d = record { first = old.first; shared = old.shared || not (old.first.number == d.number) }

abbrev pub definition_at : ℕ → ℕ → Public → Definition
definition_at number index p = record { number = number; index = index; kind = p.kind }

-- what is known of a name with these publics of the module of that number, the first of which has that index
abbrev pub noted : Option Defined → ℕ → ℕ → List ℕ → List Public → Option Defined
noted known number index name [] = known
noted known number index name (p ∷ more) =
    noted (if bytes_eq p.name name then Some (again known (definition_at number index p)) else known)
    number (index + 1) name more

-- the table has these publics of the module of that number too
pub record Notes (old : List (List ℕ × Defined)) (number : ℕ) (publics : List Public) (new : List (List ℕ × Defined))
    : Type 0 where
  pub each : (name : List ℕ) → entry_by_name new name ≡ noted (entry_by_name old name) number 0 name publics

-- of the names that are asked for the table has these publics of the module of that number too
pub record NotesAsked (asked : List (List ℕ)) (old : List (List ℕ × Defined)) (number : ℕ) (publics : List Public)
    (new : List (List ℕ × Defined)) : Type 0 where
  pub each : (name : List ℕ) → wanted_in asked name ≡ true
      → entry_by_name new name ≡ noted (entry_by_name old name) number 0 name publics

-- two of the modules define the name
abbrev pub two_define : List ModuleParts → List ℕ → Bool
two_define [] name = false
two_define (m ∷ more) name = if has_public name m then defines more name else two_define more name

-- the table has the publics of these modules
abbrev pub defined_by : List ModuleParts → List ℕ → Option Defined
defined_by modules name =
    option_map (λ d. record { first = d; shared = two_define modules name }) (public_definition modules name)

pub record AreDefinitions (modules : List ModuleParts) (table : List (List ℕ × Defined)) : Type 0 where
  pub each : (name : List ℕ) → entry_by_name table name ≡ defined_by modules name

-- the set has the names of these externals too
abbrev pub Wants : List (List ℕ) → List External → List (List ℕ) → Type 0
Wants old externals new = NotesNames (λ (e : External). e.name) old externals new

-- the set has the externals of these modules
pub record AreWanted (modules : List ModuleParts) (names : List (List ℕ)) : Type 0 where
  pub each : (name : List ℕ) → wanted_in names name ≡ list_any (wants name) modules

-- the table and the set have the names of these modules
pub record AreNamed (modules : List ModuleParts) (definitions : List (List ℕ × Defined)) (wanted : List (List ℕ))
    : Type 0 where
  pub definitions_are : AreDefinitions modules definitions
  pub wanted_are : AreWanted modules wanted

-- of the names that are asked for the table has the publics of these modules
pub record AreAskedFor (asked : List (List ℕ)) (modules : List ModuleParts) (table : List (List ℕ × Defined))
    : Type 0 where
  pub each : (name : List ℕ) → wanted_in asked name ≡ true → entry_by_name table name ≡ defined_by modules name

-- what externals are, by where each name is defined
abbrev pub undefined_by : (List ℕ → Option Definition) → External → Bool
undefined_by definition e = is_none (definition e.name)

abbrev pub contrary_by : (List ℕ → Option Definition) → External → Bool
contrary_by definition e = is_against e.kind (definition e.name)

abbrev pub resolving_by : (List ℕ → Option Definition) → External → Definition
resolving_by definition e = unwrap_or (definition e.name) nowhere
