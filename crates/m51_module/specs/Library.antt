-- Libraries: which modules one may hold, and the result of each edit.
use Rattle.std.specs.Prelude.{◌≢◌, ℕ, ◌≤◌, nat_le, Bool, not, if◌then◌else◌, List, [], ◌∷◌, ◌++◌, length, map, filter}
use Rattle.std.specs.Prelude.{bytes_eq, Option, Some, None, option_map, Result, Ok, Err}
use Rattle.std.specs.List.{AllPairs, Contains, find, list_any}
use Rattle.std.specs.Option.{ok_or}
use Rattle.m51_cells.specs.declared.limits.TheConstants.{MOST_MODULES}
use Rattle.m51_cells.specs.Outcome.{and_then}
use Rattle.m51_module.specs.Arguments.{raised}
use Rattle.m51_module.specs.declared.library_error.LibError.{LibError}
use Rattle.m51_module.specs.declared.library_error.LibError.TheVariants.{B1, B2, B3, Full, Memory}
use Rattle.m51_module.specs.declared.parts.ModuleParts.{ModuleParts}
use Rattle.m51_module.specs.declared.symbol.Public.{Public}

-- no name is a public of both
abbrev pub ShareNoPublic : ModuleParts → ModuleParts → Type 0
ShareNoPublic m n = (p q : Public) → Contains m.publics p → Contains n.publics q → p.name ≢ q.name

-- The modules of a library: at most 255, of different names, and no name is a public of two.
pub record IsLibrary (modules : List ModuleParts) : Type 0 where
  pub few : length modules ≤ MOST_MODULES
  pub names : AllPairs (λ m n. m.name ≢ n.name) modules
  pub publics : AllPairs ShareNoPublic modules

-- what an error refuses: out of memory is no refusal
abbrev pub refusal_of : LibError → Option LibError
refusal_of Memory = None
refusal_of refusal = Some refusal

abbrev pub is_named : List ℕ → ModuleParts → Bool
is_named name m = bytes_eq m.name name

-- one of the modules has that name
abbrev pub holds : List ModuleParts → List ℕ → Bool
holds modules name = list_any (is_named name) modules

-- the module has a public of that name
abbrev pub has_public : List ℕ → ModuleParts → Bool
has_public name m = list_any (λ p. bytes_eq p.name name) m.publics

-- one of the modules has a public of that name
abbrev pub defines : List ModuleParts → List ℕ → Bool
defines modules name = list_any (has_public name) modules

-- the modules of other names, in their order
abbrev pub others_than : List ℕ → List ModuleParts → List ModuleParts
others_than name modules = filter (λ m. not (is_named name m)) modules

-- the module at the index of the one of its name
abbrev pub with_replaced : ModuleParts → List ModuleParts → List ModuleParts
with_replaced new modules = map (λ m. if is_named new.name m then new else m) modules

-- the value, where there is nothing to refuse
abbrev pub value_unless : {A : Type 0} → Option LibError → A → Result A LibError
value_unless None value = Ok value
value_unless (Some refusal) value = Err refusal

-- what refuses a module beside these: B3 with its first public that one of them has
abbrev pub clash : List ModuleParts → ModuleParts → Option LibError
clash modules new = option_map (λ p. B3 p.name) (find (λ p. defines modules p.name) new.publics)

-- what refuses to add it: B1, then Full, then B3
abbrev pub add_refusal : List ModuleParts → ModuleParts → Option LibError
add_refusal modules new =
    if holds modules new.name then Some (B1 new.name)
    else if nat_le MOST_MODULES (length modules) then Some Full
    else clash modules new

-- add: the module at the end
abbrev pub added : List ModuleParts → ModuleParts → Result (List ModuleParts) LibError
added modules new = value_unless (add_refusal modules new) (modules ++ new ∷ [])

-- extract: the module of that name; B2 where there is none
abbrev pub extracted : List ModuleParts → List ℕ → Result ModuleParts LibError
extracted modules name = ok_or (find (is_named name) modules) (B2 name)

-- delete: that module, and the others in their order
abbrev pub deleted : List ModuleParts → List ℕ → Result (ModuleParts × List ModuleParts) LibError
deleted modules name = and_then (extracted modules name) (λ m. Ok (m, others_than name modules))

-- replace: the module at the index of the one of its name, B2 where there is none; then B3 beside the others
abbrev pub replaced : List ModuleParts → ModuleParts → Result (List ModuleParts) LibError
replaced modules new =
    and_then (extracted modules new.name)
    (λ _. value_unless (clash (others_than new.name modules) new) (with_replaced new modules))

-- raise: the module of that name raised at its index, and the others as they are; B2 where there is none
abbrev pub raised_in : List ModuleParts → List ℕ → Result (List ModuleParts) LibError
raised_in modules name =
    and_then (extracted modules name) (λ _. Ok (map (λ m. if is_named name m then raised m else m) modules))

-- the modules added one by one to those that are held
abbrev pub added_each : List ModuleParts → List ModuleParts → Result (List ModuleParts) LibError
added_each modules [] = Ok modules
added_each modules (new ∷ more) = and_then (added modules new) (λ now. added_each now more)

-- build: added one by one to none
abbrev pub built : List ModuleParts → Result (List ModuleParts) LibError
built modules = added_each [] modules
