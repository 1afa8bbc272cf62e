-- Of the code: the rules as its steps test them.
use Rattle.std.specs.Prelude.{◌≡◌, ℕ, List, [], ◌∷◌, length, filter, find, Option, Some, None}
use Rattle.std.specs.Prelude.{option_map, Result, Ok, Err}
use Rattle.m51_cells.specs.declared.limits.TheConstants.{MOST_MODULES, MOST_SEGMENTS, MOST_UNITS}
use Rattle.m51_module.specs.declared.linked.Quantity.TheVariants.{Modules, Segments, Units}
use Rattle.m51_module.specs.declared.linked.Refusal.{Refusal}
use Rattle.m51_module.specs.declared.linked.Refusal.TheVariants.{L1, L2, L3, L4, L5}
use Rattle.m51_module.specs.declared.parts.ModuleParts.{ModuleParts}
use Rattle.m51_module.specs.declared.symbol.External.{External}
use Rattle.m51_resolve.specs.declared.joining.Growing.{Growing}
use Rattle.m51_resolve.specs.declared.publics.Definition.{Definition}
use Rattle.m51_resolve.specs.Joining.{title_of}
use Rattle.m51_resolve.specs.Rules.{earliest_refusal, more_than, shared_public}
use Rattle.m51_resolve.specs.WorkJoining.{is_large, is_unit}
use Rattle.m51_resolve.specs.WorkNames.{contrary_by, undefined_by}

-- the first rules, which publics must meet
abbrev pub rules_of_publics : List ModuleParts → Option Refusal
rules_of_publics modules =
    earliest_refusal (more_than MOST_MODULES Modules (length modules) ∷ option_map L1 (shared_public modules) ∷ [])

-- the next, which externals must meet
abbrev pub rules_of_externals : (List ℕ → Option Definition) → List External → Option Refusal
rules_of_externals definition externals = earliest_refusal (
    option_map L2 (option_map (λ e. e.name) (find (undefined_by definition) externals))
    ∷ option_map L3 (option_map (λ e. e.name) (find (contrary_by definition) externals))
    ∷ [])

-- those of the numbers of joined segments and units
abbrev pub rules_of_counts : List Growing → Option Refusal
rules_of_counts growing = earliest_refusal (
    more_than MOST_SEGMENTS Segments (length growing)
    ∷ more_than MOST_UNITS Units (length (filter is_unit growing))
    ∷ [])

-- the last, which joined segments must meet
abbrev pub rules_of_growing : List Growing → Option Refusal
rules_of_growing growing = earliest_refusal (
    option_map L4 (option_map (λ g. g.first.name) (find (λ g. g.mixed) growing))
    ∷ rules_of_counts growing
    ∷ option_map L5 (option_map (λ g. title_of g.first) (find is_large growing))
    ∷ [])

-- a step fails with the refusal, and succeeds where there is none
abbrev pub Tells : {A : Type 0} → Option Refusal → Result A Refusal → Type 0
Tells rule (Ok _) = rule ≡ None
Tells rule (Err refusal) = rule ≡ Some refusal
