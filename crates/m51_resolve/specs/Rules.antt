-- The rules that the chosen modules must meet, and the refusal of the first that they do not.
use Rattle.std.specs.Prelude.{◌≡◌, ℕ, ◌≤◌, Bool, true, false, not, ◌&&◌, if◌then◌else◌, nat_lt, List, [], ◌∷◌, ◌++◌}
use Rattle.std.specs.Prelude.{length, filter, find, is_none, Option, Some, None, option_map, Result, Ok, Err}
use Rattle.std.specs.List.{list_all}
use Rattle.std.specs.Option.{option_or}
use Rattle.m51_cells.specs.declared.limits.TheConstants.{MOST_MODULES, MOST_SEGMENTS, MOST_UNITS}
use Rattle.m51_cells.specs.declared.kind.Kind.{Kind}
use Rattle.m51_cells.specs.Kinds.{is_code, most_of, same_kind, same_reloc}
use Rattle.m51_module.specs.declared.linked.Quantity.{Quantity}
use Rattle.m51_module.specs.declared.linked.Quantity.TheVariants.{Modules, Segments, Units}
use Rattle.m51_module.specs.declared.linked.Refusal.{Refusal}
use Rattle.m51_module.specs.declared.linked.Refusal.TheVariants.{L1, L2, L3, L4, L5, Limit, Memory}
use Rattle.m51_module.specs.declared.parts.ModuleParts.{ModuleParts}
use Rattle.m51_module.specs.declared.segment.Segment.{Segment}
use Rattle.m51_module.specs.declared.symbol.External.{External}
use Rattle.m51_module.specs.Library.{defines}
use Rattle.m51_resolve.specs.Choice.{chosen_of, members_of}
use Rattle.m51_resolve.specs.Joining.{all_segments, firsts, parts_with, segments_of}
use Rattle.m51_resolve.specs.Publics.{all_externals, public_definition, kinds_agree}
use Rattle.m51_resolve.specs.declared.publics.Definition.{Definition}
use Rattle.m51_resolve.specs.declared.segment.JoinedSegment.{JoinedSegment}

-- L1: the first public of the modules after these that another chosen module, before or after, defines too
abbrev pub shared_after : List ModuleParts → List ModuleParts → Option (List ℕ)
shared_after before [] = None
shared_after before (m ∷ after) =
    option_or (option_map (λ p. p.name) (find (λ p. defines (before ++ after) p.name) m.publics))
    (shared_after (before ++ m ∷ []) after)

abbrev pub shared_public : List ModuleParts → Option (List ℕ)
shared_public modules = shared_after [] modules

-- L2: the first external that no chosen module defines
abbrev pub is_undefined : List ModuleParts → External → Bool
is_undefined modules e = is_none (public_definition modules e.name)

abbrev pub undefined_external : List ModuleParts → Option (List ℕ)
undefined_external modules = option_map (λ e. e.name) (find (is_undefined modules) (all_externals modules))

-- L3: the first external whose kind does not agree with that of its public
abbrev pub is_against : Kind → Option Definition → Bool
is_against kind None = false
is_against kind (Some found) = not (kinds_agree kind found.kind)

abbrev pub is_contrary : List ModuleParts → External → Bool
is_contrary modules e = is_against e.kind (public_definition modules e.name)

abbrev pub contrary_external : List ModuleParts → Option (List ℕ)
contrary_external modules = option_map (λ e. e.name) (find (is_contrary modules) (all_externals modules))

-- whether two marks are the same
abbrev pub same_mark : Bool → Bool → Bool
same_mark true two = two
same_mark false two = not two

-- two segments have the same marks OVERLAYABLE and ARGUMENT
abbrev pub same_marks : Segment → Segment → Bool
same_marks one two = same_mark one.overlay two.overlay && same_mark one.argument two.argument

-- two parts agree in kind, type, OVERLAYABLE and ARGUMENT
abbrev pub parts_agree : Segment → Segment → Bool
parts_agree one two = same_kind one.kind two.kind && same_reloc one.reloc two.reloc && same_marks one two

-- L4: the first joined segment whose parts differ: not all agree with the one that is seen first
abbrev pub is_mixed : List Segment → Segment → Bool
is_mixed all s = not (list_all (parts_agree s) (parts_with all s))

abbrev pub mixed_segment : List ModuleParts → Option (List ℕ)
mixed_segment modules =
    option_map (λ s. s.name) (find (is_mixed (all_segments modules)) (firsts (all_segments modules)))

-- L5: the first joined segment that is larger than its kind and type allow
abbrev pub is_too_large : JoinedSegment → Bool
is_too_large j = nat_lt (most_of j.kind j.reloc) j.size

abbrev pub large_segment : List ModuleParts → Option (List ℕ)
large_segment modules = option_map (λ j. j.title) (find is_too_large (segments_of modules))

-- the units: the joined segments of program memory
abbrev pub joined_units : List ModuleParts → List JoinedSegment
joined_units modules = filter (λ j. is_code j.kind) (segments_of modules)

-- the refusal by a limit, where the count is above it
abbrev pub more_than : ℕ → Quantity → ℕ → Option Refusal
more_than most what count = if nat_lt most count then Some (Limit what) else None

-- the first refusal of these
abbrev pub earliest_refusal : List (Option Refusal) → Option Refusal
earliest_refusal [] = None
earliest_refusal (rule ∷ more) = option_or rule (earliest_refusal more)

-- The rules in their order.
abbrev pub first_refusal : List ModuleParts → Option Refusal
first_refusal modules = earliest_refusal (
    more_than MOST_MODULES Modules (length modules)
    ∷ option_map L1 (shared_public modules)
    ∷ option_map L2 (undefined_external modules)
    ∷ option_map L3 (contrary_external modules)
    ∷ option_map L4 (mixed_segment modules)
    ∷ more_than MOST_SEGMENTS Segments (length (segments_of modules))
    ∷ more_than MOST_UNITS Units (length (joined_units modules))
    ∷ option_map L5 (large_segment modules)
    ∷ [])

-- the refusal, or the modules where there is none
abbrev pub unless_refused : List ModuleParts → Option Refusal → Result (List ModuleParts) Refusal
unless_refused modules None = Ok modules
unless_refused modules (Some refusal) = Err refusal

-- the result where these modules are chosen: them, or the refusal of the first rule that fails
abbrev pub resolved_or_refused : List ModuleParts → Result (List ModuleParts) Refusal
resolved_or_refused chosen = unless_refused chosen (first_refusal chosen)

-- The result of resolving.
abbrev pub resolved_of : List ModuleParts → List (List ModuleParts) → Result (List ModuleParts) Refusal
resolved_of given libraries = resolved_or_refused (chosen_of given (members_of libraries))

-- an error as the refusal that it is, or none for out of memory
abbrev pub but_memory : Refusal → Option Refusal
but_memory Memory = None
but_memory refusal = Some refusal

-- the modules meet each rule
pub record AreResolved (modules : List ModuleParts) : Type 0 where
  pub few_modules : length modules ≤ MOST_MODULES
  pub publics : shared_public modules ≡ None
  pub externals : undefined_external modules ≡ None
  pub kinds : contrary_external modules ≡ None
  pub parts : mixed_segment modules ≡ None
  pub few_segments : length (segments_of modules) ≤ MOST_SEGMENTS
  pub few_units : length (joined_units modules) ≤ MOST_UNITS
  pub sizes : large_segment modules ≡ None
