-- Which public resolves an external.
use Rattle.std.specs.Prelude.{ℕ, ◌+◌, Bool, ◌||◌, if◌then◌else◌, List, [], ◌∷◌, flat_map, slice_get, Option, Some, None}
use Rattle.std.specs.Prelude.{unwrap_or, option_and_then}
use Rattle.std.specs.Option.{option_or}
use Rattle.std.specs.Str.{bytes_eq}
use Rattle.m51_cells.specs.declared.kind.Kind.{Kind}
use Rattle.m51_cells.specs.declared.kind.Kind.TheVariants.{Number}
use Rattle.m51_cells.specs.Kinds.{same_kind}
use Rattle.m51_module.specs.declared.parts.ModuleParts.{ModuleParts}
use Rattle.m51_module.specs.declared.symbol.External.{External}
use Rattle.m51_module.specs.declared.symbol.Public.{Public}
use Rattle.m51_module.specs.Validity.{numbered}
use Rattle.m51_resolve.specs.declared.publics.Definition.{Definition}

-- the public of the name among these, which are those of the module of that number from that index on
abbrev pub definition_among : ℕ → ℕ → List ℕ → List Public → Option Definition
definition_among number index name [] = None
definition_among number index name (p ∷ more) =
    if bytes_eq p.name name then Some (record { number = number; index = index; kind = p.kind })
    else definition_among number (index + 1) name more

-- the public of the name in these modules, the first of which has that number
abbrev pub definition_from : ℕ → List ℕ → List ModuleParts → Option Definition
definition_from number name [] = None
definition_from number name (m ∷ more) =
    option_or (definition_among number 0 name m.publics) (definition_from (number + 1) name more)

-- the public of the name in the modules; where L1 does not come, there is at most one
abbrev pub public_definition : List ModuleParts → List ℕ → Option Definition
public_definition modules name = definition_from 0 name modules

-- all externals of the modules, in module order
abbrev pub all_externals : List ModuleParts → List External
all_externals modules = flat_map (λ m. m.externals) modules

-- The value in place of the definition of a name that has none. Joining fails with L2 then, so no external of a
-- `Joined` is resolved to it.
abbrev pub nowhere : Definition
nowhere = record { number = 0; index = 0; kind = Number }

-- the external of that number, from 1, of the module of that number, from 0
abbrev pub external_at : List ModuleParts → ℕ → ℕ → Option External
external_at modules m e = option_and_then (λ (chosen : ModuleParts). numbered chosen.externals e) (slice_get modules m)

-- the public that resolves an external
abbrev pub resolving : List ModuleParts → External → Definition
resolving modules e = unwrap_or (public_definition modules e.name) nowhere

-- The public that resolves an external of a module: the number of its module, and its index there, both from 0.
abbrev pub public_of : List ModuleParts → ℕ → ℕ → ℕ × ℕ
public_of modules m e =
    let known : Option Definition =
    option_and_then (λ (x : External). public_definition modules x.name) (external_at modules m e) in
    let found : Definition = unwrap_or known nowhere in
    (found.number, found.index)

-- the kinds agree: they are the same, or one of them is NUMBER
abbrev pub kinds_agree : Kind → Kind → Bool
kinds_agree one two = same_kind one two || same_kind one Number || same_kind two Number
