-- The values of names, as the code keeps them.
use Rattle.std.specs.Prelude.{◌≡◌, ℕ, if◌then◌else◌, List, [], ◌∷◌, map, Option, Some, None}
use Rattle.std.specs.Global.{Vec}
use Rattle.std.specs.Str.{bytes_eq}
use Rattle.m51_expr.specs.declared.located.Located.{Located}

-- names with their values, or with none where the expression that defines them has a fault
abbrev pub Valuation : Type 0
Valuation = List (List ℕ × Option (Located ℕ))

-- the values of these entries of a map
abbrev pub valuation_of : List (Vec ℕ × Option (Located ℕ)) → Valuation
valuation_of entries = map (λ e. (e.0.items, e.1)) entries

-- the value of a name
abbrev pub value_in : Valuation → List ℕ → Option (Located ℕ)
value_in [] name = None
value_in (e ∷ more) name = if bytes_eq name e.0 then e.1 else value_in more name

-- the value of a name that is looked up, if it is known and has one
abbrev pub known : Option (Option (Located ℕ)) → Option (Located ℕ)
known (Some value) = value
known None = None

-- the name has this value now, and each other name the one that it had
abbrev pub Puts : Valuation → Valuation → List ℕ → Option (Located ℕ) → Type 0
Puts old new name value =
    (other : List ℕ) → value_in new other ≡ (if bytes_eq other name then value else value_in old other)
