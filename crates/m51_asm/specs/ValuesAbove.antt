-- The values of names that lines above define, and how they grow with a line (this project's rules of names).
use Rattle.std.specs.Prelude.{◌≡◌, ℕ, suc, false, nat_lt, if◌then◌else◌, List, take, Option, Some, None, slice_get}
use Rattle.m51_expr.specs.declared.value.Value.{Value}
use Rattle.m51_text.specs.Answer.{LineTree}
use Rattle.m51_asm.specs.Definitions.{Definition, found_in, definition_of}
use Rattle.m51_asm.specs.Assignment.{Assignment, line_definitions, here_at, above, value_before}
use Rattle.m51_asm.specs.Fitting.{set_by, last_set, undefined_value, externals_before, value_by, Fits}
use Rattle.m51_asm.specs.Repeats.{is_repeated}

-- the value at line k of a name of this first definition
abbrev pub defined_value : List LineTree → Assignment → ℕ → List ℕ → Option (ℕ × Definition) → Option Value
defined_value lines a k name (Some d) =
    value_by (here_at a d.0) (above lines a d.0) (last_set lines a name k) (externals_before lines d.0) d.0 d.1
defined_value lines a k name None = None

-- the value at line k of a name that a line above defines, and none of another name
unfoldable pub value_above : List LineTree → Assignment → ℕ → List ℕ → Option Value
value_above lines a k name = defined_value lines a k name (definition_of (take k lines) name)

-- the value that line k gives to a name which it defines so
abbrev pub line_value : List LineTree → Assignment → ℕ → Definition → Option Value
line_value lines a k definition =
    value_by (here_at a k) (above lines a k) (set_by (above lines a k) None (Some definition))
    (externals_before lines k) k definition

abbrev pub or_kept : List LineTree → Assignment → ℕ → Option Definition → Option Value → Option Value
or_kept lines a k (Some definition) kept = line_value lines a k definition
or_kept lines a k None kept = kept

-- After a line that repeats nothing a name has the value that the line gives it, or else the one that it had.
abbrev pub ValuesGrow : Type 0
ValuesGrow =
    (lines : List LineTree) (a : Assignment) (k : ℕ) (line : LineTree) (name : List ℕ)
    → slice_get lines k ≡ Some line → is_repeated lines k ≡ false
    → value_above lines a (suc k) name
    ≡ or_kept lines a k (found_in (line_definitions lines k) name) (value_above lines a k name)

-- the value of a name that this line sees: of one that the text does not define, of one that a line above defines, or
-- none
abbrev pub seen_value : ℕ → Option Value → Option Value → Option (ℕ × Definition) → Option Value
seen_value k above undefined None = undefined
seen_value k above undefined (Some d) = if nat_lt d.0 k then above else None

-- The values of names defined above, and those of names that the text does not define, are what names mean at a line.
abbrev pub ValuesAreSeen : Type 0
ValuesAreSeen =
    (lines : List LineTree) (a : Assignment) → Fits lines a → (k : ℕ) (name : List ℕ)
    → value_before lines a k k name
    ≡ seen_value k (value_above lines a k name) (undefined_value lines a k name) (definition_of lines name)
