-- The values that a line gives to the names which it defines, as the code takes them in.
use Rattle.std.specs.Prelude.{ℕ, ◌+◌, ◌<◌, if◌then◌else◌, List, [], ◌∷◌, Option, Some, None, option_map}
use Rattle.std.specs.Str.{bytes_eq}
use Rattle.m51_cells.specs.declared.kind.Kind.{Kind}
use Rattle.m51_expr.specs.declared.value.Part.TheVariants.{Whole}
use Rattle.m51_expr.specs.declared.value.Value.{Value}
use Rattle.m51_expr.specs.Meanings.{Meanings}
use Rattle.m51_expr.specs.Evaluation.{value_of}
use Rattle.m51_stmt.specs.Statement.{BodyTree, Equ, Set, Address}
use Rattle.m51_asm.specs.declared.definitions.How.{How}
use Rattle.m51_asm.specs.declared.definitions.How.TheVariants as how
use Rattle.m51_expr.specs.declared.located.Origin.TheVariants as origin
use Rattle.m51_expr.specs.declared.located.Located.{Located}
use Rattle.m51_asm.specs.declared.giving.Giving.{Giving}
use Rattle.m51_asm.specs.Assignment.{value_or_none}
use Rattle.m51_asm.specs.Fitting.{with_class}
use Rattle.m51_asm.specs.Table.{Brief}

-- the value of the expression of a definition or of an address statement
abbrev pub expression_given : Meanings → BodyTree → Option Value
expression_given names (Equ name e) = value_or_none (value_of names e)
expression_given names (Set name e) = value_or_none (value_of names e)
expression_given names (Address name kind e) = option_map (with_class kind) (value_or_none (value_of names e))
expression_given names body = None

-- a segment that a line declares
abbrev pub segment_given : Kind → ℕ → Located ℕ
segment_given kind line = record { number = 0; class = kind; origin = origin.Segment (line + 2); part = Whole }

-- an external of this number, counted from 1
abbrev pub external_given : Kind → ℕ → Located ℕ
external_given kind number = record { number = 0; class = kind; origin = origin.External number; part = Whole }

-- what a line gives to a name that it defines so
abbrev pub given_by : Giving → How → Option (Located ℕ)
given_by g how.Label = Some g.here
given_by g (how.Segment kind) = Some (segment_given kind g.line)
given_by g (how.External kind number) = Some (external_given kind (g.externals + number + 1))
given_by g how = g.expression

-- the value of a name after these definitions, of which the first one of a name counts
abbrev pub given_or : Giving → List Brief → List ℕ → Option (Located ℕ) → Option (Located ℕ)
given_or g [] name kept = kept
given_or g (d ∷ more) name kept = if bytes_eq name d.0 then given_by g d.1 else given_or g more name kept

-- an external of a line has a number up to 255, by how many are declared above the line
abbrev pub HasNumber : ℕ → How → Type 0
HasNumber above (how.External kind number) = above + number < 255
HasNumber above how = Unit {0}

-- the externals among these definitions have one
abbrev pub HaveNumbers : ℕ → List Brief → Type 0
HaveNumbers above [] = Unit {0}
HaveNumbers above (d ∷ more) = HasNumber above d.1 × HaveNumbers above more
