-- The module of a text (this project's rules of modules).
use Rattle.std.specs.Prelude.{ℕ, zero, suc, ◌+◌, ◌==◌, ◌||◌, Bool, false, if◌then◌else◌, List, [], ◌++◌, ◌∷◌, map}
use Rattle.std.specs.Prelude.{length}
use Rattle.std.specs.List.{list_any}
use Rattle.m51_cells.specs.declared.kind.Kind.{Kind}
use Rattle.m51_module.specs.declared.parts.ModuleParts.{ModuleParts}
use Rattle.m51_module.specs.declared.segment.Segment.{Segment}
use Rattle.m51_module.specs.declared.symbol.External.{External}
use Rattle.m51_module.specs.declared.symbol.Public.{Public}
use Rattle.m51_expr.specs.Meanings.{Meanings}
use Rattle.m51_stmt.specs.Statement.{BodyTree, Using, Public as Publishes, Extrn, ModuleName}
use Rattle.m51_text.specs.Answer.{LineTree}
use Rattle.m51_asm.specs.Assignment.{Assignment, body_at, above, number_or_zero}
use Rattle.m51_asm.specs.Naming.{module_name}
use Rattle.m51_asm.specs.ObjectSegments.{object_segments}
use Rattle.m51_asm.specs.PublicNames.{publics_of}
use Rattle.m51_asm.specs.Pieces.{pieces, fixups}

abbrev pub external : List ℕ × Kind → External
external e = record { name = e.0; kind = e.1 }

abbrev pub externals_by : BodyTree → List External
externals_by (Extrn externals) = map external externals
externals_by body = []

-- the externals of a text, in the order of EXTRN
abbrev pub externals : List LineTree → List External
externals [] = []
externals (line ∷ lines) = externals_by line.stmt.body ++ externals lines

abbrev pub publics_by : List LineTree → Assignment → ℕ → BodyTree → List Public
publics_by lines a k (Publishes names) = publics_of lines a k names
publics_by lines a k body = []

-- the publics of the first k lines, in the order of PUBLIC
unfoldable pub publics_before : List LineTree → Assignment → ℕ → List Public
publics_before lines a zero = []
publics_before lines a (suc k) = publics_before lines a k ++ publics_by lines a k (body_at lines k)

abbrev pub selects_by : Meanings → ℕ → BodyTree → Bool
selects_by names bank (Using e) = number_or_zero names e == bank
selects_by names bank body = false

-- one of the first k lines selects the bank by USING
unfoldable pub is_selected : List LineTree → Assignment → ℕ → ℕ → Bool
is_selected lines a bank zero = false
is_selected lines a bank (suc k) = is_selected lines a bank k || selects_by (above lines a k) bank (body_at lines k)

-- the bit of a bank, where USING selects it
abbrev pub bank_bit : List LineTree → Assignment → ℕ → ℕ → ℕ
bank_bit lines a bank bit = if is_selected lines a bank (length lines) then bit else 0

-- the banks of a text: bit k for each USING k, and bit 0 always
abbrev pub banks : List LineTree → Assignment → ℕ
banks lines a = 1 + bank_bit lines a 1 2 + bank_bit lines a 2 4 + bank_bit lines a 3 8

abbrev pub name_by : List ℕ → BodyTree → List ℕ
name_by other (ModuleName name) = name
name_by other body = other

-- the name that NAME gives, or else this one
abbrev pub name_in : List ℕ → List LineTree → List ℕ
name_in other [] = other
name_in other (line ∷ lines) = name_by (name_in other lines) line.stmt.body

-- the version of the object that a module of these segments needs: the second where one is marked
abbrev pub version_of : List Segment → ℕ
version_of segments = if list_any (λ s. s.argument) segments then 2 else 1

-- the module that a text of a file of this name gives under an assignment
unfoldable pub parts : List ℕ → List LineTree → Assignment → ModuleParts
parts file lines a = record {
  name = name_in (module_name file) lines;
  version = version_of (object_segments lines a);
  segments = object_segments lines a;
  publics = publics_before lines a (length lines);
  externals = externals lines;
  pieces = pieces lines a;
  fixups = fixups lines a;
  banks = banks lines a;
}
