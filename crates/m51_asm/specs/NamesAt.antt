-- What names and the place of a line mean by what is kept, and the form of a JMP or CALL that follows from it.
use Rattle.std.specs.Prelude.{◌≡◌, ℕ, Bool, false, if◌then◌else◌, List, Option, Some, slice_get, option_map}
use Rattle.m51_cells.specs.Kinds.{is_absolute}
use Rattle.m51_expr.specs.declared.located.Located.{Located}
use Rattle.m51_expr.specs.declared.value.Value.{Value}
use Rattle.m51_expr.specs.Located.{located_value}
use Rattle.m51_expr.specs.Meanings.{Meanings}
use Rattle.m51_text.specs.Answer.{LineTree}
use Rattle.m51_asm.specs.declared.names_at.NamesAt.{NamesAt}
use Rattle.m51_asm.specs.declared.segment_table.SegmentEntry.{SegmentEntry}
use Rattle.m51_asm.specs.Definitions.{definition_of}
use Rattle.m51_asm.specs.Assignment.{Assignment, is_bitaddressable, segment_reloc, here_at, above}
use Rattle.m51_asm.specs.Fitting.{mod51, bank_before, form_by, Fits}
use Rattle.m51_asm.specs.Numbering.{number_at}
use Rattle.m51_asm.specs.Repeats.{is_repeated}
use Rattle.m51_asm.specs.SegmentTable.{entry_in}
use Rattle.m51_asm.specs.Table.{Table, first_in, first_definition}
use Rattle.m51_asm.specs.Values.{Valuation, value_in}
use Rattle.m51_asm.specs.ValuesAbove.{value_above}
use Rattle.m51_asm.specs.ValuesAt.{is_label, value_at}

-- a name that is the label means the place of the line
abbrev pub or_label : Meanings → Option (List ℕ) → List ℕ → Option Value
or_label names label name = if is_label label name then Some names.here else names.value name

-- the same with the label
abbrev pub with_label : Meanings → Option (List ℕ) → Meanings
with_label names label = record {
  value = or_label names label;
  here = names.here;
  fixed = names.fixed;
  bitaddressable = names.bitaddressable;
  number = names.number;
}

-- what names and the place of a line mean, by the values that are kept of names and of those that SET defines
abbrev pub kept_meanings : List SegmentEntry → Table → Valuation → Valuation → Bool → ℕ → Located ℕ → Meanings
kept_meanings segments table kept set mod51 bank here = record {
  value = λ name. value_at table kept set mod51 bank name;
  here = located_value here;
  fixed = λ id. is_absolute (entry_in segments id).reloc;
  bitaddressable = λ id. is_bitaddressable (entry_in segments id).reloc;
  number = λ id. 0;
}

-- the same with these numbers of segments
abbrev pub with_numbers : Meanings → List ℕ → Meanings
with_numbers names numbers = record names { number = number_at numbers }

-- what names and the place of a line mean to the code, in both passes
abbrev pub names_at : NamesAt → Meanings
names_at n =
    with_label
    (with_numbers (kept_meanings n.segments.now n.text.names.now n.kept.now n.set.now n.text.mod51 n.bank n.here)
    n.numbers.now)
    n.label

-- what is kept is what the lines above line k give under the assignment
pub record IsKeptOf (lines : List LineTree) (a : Assignment) (k : ℕ) (segments : List SegmentEntry) (table : Table)
    (values : Valuation) (predefines : Bool) (bank : ℕ) (here : Located ℕ) : Type 0 where
  pub types : (id : ℕ) → (entry_in segments id).reloc ≡ segment_reloc lines id
  pub names : (name : List ℕ) → first_in table name ≡ option_map first_definition (definition_of lines name)
  pub known : (name : List ℕ) → option_map located_value (value_in values name) ≡ value_above lines a k name
  pub predefined : predefines ≡ mod51 lines
  pub selected : bank ≡ bank_before lines a k
  pub place : located_value here ≡ here_at a k

-- By the values that the lines above a line give, names mean what they mean by the assignment that fits.
abbrev pub KeptMeans : Type 0
KeptMeans =
    (lines : List LineTree) (a : Assignment) → Fits lines a
    → (k : ℕ) (segments : List SegmentEntry) (table : Table) (values : Valuation) (predefines : Bool) (bank : ℕ)
    (here : Located ℕ)
    → IsKeptOf lines a k segments table values predefines bank here
    → kept_meanings segments table values values predefines bank here ≡ above lines a k

-- The form of a JMP or CALL of a line that repeats nothing follows from the lines above and the line's own label.
abbrev pub FormIsTold : Type 0
FormIsTold =
    (lines : List LineTree) (a : Assignment) → Fits lines a → (k : ℕ) (line : LineTree) → slice_get lines k ≡ Some line
    → is_repeated lines k ≡ false
    → form_by (with_label (above lines a k) line.stmt.label) line.stmt.body ≡ a.form k
