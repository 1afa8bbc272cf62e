-- The references of each line lie in its bytes.
use Rattle.std.proofs.Common.{◌≡◌, ◌+◌, ◌≤◌, length, Option, Some, None, Ok, Err, refl, ap, sym, ◌∙◌, arith}
use Rattle.std.specs.Prelude.{IfOk}
use Rattle.m51_isa.specs.declared.instr.Instr.{Instr}
use Rattle.m51_expr.specs.declared.value.Value.{Value}
use Rattle.m51_expr.specs.Value.{Valued}
use Rattle.m51_expr.specs.Tree.{Tree}
use Rattle.m51_expr.specs.Meanings.{Meanings}
use Rattle.m51_expr.specs.Evaluation.{value_of}
use Rattle.m51_expr.specs.Operand as item
use Rattle.m51_expr.specs.Operand.{ItemTree}
use Rattle.m51_module.specs.Validity.{field_len}
use Rattle.m51_encode.specs.declared.coding.Coded.{Coded}
use Rattle.m51_encode.specs.declared.item.Width.{Width}
use Rattle.m51_encode.specs.declared.item.Width.TheVariants.{Byte, Word}
use Rattle.m51_encode.specs.declared.reference.FieldValue.{FieldValue}
use Rattle.m51_encode.specs.declared.reference.FieldValue.TheVariants.{Number, Linked}
use Rattle.m51_encode.specs.declared.reference.Reference.{Reference}
use Rattle.m51_encode.specs.Reference.{reference_of}
use Rattle.m51_encode.specs.FieldValues.{field_of}
use Rattle.m51_encode.specs.Filling.{Answer, and_then, or_out_of_range, fielded}
use Rattle.m51_encode.specs.Items.{field_of_width, number_bytes}
use Rattle.m51_encode.specs.Coding.{Line, instruction_line, line_row, coded_by, coded_line, first_of, second_of}
use Rattle.m51_encode.specs.Coding.{third_of, coded}
use Rattle.m51_encode.specs.Meaning.{StandsFor}
use Rattle.m51_encode.proofs.BitNumbers.{linked_is}
use Rattle.m51_encode.proofs.Standing.{then_ok, coded_stands_for_line}
use Rattle.m51_stmt.specs.Statement.{Code, Db, Dw}
use Rattle.m51_emit.specs.Content.{coded_content, item_given, item_content}
use Rattle.m51_emit.specs.ContentLaws.{ReferencesLie}
use Rattle.m51_emit.proofs.FilledLines.{Lies, nothing_lies, joined_lies, same_width, stood_lies}

abbrev HasThree : Coded → Type 0
HasThree c = length c.references ≡ 3

-- an instruction has a place for a reference at each of three bytes
three_references : (names : Meanings) (l : Line) (row : Option Instr) → IfOk (coded_by names l row) HasThree
three_references names l (Some row) =
    then_ok (first_of names row l.first) _ HasThree (λ x in_first.
    then_ok (second_of names row l.second) _ HasThree (λ y in_second.
    then_ok (third_of names row l.third) _ HasThree (λ z in_third. refl)))
three_references names l None = tt

coded_lies : (names : Meanings) (l : Line) (c : Answer Coded) → IfOk c (StandsFor names l) → IfOk c HasThree
    → Lies (coded_content c)
coded_lies names l (Ok c) s three = stood_lies names l c s three
coded_lies names l (Err e) s three = nothing_lies

line_lies : (names : Meanings) (l : Option Line) → Lies (coded_content (coded_line names l))
line_lies names (Some l) =
    coded_lies names l (coded_line names (Some l)) (coded_stands_for_line names l)
    (three_references names l (line_row l))
line_lies names None = nothing_lies

one_lies : (names : Meanings) (width : Width) (v : Value) (r : Reference)
    → reference_of names (field_of_width width) v ≡ r
    → 0 + field_len r.form ≤ length (number_bytes width 0)
one_lies names Byte v r is = let wide = ap (λ (x : Reference). field_len x.form) (sym is)
    ∙ same_width (field_of_width Byte) v.part in omega (arith, wide)
one_lies names Word v r is = let wide = ap (λ (x : Reference). field_len x.form) (sym is)
    ∙ same_width (field_of_width Word) v.part in omega (arith, wide)

held_lies : (names : Meanings) (width : Width) (e : Tree) (v : Value) (o : Option FieldValue)
    → ((r : Reference) → o ≡ Some (Linked r) → reference_of names (field_of_width width) v ≡ r)
    → Lies (item_given width (item.Value e) (and_then (or_out_of_range o) (λ held. Ok (Some held))))
held_lies names width e v (Some (Number n)) go = record { lie = omega arith }
held_lies names width e v (Some (Linked r)) go = record { lie = (omega arith, one_lies names width v r (go r refl)) }
held_lies names width e v None go = nothing_lies

value_lies : (names : Meanings) (width : Width) (e : Tree) (value : Valued Value)
    → Lies (item_given width (item.Value e)
    (and_then (fielded names 0 (field_of_width width) value) (λ held. Ok (Some held))))
value_lies names width e (Ok v) =
    held_lies names width e v (field_of names (field_of_width width) 0 v) (linked_is names (field_of_width width) 0 v)
value_lies names width e (Err fault) = nothing_lies

item_lies : (names : Meanings) (width : Width) (x : ItemTree) → Lies (item_content names width x)
item_lies names width (item.Value e) = value_lies names width e (value_of names e)
item_lies names width (item.Text characters) = record { lie = omega arith }

pub references_lie : ReferencesLie
unfolding coded
references_lie names jump (Code mnemonic operands) = line_lies names (instruction_line mnemonic operands jump)
references_lie names jump (Db items) = joined_lies (item_content names Byte) items (item_lies names Byte)
references_lie names jump (Dw words) = joined_lies (item_content names Word) words (item_lies names Word)
references_lie names jump body = nothing_lies
