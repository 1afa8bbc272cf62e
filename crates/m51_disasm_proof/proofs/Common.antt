-- What three or more files of these proofs import.
pub use Rattle.m51_asm.specs.Assignment.{Assignment, TextSegment, above, body_at, opening}
pub use Rattle.m51_asm.specs.Fitting.{Fits, filled}
pub use Rattle.m51_asm.specs.ObjectSegments.{kept_before}
pub use Rattle.m51_asm.specs.Pieces.{runs_from}
pub use Rattle.m51_cells.proofs.Members.{In, in_first, in_later}
pub use Rattle.m51_disasm.specs.Answer.{disassembled}
pub use Rattle.m51_disasm.specs.Lines.{beginnings, is_among, lines_of, part_lines, statement_lines, targets}
pub use Rattle.m51_disasm.specs.Lines.{written_target}
pub use Rattle.m51_disasm.specs.Parts.{code_ranges}
pub use Rattle.m51_disasm.specs.Statements.{address_by, can_stand, length_in, slot_address, statement_at}
pub use Rattle.m51_disasm.specs.Statements.{statement_target, statements_of, target_by}
pub use Rattle.m51_disasm.specs.Texts.{label_text, line_text}
pub use Rattle.m51_disasm.specs.declared.line.SourceLine.{SourceLine}
pub use Rattle.m51_disasm.specs.declared.line.Target.{Target}
pub use Rattle.m51_disasm.specs.declared.part.CodeRange.{CodeRange}
pub use Rattle.m51_disasm.specs.declared.statement.Content.{Content}
pub use Rattle.m51_disasm.specs.declared.statement.Statement.{Statement}
pub use Rattle.m51_disasm_proof.specs.Meaning.{body_of, meant, operand_of, operands_of, read_from, target_operand}
pub use Rattle.m51_disasm_proof.specs.Places.{IsSpot, Spot, line_size, segment_after, spots_from}
pub use Rattle.m51_disasm_proof.specs.Sound.{AreBytes, AreSlots, HaveSizes, IsAddress, IsContent, IsLabel, IsSlot}
pub use Rattle.m51_disasm_proof.specs.Sound.{IsSound, IsTarget}
pub use Rattle.m51_disasm_proof.specs.Standing.{GivesBytes, IsNamed, LineGives, StandsAt, bytes_at, code_value}
pub use Rattle.m51_encode.specs.Coding.{outcomes}
pub use Rattle.m51_encode.specs.declared.outcome.OperandOutcome.TheVariants.{Stands}
pub use Rattle.m51_expr.specs.Evaluation.{value_of}
pub use Rattle.m51_expr.specs.Meanings.{Meanings}
pub use Rattle.m51_isa.proofs.RowsFilled.{texts_are_rows}
pub use Rattle.m51_isa.specs.Spelling.{Text, field_in, text_of}
pub use Rattle.m51_isa.specs.Table.{encoded, length_of, length_of as row_length}
pub use Rattle.m51_isa.specs.Targets.{near, relative}
pub use Rattle.m51_isa.specs.TextLaws.{HasRoom, number_of_slot}
pub use Rattle.m51_isa.specs.declared.generics.Jump.{Jump}
pub use Rattle.m51_isa.specs.declared.instr.Instr.{Instr}
pub use Rattle.m51_isa.specs.declared.instr.Instr.TheVariants.{Nop}
pub use Rattle.m51_isa.specs.declared.slot.Field.{Field}
pub use Rattle.m51_isa.specs.declared.slot.Slot.{Slot}
pub use Rattle.m51_isa.specs.declared.slot.Slot.TheVariants.{AtR, Imm, NotBit, Plain, R}
pub use Rattle.m51_module.specs.Sound.{IsSound as IsSoundLayout}
pub use Rattle.m51_module.specs.declared.parts.LayoutParts.{LayoutParts}
pub use Rattle.m51_module.specs.declared.source.SourceFile.{SourceFile}
pub use Rattle.m51_stmt.specs.Statement.{BodyTree}
pub use Rattle.m51_text.specs.Answer.{LineTree}
pub use Rattle.m51_text.specs.Said.{is_character}
pub use Rattle.std.proofs.Common.{Bool, List, None, Ok, Option, Some, [], ap, append-nil, append_assoc, arith, cond}
pub use Rattle.std.proofs.Common.{false, flat_map, length, length-append, map, nat_lt, not, option_map, refl}
pub use Rattle.std.proofs.Common.{slice_index, subst, suc, sym, take, true, zero, ℕ, ◌%◌, ◌&&◌, ◌++◌, ◌+◌, ◌-◌, ◌/◌}
pub use Rattle.std.proofs.Common.{◌<◌, ◌==◌, ◌||◌, ◌∙◌, ◌∷◌, ◌≡◌, ◌≢◌, ◌≤◌}
pub use Rattle.std.proofs.lemmas.Bool.Decides.{nat_tests}
pub use Rattle.std.proofs.lemmas.Grind.{common_steps}
pub use Rattle.std.specs.List.{AllByRecursion, list_all}
pub use Rattle.std.specs.Prelude.{IfSome, codes, slice_get}
