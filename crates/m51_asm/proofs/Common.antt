-- What several files of these proofs import.
pub use Rattle.m51_asm.specs.Assignment.{Assignment, TextSegment, above, body_at, body_of, here_at, opening}
pub use Rattle.m51_asm.specs.ContentFaults.{content_faults, fault_of_line, if_fault, made_before}
pub use Rattle.m51_asm.specs.Contents.{IsGivenTo, nothing_given}
pub use Rattle.m51_asm.specs.FirstFault.{AreFree, IsFirstFault}
pub use Rattle.m51_asm.specs.Fitting.{Fits}
pub use Rattle.m51_asm.specs.Gathering.{IsText, changed_element, gathered_before, nothing_gathered}
pub use Rattle.m51_asm.specs.NamesAt.{kept_meanings, names_at, with_label}
pub use Rattle.m51_asm.specs.Numbering.{AreNumbered, number_at}
pub use Rattle.m51_asm.specs.OpenSegments.{current_in, text_segment}
pub use Rattle.m51_asm.specs.Parts.{external, externals, externals_by, is_selected, name_in, parts}
pub use Rattle.m51_asm.specs.Passing.{ArePlaces, IsPassed, IsPassedTo, IsPlaced}
pub use Rattle.m51_asm.specs.PlacedFaults.{is_misplaced, placed_fault}
pub use Rattle.m51_asm.specs.Placing.{IsLineOutcome, IsPlaceOf, here_of}
pub use Rattle.m51_asm.specs.SegmentTable.{segment_in, size_in}
pub use Rattle.m51_asm.specs.Table.{Brief, Table, all_noted, all_public, any_clash, any_public, brief, clash}
pub use Rattle.m51_asm.specs.Table.{entries_of, first_definition, first_in, how_of, made_public}
pub use Rattle.m51_asm.specs.Values.{Puts, Valuation, known, valuation_of, value_in}
pub use Rattle.m51_asm.specs.declared.contents.Contents.{Contents}
pub use Rattle.m51_asm.specs.declared.giving.Giving.{Giving}
pub use Rattle.m51_asm.specs.declared.segment_table.SegmentEntry.{SegmentEntry}
pub use Rattle.m51_asm.specs.declared.stepping.LinePlace.{LinePlace}
pub use Rattle.m51_cells.proofs.KindLaws.{kind_same}
pub use Rattle.m51_cells.specs.Kinds.{allows, is_absolute, largest, may_overlay, same_kind}
pub use Rattle.m51_cells.specs.declared.kind.Base.{Base}
pub use Rattle.m51_cells.specs.declared.kind.Kind.{Kind}
pub use Rattle.m51_cells.specs.declared.kind.Reloc.{Reloc}
pub use Rattle.m51_emit.specs.Gathering.{with_line}
pub use Rattle.m51_emit.specs.Within.{LieInside}
pub use Rattle.m51_emit.specs.declared.content.EmittedContent.{EmittedContent}
pub use Rattle.m51_emit.specs.declared.publics.PublicSegment.{PublicSegment}
pub use Rattle.m51_encode.specs.declared.reference.FieldValue.TheVariants.{Linked, Number}
pub use Rattle.m51_encode.specs.declared.reference.Reference.{Reference}
pub use Rattle.m51_expr.specs.Evaluation.{value_of}
pub use Rattle.m51_expr.specs.Located.{located_value}
pub use Rattle.m51_expr.specs.Meanings.{Meanings}
pub use Rattle.m51_expr.specs.Tree.{Tree}
pub use Rattle.m51_expr.specs.declared.located.Located.{Located}
pub use Rattle.m51_expr.specs.declared.value.Part.{Part}
pub use Rattle.m51_expr.specs.declared.value.Part.TheVariants.{Bit, High, Low, Whole}
pub use Rattle.m51_expr.specs.declared.value.Value.{Value}
pub use Rattle.m51_isa.specs.declared.generics.Jump.{Jump}
pub use Rattle.m51_isa.specs.declared.slot.Field.{Field}
pub use Rattle.m51_module.specs.Validity.{IsValid}
pub use Rattle.m51_module.specs.declared.content.Fixup.{Fixup}
pub use Rattle.m51_module.specs.declared.content.Piece.{Piece}
pub use Rattle.m51_module.specs.declared.parts.ModuleParts.{ModuleParts}
pub use Rattle.m51_module.specs.declared.segment.Segment.{Segment}
pub use Rattle.m51_module.specs.declared.source.Fault.{Fault}
pub use Rattle.m51_module.specs.declared.source.Row.{Row}
pub use Rattle.m51_module.specs.declared.source.SourceFile.{SourceFile}
pub use Rattle.m51_stmt.proofs.ListWords.{Each, some_each}
pub use Rattle.m51_stmt.proofs.PrintedLists.{IsItem}
pub use Rattle.m51_stmt.specs.Statement.{BodyTree, Code, Extrn, StmtTree, body_tree, stmt_tree}
pub use Rattle.m51_text.proofs.Telling.{is_nothing}
pub use Rattle.m51_text.specs.Answer.{LineTree, line_tree}
pub use Rattle.std.proofs.Common.{All, Bool, Err, List, None, Ok, Option, Result, Some, [], add-one, add-zero, ap}
pub use Rattle.std.proofs.Common.{append-nil, arith, cond, drop, eq-eqb, false, filter, get_or, inl, inr, is_some}
pub use Rattle.std.proofs.Common.{length, length-append, length-drop, map, min, nat_le, nat_lt, not, option_map, refl}
pub use Rattle.std.proofs.Common.{rules, slice_get, subst, suc, sym, take, true, zero, ℕ, ◌%◌, ◌&&◌, ◌*◌, ◌++◌, ◌+◌}
pub use Rattle.std.proofs.Common.{◌-◌, ◌/◌, ◌<◌, ◌==◌, ◌^◌, ◌||◌, ◌∙◌, ◌∷◌, ◌≡◌, ◌≢◌, ◌≤◌, ◌⊎◌}
pub use Rattle.std.proofs.lemmas.Bool.{and_from, and_parts, cases_Bool, cases_eq, cases_lt, eqb-true, leb-false}
pub use Rattle.std.proofs.lemmas.Bool.{leb-true, ltb-false, ltb-true, ne_eqb, or_parts, or_right}
pub use Rattle.std.proofs.lemmas.List.{length-map, length-take, length-take-le, take_all}
pub use Rattle.std.proofs.lemmas.Option.{same_Some, slice_get_within, some_pair_parts}
pub use Rattle.std.proofs.lemmas.Slice.Eq.{bytes_eq-Decides}
pub use Rattle.std.specs.Global.{Vec}
pub use Rattle.std.specs.List.{AllByRecursion, flat_map, list_all, list_any, range_with_len}
pub use Rattle.std.specs.Map.{lookup}
pub use Rattle.std.specs.Prelude.{slice_set, unwrap_or}
pub use Rattle.std.specs.Str.{bytes_eq}
pub use borrow.Author.Count.{below_more}
