-- What several files of these proofs import.
pub use Rattle.m51_args.specs.Jobs.{job_of}
pub use Rattle.m51_asm.proofs.AnsweredLines.{one_answer as one_text}
pub use Rattle.m51_asm.specs.PlacedFaults.{placed_fault, operand_fault}
pub use Rattle.m51_build_proof.specs.Builds.{AreOfBytes, IsAccepted, IsBuilt, MeetsRules, IsByteList, separate_run}
pub use Rattle.m51_build_proof.specs.Builds.{flat_run, IsRun}
pub use Rattle.m51_build_proof.specs.FromChain.{HoldBytes, ChainKeepsPromise, KeepsPromise}
pub use Rattle.m51_cells.proofs.Passing.{same_Ok}
pub use Rattle.m51_cells.specs.Cells.{cells_in, IsDataCell}
pub use Rattle.m51_cells.specs.Outcome.{and_then}
pub use Rattle.m51_cells.specs.declared.event.Event.{Event, Event as RunEvent}
pub use Rattle.m51_cells.specs.declared.limits.TheConstants.{MOST_POINTS, MOST_FILES, MOST_CONTROL_LINES}
pub use Rattle.m51_cells.specs.declared.limits.TheConstants.{MOST_PIECE_BYTES}
pub use Rattle.m51_chain.proofs.Accepted.{on_value}
pub use Rattle.m51_chain.proofs.OneOutcome.{one_outcome, one_linked}
pub use Rattle.m51_chain.specs.Builds.{build_files, IsBuildOutcome}
pub use Rattle.m51_chain.specs.LinkRefusals.{link_outcome}
pub use Rattle.m51_chain.specs.Optional.{content_if}
pub use Rattle.m51_chain.specs.ProgramFiles.{AreAnswered, Given, IsGivenOutcome, ProgramFiles, Refused, control_content}
pub use Rattle.m51_chain.specs.ProgramFiles.{script_content, word_contents, IsFilesOutcome}
pub use Rattle.m51_chain.specs.Programs.{IsReport, program_report, hex_kept, filled_by}
pub use Rattle.m51_chain.specs.ScriptRefusals.{script_outcome}
pub use Rattle.m51_chain.specs.Verbs.{IsOutcome}
pub use Rattle.m51_chain.specs.declared.status.Status.{Status}
pub use Rattle.m51_control.specs.declared.control.Control.{Control}
pub use Rattle.m51_expr.specs.Meanings.{Meanings}
pub use Rattle.m51_expr.specs.Tree.{Tree, Name, One, Two}
pub use Rattle.m51_expr.specs.declared.value.Value.{Value}
pub use Rattle.m51_fields.specs.declared.fields.FieldBytes.{FieldBytes}
pub use Rattle.m51_graph.proofs.Climbing.{tally_mono, rank, rank_edge, tally_le}
pub use Rattle.m51_graph.proofs.Relations.{bits_tell, above_tells}
pub use Rattle.m51_graph.specs.Drawing.{edges_of, fixup_edges}
pub use Rattle.m51_graph.specs.Graph.{AreRootBits, IsGraph, LeadWithin, UnitLiesUnder, joined_graph}
pub use Rattle.m51_graph.specs.Leading.{leads}
pub use Rattle.m51_graph.specs.Lines.{bad_line}
pub use Rattle.m51_graph.specs.Locals.{lost_segment}
pub use Rattle.m51_graph.specs.Units.{code_segments, unit_titles}
pub use Rattle.m51_graph.specs.declared.parts.GraphParts.{GraphParts}
pub use Rattle.m51_hex.specs.Memory.{Memory, memory_in}
pub use Rattle.m51_hex.specs.Reading.{memory_from}
pub use Rattle.m51_inputs.proofs.OneEach.{one_answer as one_for_files}
pub use Rattle.m51_inputs.specs.Inputs.{InputsTree, controls_in, script_in}
pub use Rattle.m51_inputs.specs.declared.error.InputError.{InputError}
pub use Rattle.m51_isa.specs.declared.instr.Instr.{Instr}
pub use Rattle.m51_jobs.specs.Endings.{is_source, ending_of}
pub use Rattle.m51_jobs.specs.Files.{file_count, name_kept, names_read}
pub use Rattle.m51_jobs.specs.declared.job.BuildJob.{BuildJob}
pub use Rattle.m51_jobs.specs.declared.job.FlatJob.{FlatJob}
pub use Rattle.m51_jobs.specs.declared.job.Job.{Job}
pub use Rattle.m51_linker.proofs.RunsGrow.{ends_below, runs_more, same_runs}
pub use Rattle.m51_linker.specs.Link.{Program, AreRoots, IsLinked, placed_of, joined_of, checked_of}
pub use Rattle.m51_linker.specs.Runs.{AreRuns, IsInRun}
pub use Rattle.m51_linker.specs.Stretches.{byte_among, Stretch, byte_in, stretch_at}
pub use Rattle.m51_linker.specs.Targets.{address_of}
pub use Rattle.m51_linker.specs.declared.linked.Linked.{Linked}
pub use Rattle.m51_module.proofs.Units.{one_root, same_or_not}
pub use Rattle.m51_module.specs.Plan.{IsRootAt, IsUnitAt, layout_graph}
pub use Rattle.m51_module.specs.Roots.{vectors}
pub use Rattle.m51_module.specs.Sound.{IsSound}
pub use Rattle.m51_module.specs.Validity.{IsValid, IsFixupValid, IsHeld, field_len, IsBitNumber}
pub use Rattle.m51_module.specs.Walks.{Edges, HasEdge, IsWalk, Reaches, last_of}
pub use Rattle.m51_module.specs.declared.content.Fixup.{Fixup}
pub use Rattle.m51_module.specs.declared.content.Form.{Form}
pub use Rattle.m51_module.specs.declared.content.Piece.{Piece}
pub use Rattle.m51_module.specs.declared.linked.Chain.{Chain}
pub use Rattle.m51_module.specs.declared.linked.Refusal.{Refusal}
pub use Rattle.m51_module.specs.declared.linked.Refusal.TheVariants.{L6, L7, L12, L8}
pub use Rattle.m51_module.specs.declared.linked.Run.{Run}
pub use Rattle.m51_module.specs.declared.parts.LayoutParts.{LayoutParts}
pub use Rattle.m51_module.specs.declared.parts.ModuleParts.{ModuleParts}
pub use Rattle.m51_module.specs.declared.source.Row.{Row}
pub use Rattle.m51_module.specs.declared.source.SourceFile.{SourceFile}
pub use Rattle.m51_module.specs.declared.stack_bound.StackBound.{StackBound}
pub use Rattle.m51_module.specs.declared.stack_bound.StackError.{StackError}
pub use Rattle.m51_place.proofs.Tight.{weights_agree, of_located, figure_is_weight}
pub use Rattle.m51_place.proofs.Whole.{unless_none, placed_whole}
pub use Rattle.m51_place.specs.Placement.{located_of, placing_of, place_after}
pub use Rattle.m51_place.specs.declared.placing.Placing.{Placing}
pub use Rattle.m51_print.specs.Refusals.{refusal_text, after_blank}
pub use Rattle.m51_records.proofs.FieldLaws.{IsBytes, fit_back, fit_front}
pub use Rattle.m51_records.proofs.ModuleLaws.{IsRead, module_takes}
pub use Rattle.m51_resolve.specs.Joining.{segments_of}
pub use Rattle.m51_resolve.specs.Rules.{AreResolved, resolved_of, first_refusal, unless_refused}
pub use Rattle.m51_resolve.specs.declared.segment.JoinedSegment.{JoinedSegment}
pub use Rattle.m51_script.specs.declared.error.ScriptError.{ScriptError}
pub use Rattle.m51_script.specs.declared.script.Script.{Script}
pub use Rattle.m51_shelf.specs.Shelf.{Files}
pub use Rattle.m51_sim.proofs.Keeping.{flat_runs_agree, inside_ok}
pub use Rattle.m51_sim.specs.Boards.{BoardState, IsStarted}
pub use Rattle.m51_sim.specs.Cycles.{inputs_of, Inputs}
pub use Rattle.m51_stmt.proofs.ListWords.{Each, some_each}
pub use Rattle.m51_stmt.proofs.PrintedLists.{IsItem}
pub use Rattle.m51_stmt.proofs.PrintedOperands.{IsOperand}
pub use Rattle.m51_stmt.proofs.PrintedTrees.{IsTree}
pub use Rattle.m51_stmt.specs.Laws.{IsByte}
pub use Rattle.std.proofs.lemmas.Bool.{cases_Bool, cases_lt, false≢true, le-leb, cases_eq, ltb-true, cond_both, lt-ltb}
pub use Rattle.std.proofs.lemmas.Bool.{cases_order, eq-eqb, eqb-true, not-true}
pub use Rattle.std.proofs.lemmas.Bool.Decides.{nat_tests, leb_tells}
pub use Rattle.std.proofs.lemmas.List.Elements.{Contains-get_or, All-head, All-tail, All-nil, All-cons, All-take}
pub use Rattle.std.proofs.lemmas.List.Elements.{All-from_get_or, All-from_recursion}
pub use Rattle.std.proofs.lemmas.Option.{slice_get-get_or, slice_get_within, same_Some, slice_get_past}
pub use Rattle.std.specs.List.{Contains, list_any, All, flat_map, range_with_len, cons_option, filter_map}
pub use Rattle.std.specs.List.{AllByRecursion, list_all, AllZip, sum_by}
pub use Rattle.std.specs.Option.{option_map_or, option_or}
pub use Rattle.std.specs.Prelude.{option_map, slice_get, unwrap_or, is_some, nat_le, slice_index_or, count_by, codes}
pub use Rattle.std.specs.Prelude.{length, if◌then◌else◌, nat_lt}
pub use Rattle.std.specs.Str.{bytes_eq}
