-- What several files of these proofs import.
pub use Rattle.m51_cells.specs.Outcome.{RefusesWith, and_then}
pub use Rattle.m51_chain.specs.Builds.{build_files}
pub use Rattle.m51_chain.specs.Edits.{edited_each, object_edits}
pub use Rattle.m51_chain.specs.LinkRefusals.{link_outcome}
pub use Rattle.m51_chain.specs.Linking.{AreLinked, Follows, IsInputsOutcome, IsLinkedOr, IsLinkedOutcome}
pub use Rattle.m51_chain.specs.Linking.{IsProgramOutcome, Unlinked, sole_program}
pub use Rattle.m51_chain.specs.Parties.{AreBoardsFor, AreBoardsOf, IsBoardOf, IsPartyWork, party_files}
pub use Rattle.m51_chain.specs.Reading.{AreGiven, AreRead, Reading, ReadsSome, TooLong, Whole, read_of}
pub use Rattle.m51_chain.specs.Refusals.{hex_outcome}
pub use Rattle.m51_chain.specs.ScriptRefusals.{script_outcome}
pub use Rattle.m51_chain.specs.Targets.{unkept_text}
pub use Rattle.m51_chain.specs.Verbs.{IsOutcome}
pub use Rattle.m51_chain.specs.declared.linking.LinkedFiles.{LinkedFiles}
pub use Rattle.m51_chain.specs.declared.status.Status.{Status}
pub use Rattle.m51_chain.specs.declared.work.Finished.{Finished}
pub use Rattle.m51_chain.specs.declared.work.Stop.{Stop}
pub use Rattle.m51_generator.specs.Lines.{generated}
pub use Rattle.m51_inputs.specs.Inputs.{InputsTree, inputs_tree}
pub use Rattle.m51_inputs.specs.declared.error.InputError.{InputError}
pub use Rattle.m51_jobs.specs.declared.job.Job.{Job}
pub use Rattle.m51_jobs.specs.declared.job.PartyJob.{PartyJob}
pub use Rattle.m51_linker.specs.Link.{Program}
pub use Rattle.m51_linker.specs.declared.linked.Linked.{Linked}
pub use Rattle.m51_module.specs.Roots.{vectors}
pub use Rattle.m51_module.specs.Sound.{IsSound}
pub use Rattle.m51_module.specs.declared.image.TheConstants.{IMAGE_LEN}
pub use Rattle.m51_module.specs.declared.linked.Chain.{Chain}
pub use Rattle.m51_module.specs.declared.linked.Refusal.{Refusal}
pub use Rattle.m51_module.specs.declared.linked.Run.{Run}
pub use Rattle.m51_module.specs.declared.parts.LayoutParts.{LayoutParts}
pub use Rattle.m51_module.specs.declared.parts.ModuleParts.{ModuleParts}
pub use Rattle.m51_module.specs.declared.source.SourceFile.{SourceFile}
pub use Rattle.m51_party.specs.Report.{IsPartyReport, has_event}
pub use Rattle.m51_party.specs.Rounds.{family_of}
pub use Rattle.m51_script.specs.declared.script.Script.{Script}
pub use Rattle.m51_shelf.specs.States.{ReadAt}
pub use Rattle.m51_sim.specs.Boards.{BoardState, IsStarted}
pub use Rattle.std.proofs.Common.{Bool, Err, List, None, Ok, Option, Result, Some, [], ap, append-nil, append_assoc}
pub use Rattle.std.proofs.Common.{arith, cond, drop, drop-cons, false, get_or, inl, inr, length, map, refl, subst, suc}
pub use Rattle.std.proofs.Common.{sym, take, true, zero, ℕ, ◌++◌, ◌+◌, ◌<◌, ◌∙◌, ◌∷◌, ◌≡◌, ◌≤◌, ◌⊎◌}
pub use Rattle.std.proofs.lemmas.Option.{IfSome_then}
