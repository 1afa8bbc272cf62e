-- What three or more files of these proofs import.
pub use Rattle.std.proofs.Common.{◌&&◌, ◌*◌, ◌++◌, ◌+◌, ◌<◌, ◌||◌, ◌∙◌, ◌∷◌, ◌≡◌, ◌≤◌, Bool, List, None, Option, Some}
pub use Rattle.std.proofs.Common.{[], ap, append_assoc, arith, cond, drop, false, get_or, inl, inr, is_some, length}
pub use Rattle.std.proofs.Common.{length-append, map, not, refl, subst, suc, sym, take, true, zero, zero-add, ℕ}
pub use Rattle.std.proofs.lemmas.Bool.{or_right}
pub use Rattle.std.proofs.lemmas.List.{append-nil, length-map, take_more}
pub use Rattle.std.proofs.lemmas.List.Folds.{list_any-append, list_any_at}
pub use Rattle.std.proofs.lemmas.List.Quantifiers.{position-Some}
pub use Rattle.std.proofs.lemmas.Option.{slice_get-get_or}
pub use Rattle.std.proofs.lemmas.Slice.Eq.{bytes_eq-Decides}
pub use Rattle.std.specs.List.{Contains, filter, list_any}
pub use Rattle.std.specs.Option.{option_map_or, option_or}
pub use Rattle.std.specs.Prelude.{All, find, flat_map, nat_lt, option_map, position, slice_get, unwrap_or}
pub use Rattle.std.specs.Str.{bytes_eq}
pub use Rattle.m51_cells.proofs.ListsAndOptions.{map_none}
pub use Rattle.m51_cells.specs.declared.limits.TheConstants.{MOST_MODULES}
pub use Rattle.m51_module.specs.Library.{defines, has_public}
pub use Rattle.m51_module.specs.declared.parts.ModuleParts.{ModuleParts}
pub use Rattle.m51_module.specs.declared.segment.Segment.{Segment}
pub use Rattle.m51_module.specs.declared.symbol.External.{External}
pub use Rattle.m51_module.specs.declared.symbol.Public.{Public}
pub use Rattle.m51_resolve.specs.Choice.{choice, first_needed, is_needed, wants}
pub use Rattle.m51_resolve.specs.Joining.{all_segments, are_parts, firsts, is_relocatable, joined_of, part_after}
pub use Rattle.m51_resolve.specs.Joining.{segments_of}
pub use Rattle.m51_resolve.specs.Kept.{AreStarts, parts_after}
pub use Rattle.m51_resolve.specs.Publics.{all_externals, definition_among, definition_from, public_definition}
pub use Rattle.m51_resolve.specs.Rules.{shared_public, unless_refused}
pub use Rattle.m51_resolve.specs.WorkChoice.{IsEarliest, IsNext, IsWanted, defining_module, supplier}
pub use Rattle.m51_resolve.specs.WorkJoining.{all_growing}
pub use Rattle.m51_resolve.specs.WorkNames.{AreAskedFor, AreDefinitions, AreNamed, AreWanted, Wants, definition_in}
pub use Rattle.m51_resolve.specs.WorkNames.{entry_by_name, shared_in, wanted_in}
pub use Rattle.m51_resolve.specs.declared.definitions.Defined.{Defined}
pub use Rattle.m51_resolve.specs.declared.joining.Growing.{Growing}
pub use Rattle.m51_resolve.specs.declared.joining.SegmentPart.{SegmentPart}
pub use Rattle.m51_resolve.specs.declared.publics.Definition.{Definition}
