-- What three or more files of these proofs import.
pub use Rattle.std.proofs.Common.{◌&&◌, ◌*◌, ◌++◌, ◌+◌, ◌-◌, ◌<◌, ◌||◌, ◌∙◌, ◌∷◌, ◌≡◌, ◌≤◌, ◌⊎◌, Bool, List, None}
pub use Rattle.std.proofs.Common.{Option, Some, [], add-one, ap, arith, cond, drop, false, filter, get_or, inl, inr}
pub use Rattle.std.proofs.Common.{length, map, nat_eq, not, refl, subst, suc, sum, sym, take, true, zero, ℕ}
pub use Rattle.std.proofs.lemmas.Bool.{and_from, and_parts, cases_Bool, cases_eq, false≢true, ne_eqb}
pub use Rattle.std.proofs.lemmas.Bool.Decides.{Decides-at, Decides-eqb}
pub use Rattle.std.proofs.lemmas.List.{take_more}
pub use Rattle.std.proofs.lemmas.List.Folds.{Any-from_list_any, list_any_at}
pub use Rattle.std.specs.Bool.{Decides}
pub use Rattle.std.specs.List.{Contains, cons_option, filter_map, list_any, range_with_len}
pub use Rattle.std.specs.Option.{option_map_or, option_or}
pub use Rattle.std.specs.Prelude.{flat_map, slice_get}
pub use Rattle.std.specs.Str.{bytes_eq}
pub use Rattle.m51_cells.proofs.Small.{contains_after, first_or_after, none_in_empty}
pub use Rattle.m51_control.specs.declared.control.Control.{Control}
pub use Rattle.m51_graph.specs.Climbing.{AreWalked, IsClimbing}
pub use Rattle.m51_graph.specs.Drawing.{added_by, cuts, edge_named, edge_test, fixup_edge, fixup_edges, has_edge}
pub use Rattle.m51_graph.specs.Drawing.{is_cut, is_edge, module_edges, same_edge, with_edge, with_edges}
pub use Rattle.m51_graph.specs.Graph.{AreOfUnits, LeadWithin}
pub use Rattle.m51_graph.specs.Graphs.{cyclic_from, first_under_two, lies_under}
pub use Rattle.m51_graph.specs.Levels.{IsLevel}
pub use Rattle.m51_graph.specs.Locals.{is_apart, overlaid_by}
pub use Rattle.m51_graph.specs.Relating.{AddsBits}
pub use Rattle.m51_graph.specs.Units.{code_segments, named, unit_titles, units_from, units_of}
pub use Rattle.m51_graph.specs.declared.parts.GraphParts.{GraphParts}
pub use Rattle.m51_graph.specs.declared.tables.Tables.{Tables}
pub use Rattle.m51_module.proofs.Reach.{reach_edge}
pub use Rattle.m51_module.specs.Roots.{vectors}
pub use Rattle.m51_module.specs.Walks.{Edges, HasEdge, IsWalk, Reaches, last_of}
pub use Rattle.m51_module.specs.declared.content.Fixup.{Fixup}
pub use Rattle.m51_module.specs.declared.parts.ModuleParts.{ModuleParts}
pub use Rattle.m51_relations.specs.Bits.{bit}
pub use Rattle.m51_relations.specs.Rows.{flipped, pairs}
pub use Rattle.m51_resolve.specs.Joining.{segments_of}
pub use Rattle.m51_resolve.specs.declared.segment.JoinedSegment.{JoinedSegment}
