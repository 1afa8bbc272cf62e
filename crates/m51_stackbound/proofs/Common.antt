-- What three or more files of these proofs import.
pub use Rattle.std.proofs.Common.{◌++◌, ◌+◌, ◌-◌, ◌<◌, ◌∙◌, ◌∷◌, ◌≡◌, ◌≢◌, ◌≤◌, ◌⊎◌, Bool, List, None, Option, Some, []}
pub use Rattle.std.proofs.Common.{ap, arith, false, get_or, inl, inr, length, map, not, refl, replicate, set, subst}
pub use Rattle.std.proofs.Common.{suc, sym, take, true, zero, ℕ}
pub use Rattle.std.proofs.lemmas.Bool.{cases_Bool, cases_lt}
pub use Rattle.std.proofs.lemmas.Grind.{common_steps}
pub use Rattle.std.proofs.lemmas.List.{get_or-set_other, get_or-set_same, length-replicate, length-set, take_all}
pub use Rattle.std.proofs.lemmas.List.{take_more}
pub use Rattle.std.proofs.lemmas.List.Elements.{Contains-append_left, Contains-get_or, Contains-push}
pub use Rattle.std.proofs.lemmas.List.Elements.{Contains-push_cases}
pub use Rattle.std.proofs.lemmas.Map.Views.{Contains-from_any, list_any-from_Contains}
pub use Rattle.std.specs.List.{Contains, list_any}
pub use Rattle.std.specs.Prelude.{Err, Ok, Result, if◌then◌else◌, is_some, nat_eq, nat_lt}
pub use Rattle.m51_cells.proofs.Small.{contains_after, first_or_after, none_in_empty}
pub use Rattle.m51_isa.specs.declared.instr.Instr.{Instr}
pub use Rattle.m51_module.proofs.Units.{same_or_not}
pub use Rattle.m51_module.specs.Plan.{IsRootAt, IsUnitAt}
pub use Rattle.m51_module.specs.Rising.{Rises}
pub use Rattle.m51_module.specs.Roots.{vectors}
pub use Rattle.m51_module.specs.Sound.{IsSound}
pub use Rattle.m51_module.specs.declared.parts.LayoutParts.{LayoutParts}
pub use Rattle.m51_module.specs.declared.stack_bound.Proc.{Proc}
pub use Rattle.m51_module.specs.declared.stack_bound.RootDepth.{RootDepth}
pub use Rattle.m51_module.specs.declared.stack_bound.StackBound.{StackBound}
pub use Rattle.m51_module.specs.declared.start.Start.{Start}
pub use Rattle.m51_module.specs.declared.start.Start.TheVariants.{At, Reset}
pub use Rattle.m51_stackbound.specs.Bounds.{ComesTo, HasTwoHeights, IsCyclic, IsTotal, Keeps, Nothing, One}
pub use Rattle.m51_stackbound.specs.Callers.{AreCallRows, AreCleared, GoesOn, IsClosed, callee_row, calls_of}
pub use Rattle.m51_stackbound.specs.Climb.{AreSettled, IsClimbing, IsRaised, Raises, cap, depth_in}
pub use Rattle.m51_stackbound.specs.Depths.{CallsAt, CallsThrough, HasHeight, IsDepth, Own, Takes}
pub use Rattle.m51_stackbound.specs.Listing.{AreListed, AreStarts, is_noted}
pub use Rattle.m51_stackbound.specs.Nexts.{AreNexts, AreRootRows, next_in}
pub use Rattle.m51_stackbound.specs.Points.{After, First, IsPoint, IsReached, call_of, entry_at, first_points, point_at}
pub use Rattle.m51_stackbound.specs.Points.{successors}
pub use Rattle.m51_stackbound.specs.Rules.{IsFirstBreach, IsLeast, rank, reached_address}
pub use Rattle.m51_stackbound.specs.Search.{ArePoints, Notes, NotesAll}
pub use Rattle.m51_stackbound.specs.Totals.{AreGreatest, IsSum}
pub use Rattle.m51_stackbound.specs.Twice.{HasTwo, NotesPlace}
pub use Rattle.m51_stackbound.specs.Units.{handlers, interrupts}
pub use Rattle.m51_stackbound.specs.declared.calls.Call.{Call}
pub use Rattle.m51_stackbound.specs.declared.judging.Rule.{Rule}
pub use Rattle.m51_stackbound.specs.declared.paths.Next.{Next}
pub use Rattle.m51_stackbound.specs.declared.point.Point.{Point}
pub use Rattle.m51_stackbound.specs.declared.point.ReachedAddress.{ReachedAddress}
