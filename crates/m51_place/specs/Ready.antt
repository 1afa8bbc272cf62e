-- Of the code: what placing one segment after another needs.
use Rattle.std.specs.Prelude.{◌≡◌, ◌≢◌, ℕ, ◌<◌, true, length, Some}
use Rattle.m51_cells.specs.declared.kind.Kind.TheVariants.{Number}
use Rattle.m51_cells.specs.Fits.{allows}
use Rattle.m51_graph.specs.declared.parts.GraphParts.{GraphParts}
use Rattle.m51_place.specs.declared.numbered.Numbered.{Numbered}
use Rattle.m51_place.specs.declared.ranked.Ranked.{Ranked}

-- the extent is no segment, or a joined segment of the graph
pub record IsNumbered (g : GraphParts) (e : Numbered) : Type 0 where
  pub inside : (number : ℕ) → e.number ≡ Some number → number < length g.own

-- the segment is a joined segment of the graph, and its kind allows its type
pub record IsPlaceable (g : GraphParts) (t : Ranked) : Type 0 where
  pub inside : t.number < length g.own
  pub kind : t.segment.kind ≢ Number
  pub reloc : allows t.segment.kind t.segment.reloc ≡ true
