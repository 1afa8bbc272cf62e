-- Where the joined segments are placed.
use Rattle.std.specs.Prelude.{◌≡◌, ℕ, ◌+◌, ◌≤◌, true, List, length, slice_get, slice_index, Some}
use Rattle.std.specs.List.{Contains}
use Rattle.m51_cells.specs.declared.kind.Kind.TheVariants.{Code}
use Rattle.m51_cells.specs.Kinds.{is_absolute}
use Rattle.m51_module.specs.declared.parts.LayoutParts.{LayoutParts}
use Rattle.m51_module.specs.declared.placed.Mark.TheVariants.{Absolute}
use Rattle.m51_module.specs.declared.placed.Placed.{Placed}
use Rattle.m51_resolve.specs.declared.segment.JoinedSegment.{JoinedSegment}
use Rattle.m51_place.specs.declared.placing.Placing.{Placing}

-- the extent is the segment, an absolute one at its own base; one of program memory ends in it
pub record IsSegmentAt (j : JoinedSegment) (p : Placed) : Type 0 where
  pub title : p.title ≡ j.title
  pub kind : p.kind ≡ j.kind
  pub reloc : p.reloc ≡ j.reloc
  pub size : p.size ≡ j.size
  pub absolute : is_absolute j.reloc ≡ true → (p.mark ≡ Absolute) × (p.base ≡ j.base)
  pub room : p.kind ≡ Code → p.base + p.size ≤ 65536

-- one of the placed extents, which begins there, is the segment
pub record IsPlacedAs (l : LayoutParts) (base : ℕ) (j : JoinedSegment) : Type 0 where
  pub placed : Placed
  pub there : Contains l.placed placed
  pub begins : placed.base ≡ base
  pub is : IsSegmentAt j placed

-- Each joined segment has a base: that of an extent of the layout, which is the segment.
pub record ArePlaces (segments : List JoinedSegment) (p : Placing) : Type 0 where
  pub len : length p.bases ≡ length segments
  pub each : (number : ℕ) (j : JoinedSegment) → slice_get segments number ≡ Some j
      → IsPlacedAs p.layout (slice_index p.bases number) j
