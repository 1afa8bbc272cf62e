-- Other layouts of the same segments, and how few bytes they can cover by overlaid ones.
use Rattle.std.specs.Prelude.{◌≡◌, ℕ, ◌≤◌}
use Rattle.std.specs.List.{AllZip}
use Rattle.m51_module.specs.declared.parts.LayoutParts.{LayoutParts}
use Rattle.m51_module.specs.declared.placed.Mark.TheVariants.{Absolute}
use Rattle.m51_module.specs.declared.placed.Placed.{Placed}
use Rattle.m51_module.specs.Sound.{IsSound}
use Rattle.m51_print.specs.Map.{overlaid_below}

-- an extent with whatever base, and else the same; only an absolute segment keeps its base
pub record HasOtherBase (p q : Placed) : Type 0 where
  pub title : q.title ≡ p.title
  pub kind : q.kind ≡ p.kind
  pub reloc : q.reloc ≡ p.reloc
  pub mark : q.mark ≡ p.mark
  pub size : q.size ≡ p.size
  pub absolute : p.mark ≡ Absolute → q.base ≡ p.base

-- A layout of the same segments, whatever their bases: it has the same units, edges and owners, and the same extents in
-- the same order, each at its base or at another.
pub record HasSameSegments (l other : LayoutParts) : Type 0 where
  pub units : other.units ≡ l.units
  pub edges : other.edges ≡ l.edges
  pub owners : other.owners ≡ l.owners
  pub placed : AllZip HasOtherBase l.placed other.placed

-- The layout covers this number of bytes of internal RAM by overlaid DATA, as its map says, and each sound layout of
-- the same segments covers at least as many.
pub record CoversLeast (l : LayoutParts) (bytes : ℕ) : Type 0 where
  pub covers : overlaid_below l.placed 256 ≡ bytes
  pub least : (other : LayoutParts) → HasSameSegments l other → IsSound other → bytes ≤ overlaid_below other.placed 256
